-- A course keeps what holds of it as entries come.
use Rattle.std.specs.Prelude.{◌≡◌, ◌≤◌, ◌||◌, refl, ℕ, Bool, true, false, List, [], ◌∷◌, ◌++◌, Some, if◌then◌else◌}
use Rattle.std.specs.List.{AllByRecursion}
use Rattle.std.proofs.Common.{ap, sym, ◌∙◌, arith}
use Rattle.std.proofs.lemmas.Bool.{le-leb}
use Rattle.iq_history.specs.declared.entries.Entry.{Entry}
use Rattle.iq_history.specs.declared.entries.Entry.TheVariants as entries
use Rattle.iq_replay.specs.State.{State}
use Rattle.iq_replay.specs.Lines.{first_running}
use Rattle.iq_replay.specs.Entries.{IsPossible, change}
use Rattle.iq_replay.specs.Histories.{replay, IsLegal, closes, line_of, low_after}
use Rattle.iq_replay.specs.Laws.{low_behind}
use Rattle.iq_replay.proofs.Histories.{replay-push, IsLegal-push, IsInOrder-push}
use Rattle.iq_script_order.specs.Fixed.{IsUndisturbed, IsUndisturbedRun}
use Rattle.iq_plain_runs.specs.Courses.{IsNextOf, IsCourse, IsOver, Course, IsRun}

all_push : {X : Type 0} (P : X → Type 0) (xs : List X) (x : X) → AllByRecursion P xs → P x → AllByRecursion P (xs ++ x ∷ [])
all_push P [] x h p = (p, tt)
all_push P (y ∷ ys) x h p = (h.0, all_push P ys x h.1 p)

low_push : (low : ℕ) (es : List Entry) (e : Entry) → low_behind low (es ++ e ∷ []) ≡ low_after (low_behind low es) e
low_push low [] e = refl
low_push low (f ∷ es) e = low_push (low_after low f) es e

or_true : (a b : Bool) → b ≡ true → (a || b) ≡ true
or_true true b h = refl
or_true false b h = h

low_within : (b : Bool) (before line low : ℕ) → before ≤ low → line ≤ low → (if b then before else line) ≤ low
low_within true before line low h k = h
low_within false before line low h k = k

pub course_begun : (first : State) → IsCourse first first [] 1
unfolding replay IsLegal
course_begun first = record { legal = tt; state_is = refl; ordered = tt; low_is = omega arith; undisturbed = tt }

possible_at : (first state : State) (es : List Entry) (e : Entry) → state ≡ replay first es → IsPossible state e → IsPossible (replay first es) e
possible_at first state es e is h = rw is at h

pub course_came : (first state : State) (es : List Entry) (low l : ℕ) (e : Entry) → IsCourse first state es low → IsNextOf state l e → low ≤ l → IsCourse first (change state e) (es ++ e ∷ []) l
course_came first state es low l e h next above = let line : line_of e ≤ l = omega (arith, next.line) in record {
  legal = IsLegal-push first es e h.legal (possible_at first state es e h.state_is next.possible);
  state_is = ap (λ (s : State). change s e) h.state_is ∙ sym (replay-push first es e);
  ordered = IsInOrder-push 1 es e h.ordered (or_true (closes e) _ (le-leb (low_behind 1 es) (line_of e) (omega (arith, next.line, h.low_is, above))));
  low_is = rw (low_push 1 es e) (low_within (closes e) (low_behind 1 es) (line_of e) l (omega (arith, h.low_is, above)) line);
  undisturbed = all_push IsUndisturbed es e h.undisturbed next.undisturbed;
}

pub course_closed : (first state : State) (es : List Entry) (low s : ℕ) → IsCourse first state es low → first_running 0 state.sessions ≡ Some s
    → IsCourse first (change state (entries.Rollback s 0)) (es ++ entries.Rollback s 0 ∷ []) low
unfolding IsPossible
course_closed first state es low s h first_is = record {
  legal = IsLegal-push first es (entries.Rollback s 0) h.legal (possible_at first state es (entries.Rollback s 0) h.state_is first_is);
  state_is = ap (λ (t : State). change t (entries.Rollback s 0)) h.state_is ∙ sym (replay-push first es (entries.Rollback s 0));
  ordered = IsInOrder-push 1 es (entries.Rollback s 0) h.ordered refl;
  low_is = rw (low_push 1 es (entries.Rollback s 0)) h.low_is;
  undisturbed = all_push IsUndisturbed es (entries.Rollback s 0) h.undisturbed tt;
}

over_at : (first state : State) (es : List Entry) → state ≡ replay first es → IsOver state → IsOver (replay first es)
over_at first state es is h = rw is at h

pub course_whole : (first state : State) (es : List Entry) (low : ℕ) → IsCourse first state es low → IsOver state → IsUndisturbedRun first es
course_whole first state es low h over =
    let at = over_at first state es h.state_is over in
    record { whole = record { legal = h.legal; sessions = at.sessions; steps = at.steps }; ordered = h.ordered; undisturbed = h.undisturbed }

pub course_run : (course : Course) (low : ℕ) → IsCourse course.first course.state course.entries low → IsOver course.state → IsRun course
course_run course low h over = record { run = course_whole course.first course.state course.entries low h over; state_is = h.state_is }
