-- Two undisturbed whole histories in script order leave the same.
use Rattle.std.specs.Prelude.{◌≡◌, ◌<◌, ◌≤◌, refl, ℕ, zero, suc, Bool, true, false, List, [], ◌∷◌, Option, Some, None, length}
use Rattle.std.specs.List.{slice_get}
use Rattle.std.specs.Option.{option_map}
use Rattle.std.proofs.Common.{◌∙◌, arith, ap, sym}
use Rattle.std.proofs.lemmas.Bool.{leb-true}
use Rattle.iq_base.specs.Shorts.{Name}
use Rattle.iq_base.specs.declared.refusals.Refusal.{Refusal}
use Rattle.iq_history.specs.declared.entries.Entry.{Entry}
use Rattle.iq_history.specs.declared.entries.Entry.TheVariants as entries
use Rattle.iq_statements.specs.Checks.{first_refusal}
use Rattle.iq_replay.specs.State.{State, Session, Stage, fresh, begun, locked, done}
use Rattle.iq_replay.specs.Refusals.{line_checks}
use Rattle.iq_replay.specs.Asked.{IsUnlocked}
use Rattle.iq_replay.specs.Lines.{CanLock, first_running}
use Rattle.iq_replay.specs.Causes.{faults_after}
use Rattle.iq_replay.specs.Changes.{locks_more}
use Rattle.iq_replay.specs.Entries.{change}
use Rattle.iq_replay.specs.Histories.{replay, line_of, closes, low_after, AllEnded}
use Rattle.iq_replay.proofs.Lines.{LineFound}
use Rattle.iq_replay.proofs.Places.{slice_get-changed}
use Rattle.iq_script_order.proofs.Left.{has_number, left_in}
use Rattle.iq_script_order.proofs.Stays.{IsLeft, in_session, in_steps, none_left, still-none}
use Rattle.iq_script_order.proofs.Next.{next_found}
use Rattle.iq_script_order.proofs.Steps.{entry_uncounted}
use Rattle.iq_script_order.proofs.Sound.{IsSound}
use Rattle.iq_script_order.proofs.Same.{Same, Same-sym, change_both}
use Rattle.iq_script_order.proofs.Found.{IsNext, of_session, of_steps, EarlyLock, Goes_on, next, early, goes_on}
use Rattle.iq_script_order.proofs.Early.{after_lock, first_of_lock, changed_twice}
use Rattle.iq_script_order.proofs.Fixed.{has_first, one_next, next_same, left_same, Closing, closing_is, Runs, possible_first, runs_behind, first_some, first_left, not_closed, passes}

-- LOCKS BEFORE REFUSALS

-- a refusal is told as it is
uncounted_refused : (g : Entry) (place : Option ℕ) (l : ℕ) (cause : Refusal) → entry_uncounted g ≡ entries.Refused place l cause → g ≡ entries.Refused place l cause
uncounted_refused (entries.Take m number horizon freed) place l cause h = cc h
uncounted_refused (entries.Own n m horizon freed) place l cause h = cc h
uncounted_refused (entries.Space m census) place l cause h = cc h
uncounted_refused other place l cause h = h

-- the state behind a lock and a refusal is the one behind the refusal
lock_refused : (s : State) (place l : ℕ) (names : List Name) (cause : Refusal) → change (change s (entries.Lock place l names)) (entries.Refused (Some place) l cause) ≡ change s (entries.Refused (Some place) l cause)
unfolding change
lock_refused s place l names cause = ap (λ (sessions : List Session). record s { faults = faults_after cause s.faults; sessions = sessions }) (changed_twice place l cause names s.sessions)

-- the line behind a lock goes on with the refusal
refusal_next : (s : State) (l : ℕ) (place : ℕ) (names : List Name) (cause : Refusal) → (found : LineFound s place l (CanLock s place names)) → first_refusal (line_checks s place found.session found.statement) ≡ Some cause
    → IsNext (after_lock s place names) l (entries.Refused (Some place) l cause)
refusal_next s l place names cause found first =
    of_session (record {
      place = place;
      session = locks_more names found.session;
      line = found.line;
      lines = found.lines;
      statement = found.statement;
      found = slice_get-changed place (locks_more names) s.sessions ∙ ap (option_map (locks_more names)) found.found;
      left = found.left;
      number = found.number;
      deed = found.deed;
      next = next_found (after_lock s place names) place l (locks_more names found.session) found.statement cause tt (first_of_lock s place names found.session found.statement found.holds ∙ first);
    })

next_has : (s : State) (l : ℕ) (e : Entry) → IsNext s l e → IsLeft l s
next_has s l e (of_session a) = in_session a.place (ap (λ (o : Option Session). has_number l (left_in o)) a.found ∙ ap (has_number l) a.left ∙ has_first l a.line a.lines a.number)
next_has s l e (of_steps a) = in_steps (ap (has_number l) a.left ∙ has_first l a.line a.lines a.number)

after_is : (s : State) (place l : ℕ) (names : List Name) → change s (entries.Lock place l names) ≡ after_lock s place names
unfolding change
after_is s place l names = refl

-- behind the lock no lock comes again
not_again : (s : State) (l : ℕ) (place : ℕ) (names : List Name) (cause : Refusal) (g : Entry) → IsSound (after_lock s place names) → IsNext (after_lock s place names) l (entries.Refused (Some place) l cause)
    → EarlyLock (after_lock s place names) l g → slice_get (after_lock s place names).sessions place ≡ option_map (locks_more names) (slice_get s.sessions place) → ⊥
not_again s l place names cause g sound is again changed = at_place (same_place (one_next (after_lock s place names) l _ _ sound.numbers is (of_session (record {
  place = again.place;
  session = again.line.session;
  line = again.line.line;
  lines = again.line.lines;
  statement = again.line.statement;
  found = again.line.found;
  left = again.line.left;
  number = again.line.number;
  deed = again.line.deed;
  next = again.next;
}))))
  where
    same_place : entries.Refused (Some place) l cause ≡ entries.Refused (Some again.place) l again.cause → place ≡ again.place
    same_place p = cc p

    stage_at : (o : Option Session) → option_map (locks_more names) o ≡ Some again.line.session → again.line.session.stage ≡ locked
    stage_at None p = cc p
    stage_at (Some session) p = at_same (locks_more names session) refl (cc p)
      where
        at_same : (this : Session) → this.stage ≡ locked → this ≡ again.line.session → again.line.session.stage ≡ locked
        at_same this q same = rw (← same) q

    not_unlocked : (stage : Stage) → stage ≡ locked → IsUnlocked stage → ⊥
    not_unlocked fresh p q = cc p
    not_unlocked begun p q = cc p
    not_unlocked locked p q = q
    not_unlocked done p q = q

    at_place : place ≡ again.place → ⊥
    at_place p = not_unlocked again.line.session.stage (stage_at (slice_get s.sessions place) (sym changed ∙ ap (slice_get (after_lock s place names).sessions) p ∙ again.line.found)) again.line.holds.stage

-- ONE STEP OF A HISTORY

-- the next entry of a history but for a lock before a refusal, and what comes behind
pub record Forward (s : State) (l : ℕ) (e : Entry) (es : List Entry) : Type 0 where
  pub first : Entry
  pub behind : List Entry
  pub low : ℕ
  pub is : IsNext s l (entry_uncounted first)
  pub runs : Runs low (change s first) behind
  pub less : length behind ≤ length es
  pub same : replay (change s e) es ≡ replay (change s first) behind

-- what comes behind a lock before a refusal
pub record Refusing (s : State) (place l : ℕ) (names : List Name) (cause : Refusal) (es : List Entry) : Type 0 where
  pub behind : List Entry
  pub low : ℕ
  pub runs : Runs low (change s (entries.Refused (Some place) l cause)) behind
  pub less : length behind ≤ length es
  pub same : replay (after_lock s place names) es ≡ replay (change s (entries.Refused (Some place) l cause)) behind

line_as : (s : State) (m l : ℕ) (e : Entry) → m ≡ l → IsNext s m e → IsNext s l e
line_as s m l e is h = rw is at h

early_as : (s : State) (m l : ℕ) (e : Entry) → m ≡ l → EarlyLock s m e → EarlyLock s l e
early_as s m l e is h = rw is at h

refusing : (low : ℕ) (s : State) (place l : ℕ) (names : List Name) (cause : Refusal) (es : List Entry) → 0 < l → low ≡ l
    → IsNext (after_lock s place names) l (entries.Refused (Some place) l cause)
    → slice_get (after_lock s place names).sessions place ≡ option_map (locks_more names) (slice_get s.sessions place)
    → Runs low (after_lock s place names) es → Refusing s place l names cause es
unfolding replay
refusing low s place l names cause [] some low_is is changed runs =
    absurd (none_left (after_lock s place names) l runs.goes.sessions runs.goes.steps (next_has (after_lock s place names) l _ is))
refusing low s place l names cause (g ∷ es) some low_is is changed runs = at_close (closes g) refl
  where
    s1 : State
    s1 = after_lock s place names

    behind_is : g ≡ entries.Refused (Some place) l cause → change s1 g ≡ change s (entries.Refused (Some place) l cause)
    behind_is q = ap (change s1) q ∙ ap (λ (t : State). change t (entries.Refused (Some place) l cause)) (sym (after_is s place l names)) ∙ lock_refused s place l names cause

    at_refused : g ≡ entries.Refused (Some place) l cause → Refusing s place l names cause (g ∷ es)
    at_refused q = record {
      behind = es;
      low = low_after low g;
      runs = rw (behind_is q) at (runs_behind low s1 g es runs);
      less = omega arith;
      same = ap (λ (t : State). replay t es) (behind_is q);
    }

    at_goes : line_of g ≡ l → Goes_on s1 (line_of g) g → Refusing s place l names cause (g ∷ es)
    at_goes line (next n) = at_refused (uncounted_refused g (Some place) l cause (one_next s1 l _ _ runs.sound.numbers (line_as s1 (line_of g) l _ line n) is))
    at_goes line (early a) = absurd (not_again s l place names cause g runs.sound is (early_as s1 (line_of g) l g line a) changed)

    at_close : (b : Bool) → closes g ≡ b → Refusing s place l names cause (g ∷ es)
    at_close true k = absurd (not_closed low l s1 g es runs k some (next_has s1 l _ is))
    at_close false k = at_goes same_line (goes_on s1 g (possible_first low s1 g es runs.goes) runs.undisturbed.0 runs.sound (first_some low s1 g es runs k))
      where
        not_above : line_of g ≤ l
        not_above = passes low l s1 g es runs k some (next_has s1 l _ is)

        same_line : line_of g ≡ l
        same_line = omega (arith, low_is, not_above, leb-true low (line_of g) (rw k at runs.goes.ordered.0))

-- a lock before a refusal with what comes behind it
forward_early : (low : ℕ) (s : State) (e : Entry) (es : List Entry) → closes e ≡ false → 0 < line_of e → EarlyLock s (line_of e) e → Runs (low_after low e) (change s e) es → Forward s (line_of e) e es
forward_early low s e es open_still some a runs = from_refusing (refusing (low_after low e) s a.place (line_of e) a.names a.cause es some low_is
    (refusal_next s (line_of e) a.place a.names a.cause a.line a.first) (slice_get-changed a.place (locks_more a.names) s.sessions) (rw is_after at runs))
  where
    low_is : low_after low e ≡ line_of e
    low_is = rw open_still refl

    is_after : change s e ≡ after_lock s a.place a.names
    is_after = ap (change s) a.lock ∙ after_is s a.place (line_of e) a.names

    first_is : IsNext s (line_of e) (entries.Refused (Some a.place) (line_of e) a.cause)
    first_is = of_session (record {
      place = a.place;
      session = a.line.session;
      line = a.line.line;
      lines = a.line.lines;
      statement = a.line.statement;
      found = a.line.found;
      left = a.line.left;
      number = a.line.number;
      deed = a.line.deed;
      next = a.next;
    })

    from_refusing : Refusing s a.place (line_of e) a.names a.cause es → Forward s (line_of e) e es
    from_refusing r = record {
      first = entries.Refused (Some a.place) (line_of e) a.cause;
      behind = r.behind;
      low = r.low;
      is = first_is;
      runs = r.runs;
      less = r.less;
      same = ap (λ (t : State). replay t es) is_after ∙ r.same;
    }

pub forward : (low : ℕ) (s : State) (e : Entry) (es : List Entry) → Runs low s (e ∷ es) → closes e ≡ false → Forward s (line_of e) e es
forward low s e es runs open_still = at_goes (goes_on s e (possible_first low s e es runs.goes) runs.undisturbed.0 runs.sound (first_some low s e es runs open_still))
  where
    at_goes : Goes_on s (line_of e) e → Forward s (line_of e) e es
    at_goes (next n) = record { first = e; behind = es; low = low_after low e; is = n; runs = runs_behind low s e es runs; less = omega arith; same = refl }
    at_goes (early a) = forward_early low s e es open_still (first_some low s e es runs open_still) a (runs_behind low s e es runs)

-- TWO HISTORIES

sessions_same : (s t : State) → Same s t → t.sessions ≡ s.sessions
sessions_same s t h = ap (λ (u : State). u.sessions) h.rest

steps_same : (s t : State) → Same s t → t.steps ≡ s.steps
steps_same s t h = ap (λ (u : State). u.steps) h.rest

-- a history that has ended has no counterpart that goes on
ended_not : (low : ℕ) (s t : State) (f : Entry) (fs : List Entry) → Same s t → AllEnded s.sessions → s.steps ≡ [] → Runs low t (f ∷ fs) → ⊥
ended_not low s t f fs same ended steps runs = at_close (closes f) refl
  where
    at_first : (place : ℕ) → first_running 0 t.sessions ≡ Some place → ⊥
    at_first place h = cc (h, ap (first_running 0) (sessions_same s t same), still-none 0 s.sessions ended)

    at_close : (b : Bool) → closes f ≡ b → ⊥
    at_close true k = at_first (closing_is t f (possible_first low t f fs runs.goes) k).place (closing_is t f (possible_first low t f fs runs.goes) k).first
    at_close false k = none_left s (line_of f) ended steps (left_same t s (line_of f) (Same-sym s t same) (first_left low t f fs runs k))

-- both histories close with the same entry
both_close : (s t : State) (e f : Entry) → Same s t → Closing s e → Closing t f → entry_uncounted e ≡ entry_uncounted f
both_close s t e f same a b = ap entry_uncounted (at_place (cc (a.first, b.first, ap (first_running 0) (sessions_same s t same))))
  where
    at_place : a.place ≡ b.place → e ≡ f
    at_place p = a.is ∙ ap (λ (q : ℕ). entries.Rollback q 0) p ∙ sym b.is

-- both histories go on with the same line
both_lines : (low low' : ℕ) (s t : State) (e f : Entry) (es fs : List Entry) → Same s t → Runs low s (e ∷ es) → Runs low' t (f ∷ fs) → closes e ≡ false → closes f ≡ false → line_of e ≡ line_of f
both_lines low low' s t e f es fs same a b open_e open_f =
    omega (
      arith,
      passes low (line_of f) s e es a open_e (first_some low' t f fs b open_f) (left_same t s (line_of f) (Same-sym s t same) (first_left low' t f fs b open_f)),
      passes low' (line_of e) t f fs b open_f (first_some low s e es a open_e) (left_same s t (line_of e) same (first_left low s e es a open_e)),
    )

pub fixed : (n : ℕ) (low low' : ℕ) (s t : State) (es fs : List Entry) → length es ≤ n → Same s t → Runs low s es → Runs low' t fs → Same (replay s es) (replay t fs)
unfolding replay
fixed n low low' s t [] [] few same a b = same
fixed n low low' s t [] (f ∷ fs) few same a b = absurd (ended_not low' s t f fs same a.goes.sessions a.goes.steps b)
fixed n low low' s t (e ∷ es) [] few same a b = absurd (ended_not low t s e es (Same-sym s t same) b.goes.sessions b.goes.steps a)
fixed zero low low' s t (e ∷ es) (f ∷ fs) few same a b = absurd (omega (arith, few))
fixed (suc n) low low' s t (e ∷ es) (f ∷ fs) few same a b = at_close (fixed n) (closes e) refl (closes f) refl
  where
    Law : Type 0
    Law = (low low' : ℕ) (s t : State) (es fs : List Entry) → length es ≤ n → Same s t → Runs low s es → Runs low' t fs → Same (replay s es) (replay t fs)

    few_behind : length es ≤ n
    few_behind = omega (arith, few)

    at_forward : Law → closes e ≡ false → closes f ≡ false → Forward s (line_of e) e es → Forward t (line_of f) f fs → Same (replay (change s e) es) (replay (change t f) fs)
    at_forward law open_e open_f p q =
        rw (p.same, q.same)
        (law p.low q.low (change s p.first) (change t q.first) p.behind q.behind (omega (arith, p.less, few_behind))
        (change_both s t p.first q.first same
        (one_next t (line_of f) _ _ b.sound.numbers (next_same s t (line_of f) _ same (line_as s (line_of e) (line_of f) _ (both_lines low low' s t e f es fs same a b open_e open_f) p.is)) q.is))
        p.runs q.runs)

    at_close : Law → (x : Bool) → closes e ≡ x → (y : Bool) → closes f ≡ y → Same (replay (change s e) es) (replay (change t f) fs)
    at_close law true x true y =
        law (low_after low e) (low_after low' f) (change s e) (change t f) es fs few_behind
        (change_both s t e f same (both_close s t e f same (closing_is s e (possible_first low s e es a.goes) x) (closing_is t f (possible_first low' t f fs b.goes) y)))
        (runs_behind low s e es a) (runs_behind low' t f fs b)
    at_close law true x false y = absurd (not_closed low (line_of f) s e es a x (first_some low' t f fs b y) (left_same t s (line_of f) (Same-sym s t same) (first_left low' t f fs b y)))
    at_close law false x true y = absurd (not_closed low' (line_of e) t f fs b y (first_some low s e es a x) (left_same s t (line_of e) same (first_left low s e es a x)))
    at_close law false x false y = at_forward law x y (forward low s e es a x) (forward low' t f fs b y)
