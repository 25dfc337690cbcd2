-- Two undisturbed histories in script order leave the same.
use Rattle.std.specs.Prelude.{◌≡◌, ◌≢◌, ◌⊎◌, ◌<◌, ◌≤◌, refl, ℕ, zero, suc, Bool, true, false, ◌||◌, List, [], ◌∷◌, Option, Some, None, nat_eq, nat_le, if◌then◌else◌, IsSomeAnd}
use Rattle.std.specs.List.{slice_get, AllByRecursion}
use Rattle.std.proofs.Common.{◌∙◌, arith, ap, inl, inr}
use Rattle.std.proofs.lemmas.Bool.{leb-true}
use Rattle.std.proofs.lemmas.Bool.Decides.{eqb_tells, leb_tells}
use Rattle.iq_base.specs.Shorts.{Name}
use Rattle.iq_base.specs.declared.refusals.Refusal.{Refusal}
use Rattle.iq_history.specs.declared.entries.Entry.{Entry}
use Rattle.iq_history.specs.declared.entries.Entry.TheVariants as entries
use Rattle.iq_model.specs.declared.replies.Reply.{Reply}
use Rattle.iq_model.specs.declared.scripts.Line.{Line}
use Rattle.iq_model.specs.declared.scripts.Step.{Step}
use Rattle.iq_replay.specs.State.{State, Session, Node}
use Rattle.iq_replay.specs.Asked.{OfStep, OfTurn}
use Rattle.iq_replay.specs.Lines.{CanRefuseStep, first_running}
use Rattle.iq_replay.specs.Entries.{IsPossible, change}
use Rattle.iq_replay.specs.Histories.{replay, IsLegal, line_of, closes, low_after}
use Rattle.iq_script_order.specs.Fixed.{IsUndisturbed}
use Rattle.iq_script_order.proofs.Left.{has_number, left_in, left_of}
use Rattle.iq_script_order.proofs.Stays.{closes-zero, IsLeft, in_session, in_steps, IsLeft-change, Goes, line_left, none_left, not_below}
use Rattle.iq_script_order.proofs.Sound.{IsNumbered, IsSound}
use Rattle.iq_script_order.proofs.Goes.{IsSound-change}
use Rattle.iq_script_order.proofs.Same.{with_replies, Same}
use Rattle.iq_script_order.proofs.Found.{SessionNext, StepNext, IsNext, of_session, of_steps}

-- ONE NEXT ENTRY

pub has_first : (l : ℕ) (line : Line) (lines : List Line) → line.number ≡ l → has_number l (line ∷ lines) ≡ true
has_first l line lines number = at_tell (eqb_tells line.number l)
  where
    at_tell : ((nat_eq line.number l ≡ true) × (line.number ≡ l)) ⊎ ((nat_eq line.number l ≡ false) × (line.number ≢ l)) → (nat_eq line.number l || has_number l lines) ≡ true
    at_tell (inl k) = rw k.0 refl
    at_tell (inr k) = absurd (k.1 number)

session_has : (s : State) (l : ℕ) (e : Entry) → (a : SessionNext s l e) → has_number l (left_of s a.place) ≡ true
session_has s l e a = ap (λ (o : Option Session). has_number l (left_in o)) a.found ∙ ap (has_number l) a.left ∙ has_first l a.line a.lines a.number

steps_has : (s : State) (l : ℕ) (e : Entry) → (a : StepNext s l e) → has_number l s.steps ≡ true
steps_has s l e a = ap (has_number l) a.left ∙ has_first l a.line a.lines a.number

pub one_next : (s : State) (l : ℕ) (e f : Entry) → IsNumbered s → IsNext s l e → IsNext s l f → e ≡ f
one_next s l e f numbered (of_session a) (of_session b) =
    same_session (numbered.once a.place b.place l (session_has s l e a) (session_has s l f b))
  where
    same_statement : a.place ≡ b.place → a.session ≡ b.session → a.line ≡ b.line → a.statement ≡ b.statement
    same_statement p q r = cc (a.deed, b.deed, r)

    same_line : a.session ≡ b.session → a.line ≡ b.line
    same_line q = cc (a.left, b.left, q)

    same_found : a.place ≡ b.place → a.session ≡ b.session
    same_found p = cc (a.found, b.found, p)

    same_session : a.place ≡ b.place → e ≡ f
    same_session p = cc (p, same_found p, same_statement p (same_found p) (same_line (same_found p)), a.next, b.next)
one_next s l e f numbered (of_session a) (of_steps b) = absurd (numbered.apart a.place l (session_has s l e a) (steps_has s l f b))
one_next s l e f numbered (of_steps a) (of_session b) = absurd (numbered.apart b.place l (session_has s l f b) (steps_has s l e a))
one_next s l e f numbered (of_steps a) (of_steps b) = same_step
  where
    same_line : a.line ≡ b.line
    same_line = cc (a.left, b.left)

    same : a.step ≡ b.step
    same = cc (a.deed, b.deed, same_line)

    same_step : e ≡ f
    same_step = cc (same, a.next, b.next)

-- STATES THAT ARE THE SAME BUT FOR REPLIES

next_with : (s : State) (replies : List Reply) (l : ℕ) (e : Entry) → IsNext s l e → IsNext (with_replies replies s) l e
next_with s replies l e (of_session a) =
    of_session (record { place = a.place; session = a.session; line = a.line; lines = a.lines; statement = a.statement; found = a.found; left = a.left; number = a.number; deed = a.deed; next = a.next })
next_with s replies l e (of_steps a) = of_steps (record { line = a.line; lines = a.lines; step = a.step; left = a.left; number = a.number; deed = a.deed; next = a.next })

pub next_same : (s t : State) (l : ℕ) (e : Entry) → Same s t → IsNext s l e → IsNext t l e
next_same s t l e h k = rw h.rest (next_with s t.replies l e k)

left_with : (s : State) (replies : List Reply) (n : ℕ) → IsLeft n s → IsLeft n (with_replies replies s)
left_with s replies n (in_session p k) = in_session p k
left_with s replies n (in_steps k) = in_steps k

pub left_same : (s t : State) (n : ℕ) → Same s t → IsLeft n s → IsLeft n t
left_same s t n h k = rw h.rest (left_with s t.replies n k)

-- THE SCRIPT'S END

turn_open : (s : State) (l : ℕ) (P : Step → Type 0) → OfTurn s l P → s.closing ≡ false
turn_open s zero P h = h
turn_open s (suc l) P h = h.0

node_open : (s : State) (l : ℕ) (o : Option Node) (P : Node → Type 0) (named : Name → Step) → IsSomeAnd o (λ node. P node × OfTurn s l (λ step. step ≡ named node.name)) → s.closing ≡ false
node_open s l None P named h = absurd h
node_open s l (Some node) P named h = turn_open s l _ h.1

node_step_open : (s : State) (l : ℕ) (o : Option Node) (P : Node → Type 0) (named : Name → Step) → IsSomeAnd o (λ node. P node × OfStep s l (λ step. step ≡ named node.name)) → s.closing ≡ false
node_step_open s l None P named h = absurd h
node_step_open s l (Some node) P named h = h.1.0

refused_open : (s : State) (l : ℕ) (cause : Refusal) → CanRefuseStep s l cause → s.closing ≡ false
refused_open s l cause (inl h) = h.0
refused_open s l cause (inr h) = turn_open s l _ h.0

-- before the end no entry closes, and once it closes each entry does
closes_or : (s : State) (e : Entry) → IsPossible s e → s.closing ≡ true → closes e ≡ true
unfolding IsPossible
closes_or s (entries.Begin q l c) h k = cc (h.0, k)
closes_or s (entries.Lock q l names) h k = cc (h.0, k)
closes_or s (entries.Done q l) h k = cc (h.0, k)
closes_or s (entries.Refused None l cause) h k = cc (refused_open s l cause h, k)
closes_or s (entries.Refused (Some q) l cause) h k = cc (h.0, k)
closes_or s (entries.Commit q l c) h k = cc (h.0, k)
closes_or s (entries.End q l) h k = cc (h.0, k)
closes_or s (entries.Rollback q zero) h k = refl
closes_or s (entries.Rollback q (suc l)) h k = cc (h.0, k)
closes_or s (entries.Halt q l c before after) h k = cc (h.0, k)
closes_or s (entries.Savepoint q l name) h k = cc (h.0, k)
closes_or s (entries.Back q l name) h k = cc (h.0, k)
closes_or s (entries.Release q l name) h k = cc (h.0, k)
closes_or s (entries.Sync q l c) h k = cc (h.0.0, k)
closes_or s (entries.Apply n l c) h k = cc (node_open s l (slice_get s.nodes n) _ _ h, k)
closes_or s (entries.Send n l number floor) h k = cc (node_open s l (slice_get s.nodes n) _ _ h, k)
closes_or s (entries.Lose l number) h k = cc (turn_open s l _ h.0, k)
closes_or s (entries.Take l number horizon freed) h k = cc (turn_open s l _ h.0, k)
closes_or s (entries.Own n l horizon freed) h k = cc (node_open s l (slice_get s.nodes n) _ _ h, k)
closes_or s (entries.Restart n l incarnation) h k = cc (node_step_open s l (slice_get s.nodes n) _ _ h, k)
closes_or s (entries.Exclude n l incarnation) h k = cc (node_step_open s l (slice_get s.nodes n) _ _ h, k)
closes_or s (entries.Include n l c) h k = cc (node_step_open s l (slice_get s.nodes n) _ _ h, k)
closes_or s (entries.Space l census) h k = cc (h.0.0, k)
closes_or s (entries.Versions l) h k = cc (h.0, k)

-- an entry that closes: a rollback of the first session that runs
pub record Closing (s : State) (e : Entry) : Type 0 where
  pub place : ℕ
  pub is : e ≡ entries.Rollback place 0
  pub first : first_running 0 s.sessions ≡ Some place
  pub closed : (change s e).closing ≡ true

pub closing_is : (s : State) (e : Entry) → IsPossible s e → closes e ≡ true → Closing s e
unfolding IsPossible change
closing_is s (entries.Rollback q zero) h k = record { place = q; is = refl; first = h; closed = refl }
closing_is s (entries.Rollback q (suc l)) h k = absurd (at_tell (eqb_tells (suc l) 0))
  where
    at_tell : ((nat_eq (suc l) 0 ≡ true) × (suc l ≡ 0)) ⊎ ((nat_eq (suc l) 0 ≡ false) × (suc l ≢ 0)) → ⊥
    at_tell (inl q) = absurd (omega (arith, q.1))
    at_tell (inr q) = cc (q.0, k)
closing_is s other h k = cc k

-- once it closes, what is left stays
closed_left : (s : State) (es : List Entry) (n : ℕ) → IsLegal s es → s.closing ≡ true → 0 < n → IsLeft n s → IsLeft n (replay s es)
unfolding IsLegal replay
closed_left s [] n h closing some left = left
closed_left s (e ∷ es) n h closing some left =
    closed_left (change s e) es n h.1 (closing_is s e h.0 (closes_or s e h.0 closing)).closed some
    (IsLeft-change s e n h.0 (λ q. omega (arith, some, q, closes-zero e (closes_or s e h.0 closing))) left)

-- HISTORIES THAT GO ON

pub record Runs (low : ℕ) (s : State) (es : List Entry) : Type 0 where
  pub goes : Goes low s es
  pub undisturbed : AllByRecursion IsUndisturbed es
  pub some : 0 < low
  pub sound : IsSound s

pub goes_behind : (low : ℕ) (s : State) (e : Entry) (es : List Entry) → Goes low s (e ∷ es) → Goes (low_after low e) (change s e) es
unfolding IsLegal replay
goes_behind low s e es h = record { legal = h.legal.1; ordered = h.ordered.1; sessions = h.sessions; steps = h.steps }

pub possible_first : (low : ℕ) (s : State) (e : Entry) (es : List Entry) → Goes low s (e ∷ es) → IsPossible s e
unfolding IsLegal
possible_first low s e es h = h.legal.0

some_behind : (low : ℕ) (e : Entry) → 0 < low → (closes e || nat_le low (line_of e)) ≡ true → 0 < low_after low e
some_behind low e some h = at_close (closes e) h
  where
    at_close : (b : Bool) → (b || nat_le low (line_of e)) ≡ true → 0 < (if b then low else line_of e)
    at_close true k = some
    at_close false k = omega (arith, some, leb-true low (line_of e) k)

pub runs_behind : (low : ℕ) (s : State) (e : Entry) (es : List Entry) → Runs low s (e ∷ es) → Runs (low_after low e) (change s e) es
runs_behind low s e es h = record {
  goes = goes_behind low s e es h.goes;
  undisturbed = h.undisturbed.1;
  some = some_behind low e h.some h.goes.ordered.0;
  sound = IsSound-change s e (possible_first low s e es h.goes) h.undisturbed.0 h.sound;
}

-- an open entry's line isn't 0
line_some : (low : ℕ) (e : Entry) → 0 < low → (closes e || nat_le low (line_of e)) ≡ true → closes e ≡ false → 0 < line_of e
line_some low e some h open_still = omega (arith, some, leb-true low (line_of e) (rw open_still at h))

pub first_some : (low : ℕ) (s : State) (e : Entry) (es : List Entry) → Runs low s (e ∷ es) → closes e ≡ false → 0 < line_of e
first_some low s e es h open_still = line_some low e h.some h.goes.ordered.0 open_still

pub first_left : (low : ℕ) (s : State) (e : Entry) (es : List Entry) → Runs low s (e ∷ es) → closes e ≡ false → IsLeft (line_of e) s
first_left low s e es h open_still = line_left s e (possible_first low s e es h.goes) (first_some low s e es h open_still)

-- a line that is left isn't closed over
pub not_closed : (low n : ℕ) (s : State) (e : Entry) (es : List Entry) → Runs low s (e ∷ es) → closes e ≡ true → 0 < n → IsLeft n s → ⊥
unfolding replay
not_closed low n s e es h closing some left =
    none_left (replay (change s e) es) n h.goes.sessions h.goes.steps
    (closed_left (change s e) es n (goes_behind low s e es h.goes).legal (closing_is s e (possible_first low s e es h.goes) closing).closed some
    (IsLeft-change s e n (possible_first low s e es h.goes) (λ q. omega (arith, some, q, closes-zero e closing)) left))

-- a line that is left isn't passed over
pub passes : (low n : ℕ) (s : State) (e : Entry) (es : List Entry) → Runs low s (e ∷ es) → closes e ≡ false → 0 < n → IsLeft n s → line_of e ≤ n
passes low n s e es h open_still some left = at_less (leb_tells (suc n) (line_of e))
  where
    at_less : ((nat_le (suc n) (line_of e) ≡ true) × (suc n ≤ line_of e)) ⊎ ((nat_le (suc n) (line_of e) ≡ false) × (line_of e < suc n)) → line_of e ≤ n
    at_less (inl q) = absurd (not_below s e es low n h.goes open_still some (omega (arith, q.1)) left)
    at_less (inr q) = omega (arith, q.1)
