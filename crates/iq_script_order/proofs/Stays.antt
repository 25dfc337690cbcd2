-- Lines that stay: where entries never fall below a number, a lower line that is left is never run.
use Rattle.std.specs.Prelude.{◌≡◌, ◌≢◌, ◌≤◌, ◌<◌, ◌⊎◌, refl, ℕ, zero, suc, ◌+◌, Bool, true, false, ◌||◌, List, [], ◌∷◌, Option, Some, None, nat_eq, nat_le, if◌then◌else◌, IsSomeAnd}
use Rattle.std.specs.List.{slice_get}
use Rattle.std.proofs.Common.{arith, inl, inr}
use Rattle.std.proofs.lemmas.Bool.{leb-true, le-leb}
use Rattle.std.proofs.lemmas.Bool.Decides.{eqb_tells, leb_tells}
use Rattle.iq_base.specs.Shorts.{Name}
use Rattle.iq_base.specs.declared.refusals.Refusal.{Refusal}
use Rattle.iq_ast.specs.declared.statements.Statement.{Statement}
use Rattle.iq_history.specs.declared.entries.Entry.{Entry}
use Rattle.iq_history.specs.declared.entries.Entry.TheVariants as entries
use Rattle.iq_model.specs.declared.scripts.Line.{Line}
use Rattle.iq_model.specs.declared.scripts.Step.{Step}
use Rattle.iq_replay.specs.State.{State, Session, Standing, idle, lost, running, Node}
use Rattle.iq_replay.specs.Asked.{FirstIs, StatementIs, OfLine, OfStep, OfTurn}
use Rattle.iq_replay.specs.Lines.{CanRefuseStep, first_running}
use Rattle.iq_replay.specs.Entries.{IsPossible, change}
use Rattle.iq_replay.specs.Histories.{replay, IsLegal, IsInOrder, line_of, closes, low_after, AllEnded, IsStill}
use Rattle.iq_script_order.proofs.Left.{has_number, left_in, left_of, First, FirstIs-first, Went-change, Went-steps, Went-keeps}

-- ENTRIES THAT CLOSE

pub closes-zero : (e : Entry) → closes e ≡ true → line_of e ≡ 0
closes-zero (entries.Rollback q l) h = at_tell (eqb_tells l 0)
  where
    at_tell : ((nat_eq l 0 ≡ true) × (l ≡ 0)) ⊎ ((nat_eq l 0 ≡ false) × (l ≢ 0)) → l ≡ 0
    at_tell (inl k) = k.1
    at_tell (inr k) = cc (h, k.0)
closes-zero other h = cc h

-- an entry that doesn't fall below a number is of another line than one below it
pub other_line : (e : Entry) (low n : ℕ) → (closes e || nat_le low (line_of e)) ≡ true → n < low → 0 < n → line_of e ≢ n
other_line e low n h below some is = at_close (closes e) refl
  where
    at_close : (b : Bool) → closes e ≡ b → ⊥
    at_close true k = absurd (omega (arith, some, is, closes-zero e k))
    at_close false k = absurd (omega (arith, below, is, leb-true low (line_of e) (rw k at h)))

below_after : (e : Entry) (low n : ℕ) → (closes e || nat_le low (line_of e)) ≡ true → n < low → n < low_after low e
below_after e low n h below = at_close (closes e) h
  where
    at_close : (b : Bool) → (b || nat_le low (line_of e)) ≡ true → n < (if b then low else line_of e)
    at_close true k = below
    at_close false k = omega (arith, below, leb-true low (line_of e) k)

-- a number that is left in a session or among the steps
pub data IsLeft (n : ℕ) (s : State) : Type 0 where
  in_session : (p : ℕ) → has_number n (left_of s p) ≡ true → IsLeft n s
  in_steps : has_number n s.steps ≡ true → IsLeft n s

pub IsLeft-change : (s : State) (e : Entry) (n : ℕ) → IsPossible s e → line_of e ≢ n → IsLeft n s → IsLeft n (change s e)
IsLeft-change s e n h other (in_session p k) = in_session p (Went-keeps (line_of e) n _ _ (Went-change s e p h) other k)
IsLeft-change s e n h other (in_steps k) = in_steps (Went-keeps (line_of e) n _ _ (Went-steps s e h) other k)

pub IsLeft-replay : (s : State) (es : List Entry) (n low : ℕ) → IsLegal s es → IsInOrder low es → n < low → 0 < n → IsLeft n s → IsLeft n (replay s es)
unfolding IsLegal replay
IsLeft-replay s [] n low h ordered below some left = left
IsLeft-replay s (e ∷ es) n low h ordered below some left =
    IsLeft-replay (change s e) es n (low_after low e) h.1 ordered.1 (below_after e low n ordered.0 below) some
    (IsLeft-change s e n h.0 (other_line e low n ordered.0 below some) left)

-- THE END

ended-left : (sessions : List Session) (p : ℕ) → AllEnded sessions → left_in (slice_get sessions p) ≡ []
ended-left [] p h = refl
ended-left (session ∷ sessions) zero h = h.0.no_line
ended-left (session ∷ sessions) (suc p) h = ended-left sessions p h.1

-- nothing is left at the end
pub none_left : (s : State) (n : ℕ) → AllEnded s.sessions → s.steps ≡ [] → IsLeft n s → ⊥
none_left s n ended steps (in_session p k) = at_none (rw (ended-left s.sessions p ended) at k)
  where
    at_none : false ≡ true → ⊥
    at_none q = cc q
none_left s n ended steps (in_steps k) = at_none (rw steps at k)
  where
    at_none : false ≡ true → ⊥
    at_none q = cc q

pub still-none : (k : ℕ) (sessions : List Session) → AllEnded sessions → first_running k sessions ≡ None
still-none k [] h = refl
still-none k (session ∷ sessions) h = at_standing (still-none (k + 1) sessions h.1) session.standing refl h.0.no_run
  where
    at_standing : first_running (k + 1) sessions ≡ None → (standing : Standing) → session.standing ≡ standing → IsStill standing → first_running k (session ∷ sessions) ≡ None
    at_standing more idle is still = rw is more
    at_standing more lost is still = rw is more
    at_standing more (running run) is still = absurd still

-- THE LINE OF AN ENTRY IS LEFT

first_has : (l : ℕ) (lines : List Line) → First l lines → has_number l lines ≡ true
first_has l lines h = rw (h.is, h.number) (at_tell (eqb_tells l l))
  where
    at_tell : ((nat_eq l l ≡ true) × (l ≡ l)) ⊎ ((nat_eq l l ≡ false) × (l ≢ l)) → (nat_eq l l || has_number l h.behind) ≡ true
    at_tell (inl k) = rw k.0 refl
    at_tell (inr k) = absurd (k.1 refl)

line_of_session : (s : State) (place l : ℕ) (P : Session → Statement → Type 0) → OfLine s place l P → IsLeft l s
line_of_session s place l P h = in_session place (at_session (slice_get s.sessions place) h.1)
  where
    at_session : (o : Option Session) → IsSomeAnd o (λ (this : Session). FirstIs this.left l (λ deed. StatementIs deed (P this))) → has_number l (left_in o) ≡ true
    at_session None p = absurd p
    at_session (Some this) p = first_has l this.left (FirstIs-first this.left l _ p)

line_of_step : (s : State) (l : ℕ) (P : Step → Type 0) → OfStep s l P → IsLeft l s
line_of_step s l P h = in_steps (first_has l s.steps (FirstIs-first s.steps l _ h.1))

line_of_turn : (s : State) (l : ℕ) (P : Step → Type 0) → OfTurn s l P → 0 < l → IsLeft l s
line_of_turn s zero P h some = absurd (omega (arith, some))
line_of_turn s (suc l) P h some = line_of_step s (suc l) P h

line_of_node : (s : State) (l : ℕ) (o : Option Node) (P : Node → Type 0) (named : Name → Step) → IsSomeAnd o (λ node. P node × OfTurn s l (λ step. step ≡ named node.name)) → 0 < l → IsLeft l s
line_of_node s l None P named h some = absurd h
line_of_node s l (Some node) P named h some = line_of_turn s l _ h.1 some

line_of_node_step : (s : State) (l : ℕ) (o : Option Node) (P : Node → Type 0) (named : Name → Step) → IsSomeAnd o (λ node. P node × OfStep s l (λ step. step ≡ named node.name)) → IsLeft l s
line_of_node_step s l None P named h = absurd h
line_of_node_step s l (Some node) P named h = line_of_step s l _ h.1

line_refused : (s : State) (l : ℕ) (cause : Refusal) → CanRefuseStep s l cause → 0 < l → IsLeft l s
line_refused s l cause (inl p) some = line_of_step s l _ p
line_refused s l cause (inr p) some = line_of_turn s l _ p.0 some

pub line_left : (s : State) (e : Entry) → IsPossible s e → 0 < line_of e → IsLeft (line_of e) s
unfolding IsPossible
line_left s (entries.Begin q l c) h some = line_of_session s q l _ h
line_left s (entries.Lock q l names) h some = line_of_session s q l _ h
line_left s (entries.Done q l) h some = line_of_session s q l _ h
line_left s (entries.Refused None l cause) h some = line_refused s l cause h some
line_left s (entries.Refused (Some q) l cause) h some = line_of_session s q l _ h
line_left s (entries.Commit q l c) h some = line_of_session s q l _ h
line_left s (entries.End q l) h some = line_of_session s q l _ h
line_left s (entries.Rollback q zero) h some = absurd (omega (arith, some))
line_left s (entries.Rollback q (suc l)) h some = line_of_session s q (suc l) _ h
line_left s (entries.Halt q l c before after) h some = line_of_session s q l _ h
line_left s (entries.Savepoint q l name) h some = line_of_session s q l _ h
line_left s (entries.Back q l name) h some = line_of_session s q l _ h
line_left s (entries.Release q l name) h some = line_of_session s q l _ h
line_left s (entries.Sync q l c) h some = line_of_session s q l _ h.0
line_left s (entries.Apply n l c) h some = line_of_node s l (slice_get s.nodes n) _ _ h some
line_left s (entries.Send n l number floor) h some = line_of_node s l (slice_get s.nodes n) _ _ h some
line_left s (entries.Lose l number) h some = line_of_turn s l _ h.0 some
line_left s (entries.Take l number horizon freed) h some = line_of_turn s l _ h.0 some
line_left s (entries.Own n l horizon freed) h some = line_of_node s l (slice_get s.nodes n) _ _ h some
line_left s (entries.Restart n l incarnation) h some = line_of_node_step s l (slice_get s.nodes n) _ _ h
line_left s (entries.Exclude n l incarnation) h some = line_of_node_step s l (slice_get s.nodes n) _ _ h
line_left s (entries.Include n l c) h some = line_of_node_step s l (slice_get s.nodes n) _ _ h
line_left s (entries.Space l census) h some = line_of_step s l _ h.0
line_left s (entries.Versions l) h some = line_of_step s l _ h

-- TWO HISTORIES GO ON WITH ONE LINE

-- a whole history in order of lines, from a state, of which nothing is left
pub record Goes (low : ℕ) (s : State) (es : List Entry) : Type 0 where
  pub legal : IsLegal s es
  pub ordered : IsInOrder low es
  pub sessions : AllEnded (replay s es).sessions
  pub steps : (replay s es).steps ≡ []

-- no line is left that is below the first entry's
pub not_below : (s : State) (f : Entry) (fs : List Entry) (low n : ℕ) → Goes low s (f ∷ fs) → closes f ≡ false → 0 < n → n < line_of f → IsLeft n s → ⊥
not_below s f fs low n h open_still some below left =
    none_left (replay s (f ∷ fs)) n h.sessions h.steps
    (IsLeft-replay s (f ∷ fs) n (line_of f) h.legal (from_here (h.ordered.1)) below some left)
  where
    from_here : IsInOrder (low_after low f) fs → IsInOrder (line_of f) (f ∷ fs)
    from_here k = (rw open_still (le-leb (line_of f) (line_of f) (omega arith)), rw open_still (rw open_still at k))

-- the line of one isn't below the other's
not_less : (s : State) (e f : Entry) (es fs : List Entry) (low : ℕ) → Goes low s (e ∷ es) → Goes low s (f ∷ fs) → 0 < low → closes e ≡ false → closes f ≡ false → line_of e < line_of f → ⊥
unfolding IsLegal
not_less s e f es fs low h k some open_e open_f less =
    not_below s f fs low (line_of e) k open_f (above (h.ordered.0)) less (line_left s e h.legal.0 (above h.ordered.0))
  where
    above : (closes e || nat_le low (line_of e)) ≡ true → 0 < line_of e
    above q = omega (arith, some, leb-true low (line_of e) (rw open_e at q))

pub same_line : (s : State) (e f : Entry) (es fs : List Entry) (low : ℕ) → Goes low s (e ∷ es) → Goes low s (f ∷ fs) → 0 < low → closes e ≡ false → closes f ≡ false → line_of e ≡ line_of f
same_line s e f es fs low h k some open_e open_f =
    omega (arith, at_most e f es fs h k open_e open_f, at_most f e fs es k h open_f open_e)
  where
    at_most : (e f : Entry) (es fs : List Entry) → Goes low s (e ∷ es) → Goes low s (f ∷ fs) → closes e ≡ false → closes f ≡ false → line_of f ≤ line_of e
    at_most e f es fs h k open_e open_f = at_less (leb_tells (suc (line_of e)) (line_of f))
      where
        at_less : ((nat_le (suc (line_of e)) (line_of f) ≡ true) × (suc (line_of e) ≤ line_of f)) ⊎ ((nat_le (suc (line_of e)) (line_of f) ≡ false) × (line_of f < suc (line_of e))) → line_of f ≤ line_of e
        at_less (inl q) = absurd (not_less s e f es fs low h k some open_e open_f (omega (arith, q.1)))
        at_less (inr q) = omega (arith, q.1)
