-- The tests of a line that the control knows.
use Rattle.std.specs.Prelude.{◌≡◌, refl, ℕ, Bool, true, false, List, [], ◌∷◌, ◌++◌, Option, Some, None, map, is_none, nat_le, ◌<◌, zero, suc, length, slice_index_or}
use Rattle.std.specs.List.{AllByRecursion, slice_get}
use Rattle.std.specs.Option.{option_or}
use Rattle.std.proofs.Common.{ap, sym, ◌∙◌, arith, subst}
use Rattle.std.proofs.lemmas.List.{length-map}
use Rattle.iq_base.specs.Shorts.{Name}
use Rattle.iq_base.specs.declared.refusals.Refusal.{Refusal}
use Rattle.iq_base.specs.declared.refusals.Refusal.TheVariants as refusals
use Rattle.iq_ast.specs.declared.statements.Statement.{Statement}
use Rattle.iq_ast.specs.declared.statements.Statement.TheVariants as statements
use Rattle.iq_conditions.specs.Servers.{same_name}
use Rattle.iq_statements.specs.Checks.{Check, first_refusal, found_if}
use Rattle.iq_replay.specs.State.{State, Session, Standing, idle, lost, running, Run, Save, Node, held_by}
use Rattle.iq_replay.specs.Refusals.{reader_refusal, excluded_refusal, lost_refusal, before_line, save_named, most_saves, transaction_refusal, halted_refusal, run_checks, line_checks}
use Rattle.iq_sessions.specs.Bare.{bare_session, bare_standing, bare_run, bare_save}
use Rattle.iq_sessions.specs.Bare.{At}
use Rattle.iq_sessions.specs.Kept.{KeptSession, IsKeptAs, standing_of, session_of}
use Rattle.iq_control.specs.Asked.{early_checks, IsAdmitted}

-- WITHOUT TABLES

pub lost_bare : (o : Option Node) (standing : Standing) → lost_refusal o (bare_standing standing) ≡ lost_refusal o standing
lost_bare None standing = refl
lost_bare (Some node) idle = refl
lost_bare (Some node) lost = refl
lost_bare (Some node) (running run) = refl

save_bare : (saves : List Save) (name : Name) → is_none (save_named (map bare_save saves) name) ≡ is_none (save_named saves name)
save_bare [] name = refl
save_bare (s ∷ saves) name = by_name (same_name s.name name) refl (save_bare saves name)
  where
    by_name : (b : Bool) → same_name s.name name ≡ b → is_none (save_named (map bare_save saves) name) ≡ is_none (save_named saves name)
        → is_none (save_named (map bare_save (s ∷ saves)) name) ≡ is_none (save_named (s ∷ saves) name)
    by_name true q more = rw (q) refl
    by_name false q more = rw (q) more

run_bare : (run : Run) (statement : Statement) → transaction_refusal (Some (bare_run run)) statement ≡ transaction_refusal (Some run) statement
run_bare run (statements.Write write) = refl
run_bare run (statements.Select select) = refl
run_bare run statements.Begin = refl
run_bare run statements.Commit = refl
run_bare run statements.Rollback = refl
run_bare run (statements.Savepoint name) = ap (λ (n : ℕ). found_if (nat_le most_saves n) refusals.TooManySavepoints) (length-map run.saves bare_save)
run_bare run (statements.BackTo name) = ap (λ (b : Bool). found_if b (refusals.NoSavepoint name)) (save_bare run.saves name)
run_bare run (statements.Release name) = ap (λ (b : Bool). found_if b (refusals.NoSavepoint name)) (save_bare run.saves name)
run_bare run statements.Sync = refl

transaction_bare : (standing : Standing) (statement : Statement) → transaction_refusal (before_line (bare_standing standing)) statement ≡ transaction_refusal (before_line standing) statement
transaction_bare idle statement = refl
transaction_bare lost statement = refl
transaction_bare (running run) statement = by_own run.own refl
  where
    by_own : (b : Bool) → run.own ≡ b → transaction_refusal (before_line (running (bare_run run))) statement ≡ transaction_refusal (before_line (running run)) statement
    by_own true q = rw (q) refl
    by_own false q = rw (q) (run_bare run statement)

pub early_bare : (nodes : List Node) (session : Session) (statement : Statement) → early_checks nodes (bare_session session) statement ≡ early_checks nodes session statement
early_bare nodes session statement = rw (lost_bare (slice_get nodes session.node) session.standing, transaction_bare session.standing statement) refl

-- ALL TESTS

pub or_none : (a b : Option Refusal) → option_or a b ≡ None → (a ≡ None) × (b ≡ None)
or_none None b h = (refl, h)
or_none (Some r) b h = cc h

pub first_more : (xs ys : List Check) → first_refusal (xs ++ ys) ≡ option_or (first_refusal xs) (first_refusal ys)
first_more [] ys = refl
first_more (x ∷ xs) ys = rw (first_more xs ys) (or_assoc x.found (first_refusal xs) (first_refusal ys))
  where
    or_assoc : (a b c : Option Refusal) → option_or a (option_or b c) ≡ option_or (option_or a b) c
    or_assoc None b c = refl
    or_assoc (Some r) b c = refl

pub both_none : (xs ys : List Check) → first_refusal xs ≡ None → first_refusal ys ≡ None → first_refusal (xs ++ ys) ≡ None
both_none xs ys p q = first_more xs ys ∙ rw p q

-- the tests of a line are the early ones and those of a running transaction
pub all_checks : (s : State) (place : ℕ) (session : Session) (statement : Statement) → line_checks s place session statement ≡ early_checks s.nodes session statement ++ run_checks s place session.standing statement
all_checks s place session statement = refl

-- nothing refuses a line that is admitted and that no test of a running transaction refuses
pub admitted_line : (s : State) (place : ℕ) (session : Session) (statement : Statement) → IsAdmitted s.nodes (bare_session session) statement → first_refusal (run_checks s place session.standing statement) ≡ None
    → first_refusal (line_checks s place session statement) ≡ None
admitted_line s place session statement admitted rest =
    both_none (early_checks s.nodes session statement) (run_checks s place session.standing statement) (ap first_refusal (sym (early_bare s.nodes session statement)) ∙ admitted) rest

-- QUIET STATEMENTS

halted_quiet : (o : Option ℕ) → halted_refusal o false ≡ None
halted_quiet None = refl
halted_quiet (Some c) = refl

pub quiet_rollback : (s : State) (place : ℕ) (standing : Standing) → first_refusal (run_checks s place standing statements.Rollback) ≡ None
quiet_rollback s place idle = refl
quiet_rollback s place lost = refl
quiet_rollback s place (running run) = rw (halted_quiet s.halted) refl

pub quiet_save : (s : State) (place : ℕ) (name : Name) (standing : Standing) → first_refusal (run_checks s place standing (statements.Savepoint name)) ≡ None
quiet_save s place name idle = refl
quiet_save s place name lost = refl
quiet_save s place name (running run) = rw (halted_quiet s.halted) refl

pub quiet_back : (s : State) (place : ℕ) (name : Name) (standing : Standing) → first_refusal (run_checks s place standing (statements.BackTo name)) ≡ None
quiet_back s place name idle = refl
quiet_back s place name lost = refl
quiet_back s place name (running run) = rw (halted_quiet s.halted) refl

pub quiet_release : (s : State) (place : ℕ) (name : Name) (standing : Standing) → first_refusal (run_checks s place standing (statements.Release name)) ≡ None
quiet_release s place name idle = refl
quiet_release s place name lost = refl
quiet_release s place name (running run) = rw (halted_quiet s.halted) refl

-- WHAT IS FOUND OF A SESSION AS IT IS KEPT

or_end : (a : Option Refusal) → option_or a None ≡ a
or_end None = refl
or_end (Some r) = refl

get_found : {X : Type 0} (xs : List X) (n : ℕ) (x : X) → n < length xs → x ≡ slice_index_or xs n x → slice_get xs n ≡ Some x
get_found [] n x h is = absurd (omega (arith, h))
get_found (z ∷ xs) zero x h is = ap Some (sym is)
get_found (z ∷ xs) (suc n) x h is = get_found xs n x (omega (arith, h)) is

pub early_found : (nodes : List Node) (sessions : List Session) (place : ℕ) (kept : KeptSession) (node : Node) (statement : Statement) (result : Option Refusal) → At place sessions (IsKeptAs kept)
    → AllByRecursion (λ (session : Session). session.node < length nodes) sessions → node ≡ slice_index_or nodes kept.node node
    → ((names : List Name) → result ≡ option_or (lost_refusal (Some node) (standing_of kept.transaction names)) (option_or (excluded_refusal node) (option_or (transaction_refusal (before_line (standing_of kept.transaction names)) statement) (reader_refusal (Some node) statement))))
    → At place sessions (λ session. result ≡ first_refusal (early_checks nodes session statement))
early_found nodes [] place kept node statement result at_kept all is found = absurd at_kept
early_found nodes (s ∷ ss) zero kept node statement result at_kept all is found =
    subst (λ (x : Session). result ≡ first_refusal (early_checks nodes x statement)) (sym at_kept.is) (for_names (held_by s.standing))
  where
    within : kept.node < length nodes
    within = rw (← ap (λ (x : Session). x.node) at_kept.is) all.0

    for_names : (names : List Name) → result ≡ first_refusal (early_checks nodes (session_of kept names) statement)
    for_names names = rw (get_found nodes kept.node node within is, or_end (reader_refusal (Some node) statement)) (found names)
early_found nodes (s ∷ ss) (suc n) kept node statement result at_kept all is found = early_found nodes ss n kept node statement result at_kept all.1 is found
