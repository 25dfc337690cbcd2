-- Entries of a line that may come next.
use Rattle.std.specs.Prelude.{◌≡◌, refl, ℕ, zero, suc, ◌+◌, Bool, true, false, not, List, [], ◌∷◌, Option, Some, None, nat_eq, nat_lt, filter, IsSomeAnd}
use Rattle.std.specs.List.{slice_get}
use Rattle.std.specs.Option.{option_or}
use Rattle.std.proofs.Common.{inl}
use Rattle.iq_base.specs.Shorts.{Name}
use Rattle.iq_base.specs.declared.refusals.Refusal.{Refusal}
use Rattle.iq_ast.specs.declared.statements.Statement.{Statement}
use Rattle.iq_ast.specs.declared.statements.Statement.TheVariants as statements
use Rattle.iq_history.specs.declared.entries.Entry.TheVariants as entries
use Rattle.iq_model.specs.declared.scripts.Line.{Line}
use Rattle.iq_model.specs.declared.scripts.Deed.TheVariants as deeds
use Rattle.iq_statements.specs.Checks.{Check, first_refusal}
use Rattle.iq_statements.specs.Statements.{IsOnTables, Begins, HasMeaning}
use Rattle.iq_replay.specs.State.{State, Session, fresh, Standing, idle, running, Run, has_some}
use Rattle.iq_replay.specs.Nodes.{node_position}
use Rattle.iq_replay.specs.Refusals.{wanted, line_checks}
use Rattle.iq_replay.specs.Asked.{FirstIs, StatementIs, OfLine, IsRunning, IsOpen, IsUnlocked}
use Rattle.iq_replay.specs.Lines.{IsEnding, CanEnd}
use Rattle.iq_replay.specs.Entries.{IsPossible}
use Rattle.iq_script_order.specs.Fixed.{IsCertain}
use Rattle.iq_plain_runs.specs.Courses.{IsLineOf, IsNextOf}

-- LINES

at_left : (left : List Line) (l : ℕ) (session : Session) (statement : Statement) (P : Session → Statement → Type 0) → FirstIs left l (λ deed. deed ≡ deeds.Statement statement) → P session statement → FirstIs left l (λ deed. StatementIs deed (P session))
at_left [] l session statement P h p = h
at_left (line ∷ lines) l session statement P h p = (h.0, rw (h.1) p)

-- what holds of a session and its statement holds of the line
of_line : (s : State) (place l : ℕ) (session : Session) (statement : Statement) (P : Session → Statement → Type 0) → IsLineOf s place l session statement → P session statement → OfLine s place l P
of_line s place l session statement P h p = (h.open_still, at_session (slice_get s.sessions place) h.found)
  where
    at_session : (o : Option Session) → o ≡ Some session → IsSomeAnd o (λ session. FirstIs session.left l (λ deed. StatementIs deed (P session)))
    at_session o q = rw (q) (at_left session.left l session statement P h.under_way p)

-- TESTS

none_filtered : (f : Check → Bool) (checks : List Check) → first_refusal checks ≡ None → first_refusal (filter f checks) ≡ None
none_filtered f [] h = refl
none_filtered f (check ∷ checks) h = at_found check.found refl (none_filtered f checks) h
  where
    at_keep : (b : Bool) → f check ≡ b → check.found ≡ None → first_refusal (filter f checks) ≡ None → first_refusal (filter f (check ∷ checks)) ≡ None
    at_keep true q found more = rw (q, found) more
    at_keep false q found more = rw (q) more

    at_found : (o : Option Refusal) → check.found ≡ o → (first_refusal checks ≡ None → first_refusal (filter f checks) ≡ None)
        → option_or o (first_refusal checks) ≡ None → first_refusal (filter f (check ∷ checks)) ≡ None
    at_found None q more k = at_keep (f check) refl q (more k)
    at_found (Some cause) q more k = cc k

-- a running transaction is such
runs_such : (standing : Standing) (run : Run) (P : Run → Type 0) → standing ≡ running run → P run → IsRunning standing P
runs_such standing run P is p = rw (is) p

-- ENTRIES

pub refused_next : (s : State) (place l : ℕ) (session : Session) (statement : Statement) (cause : Refusal) → IsLineOf s place l session statement → IsOpen session.stage
    → first_refusal (line_checks s place session statement) ≡ Some cause → IsCertain cause → IsNextOf s l (entries.Refused (Some place) l cause)
unfolding IsPossible
refused_next s place l session statement cause at open_still first certain =
    record { possible = of_line s place l session statement _ at (inl (open_still, inl first)); undisturbed = certain; line = refl }

pub begin_next : (s : State) (place l c : ℕ) (session : Session) (statement : Statement) → IsLineOf s place l session statement → Begins statement → session.stage ≡ fresh → session.standing ≡ idle
    → first_refusal (line_checks s place session statement) ≡ None → IsSomeAnd (slice_get s.nodes session.node) (λ node. c ≡ node_position s.latest node) → IsNextOf s l (entries.Begin place l c)
unfolding IsPossible
begin_next s place l c session statement at begins stage none granted snapshot =
    record { possible = of_line s place l session statement _ at (record { begins = begins; stage = stage; none = none; granted = granted; snapshot = snapshot }); undisturbed = tt; line = refl }

pub lock_next : (s : State) (place l : ℕ) (session : Session) (statement : Statement) (run : Run) → IsLineOf s place l session statement → IsUnlocked session.stage → session.standing ≡ running run
    → has_some (wanted statement run) ≡ true → first_refusal (line_checks s place session statement) ≡ None → IsNextOf s l (entries.Lock place l (wanted statement run))
unfolding IsPossible
lock_next s place l session statement run at stage runs some granted =
    record {
      possible = of_line s place l session statement _ at (record { stage = stage; names_are = runs_such session.standing run (λ r. wanted statement run ≡ wanted statement r) runs refl; some = some; granted = none_filtered (λ (check : Check). nat_lt check.order 10) (line_checks s place session statement) granted });
      undisturbed = tt;
      line = refl;
    }

pub done_next : (s : State) (place l : ℕ) (session : Session) (statement : Statement) (run : Run) → IsLineOf s place l session statement → IsOnTables statement → HasMeaning statement → IsOpen session.stage
    → session.standing ≡ running run → wanted statement run ≡ [] → first_refusal (line_checks s place session statement) ≡ None → IsNextOf s l (entries.Done place l)
unfolding IsPossible
done_next s place l session statement run at tables meaning stage runs held granted =
    record {
      possible = of_line s place l session statement _ at (record { tables = tables; meaning = meaning; stage = stage; held = runs_such session.standing run (λ r. wanted statement r ≡ []) runs held; granted = none_filtered (λ (check : Check). not (nat_eq check.order 7)) (line_checks s place session statement) granted });
      undisturbed = tt;
      line = refl;
    }

pub commit_next : (s : State) (place l : ℕ) (session : Session) (statement : Statement) (run : Run) → IsLineOf s place l session statement → session.standing ≡ running run
    → IsEnding run.own session.stage statement → has_some run.now.held ≡ true → s.halted ≡ None → IsNextOf s l (entries.Commit place l (s.latest + 1))
unfolding IsPossible
commit_next s place l session statement run at runs ending some halted =
    record {
      possible = of_line s place l session statement _ at (record { ends = runs_such session.standing run (CanEnd true session statement) runs (record { ending = ending; held = some }); number = refl; not_halted = halted });
      undisturbed = tt;
      line = refl;
    }

pub end_next : (s : State) (place l : ℕ) (session : Session) (statement : Statement) (run : Run) → IsLineOf s place l session statement → session.standing ≡ running run
    → IsEnding run.own session.stage statement → has_some run.now.held ≡ false → IsNextOf s l (entries.End place l)
unfolding IsPossible
end_next s place l session statement run at runs ending none =
    record { possible = of_line s place l session statement _ at (runs_such session.standing run (CanEnd false session statement) runs (record { ending = ending; held = none })); undisturbed = tt; line = refl }

pub rollback_next : (s : State) (place l : ℕ) (session : Session) (statement : Statement) → IsLineOf s place l session statement → statement ≡ statements.Rollback
    → first_refusal (line_checks s place session statement) ≡ None → nat_eq l 0 ≡ false → IsNextOf s l (entries.Rollback place l)
unfolding IsPossible
rollback_next s place zero session statement at same granted some = cc some
rollback_next s place (suc l) session statement at same granted some =
    record { possible = of_line s place (suc l) session statement _ at (record { same = same; granted = granted }); undisturbed = tt; line = refl }

pub save_next : (s : State) (place l : ℕ) (session : Session) (statement : Statement) (name : Name) → IsLineOf s place l session statement → statement ≡ statements.Savepoint name
    → first_refusal (line_checks s place session statement) ≡ None → IsNextOf s l (entries.Savepoint place l name)
unfolding IsPossible
save_next s place l session statement name at same granted =
    record { possible = of_line s place l session statement _ at (record { same = same; granted = granted }); undisturbed = tt; line = refl }

pub back_next : (s : State) (place l : ℕ) (session : Session) (statement : Statement) (name : Name) → IsLineOf s place l session statement → statement ≡ statements.BackTo name
    → first_refusal (line_checks s place session statement) ≡ None → IsNextOf s l (entries.Back place l name)
unfolding IsPossible
back_next s place l session statement name at same granted =
    record { possible = of_line s place l session statement _ at (record { same = same; granted = granted }); undisturbed = tt; line = refl }

pub release_next : (s : State) (place l : ℕ) (session : Session) (statement : Statement) (name : Name) → IsLineOf s place l session statement → statement ≡ statements.Release name
    → first_refusal (line_checks s place session statement) ≡ None → IsNextOf s l (entries.Release place l name)
unfolding IsPossible
release_next s place l session statement name at same granted =
    record { possible = of_line s place l session statement _ at (record { same = same; granted = granted }); undisturbed = tt; line = refl }

pub sync_next : (s : State) (place l : ℕ) (session : Session) (statement : Statement) → IsLineOf s place l session statement → statement ≡ statements.Sync
    → first_refusal (line_checks s place session statement) ≡ None → IsNextOf s l (entries.Sync place l s.latest)
unfolding IsPossible
sync_next s place l session statement at same granted =
    record { possible = (of_line s place l session statement _ at (record { same = same; granted = granted }), refl); undisturbed = tt; line = refl }
