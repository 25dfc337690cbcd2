-- Each undisturbed entry that is possible is the next one of its line, or a lock before a refusal.
use Rattle.std.specs.Prelude.{◌≡◌, ◌<◌, refl, ℕ, zero, suc, List, [], ◌∷◌, Option, Some, None, IsSomeAnd}
use Rattle.std.specs.List.{slice_get}
use Rattle.std.proofs.Common.{◌∙◌, arith, ap, sym, inl, inr}
use Rattle.iq_base.specs.Shorts.{Name}
use Rattle.iq_base.specs.declared.refusals.Refusal.{Refusal}
use Rattle.iq_ast.specs.declared.statements.Statement.{Statement}
use Rattle.iq_history.specs.declared.entries.Entry.{Entry}
use Rattle.iq_history.specs.declared.entries.Entry.TheVariants as entries
use Rattle.iq_model.specs.declared.scripts.Deed.{Deed}
use Rattle.iq_model.specs.declared.scripts.Deed.TheVariants as deeds
use Rattle.iq_model.specs.declared.scripts.Line.{Line}
use Rattle.iq_model.specs.declared.scripts.Step.{Step}
use Rattle.iq_model.specs.declared.scripts.Step.TheVariants as steps
use Rattle.iq_statements.specs.Checks.{first_refusal}
use Rattle.iq_replay.specs.State.{State, Session, Stage, fresh, begun, locked, done, Standing, idle, lost, running, Run, Node}
use Rattle.iq_replay.specs.Refusals.{line_checks}
use Rattle.iq_replay.specs.Asked.{FirstIs, StepIs, OfLine, OfStep, OfTurn, IsRunning}
use Rattle.iq_replay.specs.Lines.{CanLock, CanRefuseStep}
use Rattle.iq_replay.specs.Changes.{statement_of}
use Rattle.iq_replay.specs.Entries.{IsPossible}
use Rattle.iq_replay.specs.Histories.{line_of}
use Rattle.iq_replay.proofs.Lines.{LineFound, OfLine-found}
use Rattle.iq_script_order.specs.Fixed.{IsCertain, IsUndisturbed}
use Rattle.iq_script_order.proofs.Next.{next_of, LocksOr, goes, stops, IsOnTablesAt, IsIncluded, next_begin, next_lock, next_done, next_refused, next_rollback, next_savepoint, next_back, next_release, next_sync, next_commit, next_end}
use Rattle.iq_script_order.proofs.Steps.{entry_uncounted, next_step, step_apply, step_send, step_own, step_lose, step_take, step_restart, step_exclude, step_include, step_refused}
use Rattle.iq_script_order.proofs.Sound.{IncludedAt, IsTablesHead, IsSound}
use Rattle.iq_script_order.proofs.Goes.{head_is, include_kind}

-- a session's line that goes on with an entry
pub record SessionNext (s : State) (l : ℕ) (e : Entry) : Type 0 where
  pub place : ℕ
  pub session : Session
  pub line : Line
  pub lines : List Line
  pub statement : Statement
  pub found : slice_get s.sessions place ≡ Some session
  pub left : session.left ≡ line ∷ lines
  pub number : line.number ≡ l
  pub deed : line.deed ≡ deeds.Statement statement
  pub next : next_of s place l session statement ≡ e

-- a step that goes on with an entry
pub record StepNext (s : State) (l : ℕ) (e : Entry) : Type 0 where
  pub line : Line
  pub lines : List Line
  pub step : Step
  pub left : s.steps ≡ line ∷ lines
  pub number : line.number ≡ l
  pub deed : line.deed ≡ deeds.Step step
  pub next : next_step s l step ≡ e

pub data IsNext (s : State) (l : ℕ) (e : Entry) : Type 0 where
  of_session : SessionNext s l e → IsNext s l e
  of_steps : StepNext s l e → IsNext s l e

-- a lock before a refusal by a test behind the locks
pub record EarlyLock (s : State) (l : ℕ) (e : Entry) : Type 0 where
  pub place : ℕ
  pub names : List Name
  pub cause : Refusal
  pub lock : e ≡ entries.Lock place l names
  pub line : LineFound s place l (CanLock s place names)
  pub first : first_refusal (line_checks s place line.session line.statement) ≡ Some cause
  pub next : next_of s place l line.session line.statement ≡ entries.Refused (Some place) l cause

pub data Goes_on (s : State) (l : ℕ) (e : Entry) : Type 0 where
  next : IsNext s l (entry_uncounted e) → Goes_on s l e
  early : EarlyLock s l e → Goes_on s l e

-- SESSIONS

from_found : (s : State) (place l : ℕ) (P : Session → Statement → Type 0) (e : Entry) → (found : LineFound s place l P) → next_of s place l found.session found.statement ≡ e → IsNext s l e
from_found s place l P e found is =
    of_session (record { place = place; session = found.session; line = found.line; lines = found.lines; statement = found.statement; found = found.found; left = found.left; number = found.number; deed = found.deed; next = is })

at_stage : (stage : Stage) (o : Option Statement) (statement : Statement) → o ≡ Some statement → IsTablesHead stage o → IsOnTablesAt stage statement
at_stage fresh o statement is h = tt
at_stage begun o statement is h = tt
at_stage locked o statement is h = tt
at_stage done o statement is h = rw is at h

tables_at : (s : State) (place l : ℕ) (P : Session → Statement → Type 0) → IsSound s → (found : LineFound s place l P) → IsOnTablesAt found.session.stage found.statement
tables_at s place l P sound found =
    at_stage found.session.stage (statement_of found.session.left) found.statement (head_is found.session found.line found.lines found.statement found.left found.deed) (sound.sessions place found.session found.found).head

included_running : (o : Option Node) (standing : Standing) (P : Run → Type 0) → IncludedAt o standing → IsRunning standing P → IsIncluded o
included_running o idle P h r = absurd r
included_running o lost P h r = absurd r
included_running o (running run) P h r = h

pub session_goes : (s : State) (place l : ℕ) (P : Session → Statement → Type 0) (e : Entry) → IsSound s → OfLine s place l P
    → ((session : Session) (statement : Statement) → P session statement → IsOnTablesAt session.stage statement → IncludedAt (slice_get s.nodes session.node) session.standing → next_of s place l session statement ≡ e)
    → IsNext s l e
session_goes s place l P e sound h one = at_found (OfLine-found s place l P h)
  where
    at_found : LineFound s place l P → IsNext s l e
    at_found found = from_found s place l P e found (one found.session found.statement found.holds (tables_at s place l P sound found) (sound.sessions place found.session found.found).included)

lock_goes : (s : State) (place l : ℕ) (names : List Name) → OfLine s place l (CanLock s place names) → Goes_on s l (entries.Lock place l names)
lock_goes s place l names h = at_found (OfLine-found s place l (CanLock s place names) h)
  where
    at_found : LineFound s place l (CanLock s place names) → Goes_on s l (entries.Lock place l names)
    at_found found = at_or (next_lock s place l names found.session found.statement found.holds)
      where
        at_or : LocksOr s place l names found.session found.statement → Goes_on s l (entries.Lock place l names)
        at_or (goes is) = next (from_found s place l (CanLock s place names) _ found is)
        at_or (stops cause first is) = early (record { place = place; names = names; cause = cause; lock = refl; line = found; first = first; next = is })

-- STEPS

step_goes : (s : State) (l : ℕ) (P : Step → Type 0) (e : Entry) → OfStep s l P → ((step : Step) → P step → next_step s l step ≡ e) → IsNext s l e
step_goes s l P e h one = at_left s.steps refl h.1
  where
    at_deed : (line : Line) (lines : List Line) → s.steps ≡ line ∷ lines → line.number ≡ l → (deed : Deed) → line.deed ≡ deed → StepIs deed P → IsNext s l e
    at_deed line lines left number (deeds.Statement statement) is p = absurd p
    at_deed line lines left number (deeds.Step step) is p = of_steps (record { line = line; lines = lines; step = step; left = left; number = number; deed = is; next = one step p })

    at_left : (lines : List Line) → s.steps ≡ lines → FirstIs lines l (λ deed. StepIs deed P) → IsNext s l e
    at_left [] is p = absurd p
    at_left (line ∷ lines) is p = at_deed line lines is p.0 line.deed refl p.1

turn_goes : (s : State) (l : ℕ) (P : Step → Type 0) (e : Entry) → 0 < l → OfTurn s l P → ((step : Step) → P step → next_step s l step ≡ e) → IsNext s l e
turn_goes s zero P e some h one = absurd (omega (arith, some))
turn_goes s (suc l) P e some h one = step_goes s (suc l) P e h one

node_turn_goes : (s : State) (l n : ℕ) (P : Node → Type 0) (named : Name → Step) (e : Entry) → 0 < l
    → IsSomeAnd (slice_get s.nodes n) (λ node. P node × OfTurn s l (λ step. step ≡ named node.name))
    → ((node : Node) → slice_get s.nodes n ≡ Some node → P node → next_step s l (named node.name) ≡ e) → IsNext s l e
node_turn_goes s l n P named e some h one = at_node (slice_get s.nodes n) refl h
  where
    at_node : (o : Option Node) → slice_get s.nodes n ≡ o → IsSomeAnd o (λ node. P node × OfTurn s l (λ step. step ≡ named node.name)) → IsNext s l e
    at_node None is q = absurd q
    at_node (Some node) is q = turn_goes s l (λ step. step ≡ named node.name) e some q.1 (λ step same. ap (next_step s l) same ∙ one node is q.0)

node_step_goes : (s : State) (l n : ℕ) (P : Node → Type 0) (named : Name → Step) (e : Entry)
    → IsSomeAnd (slice_get s.nodes n) (λ node. P node × OfStep s l (λ step. step ≡ named node.name))
    → ((node : Node) → slice_get s.nodes n ≡ Some node → P node → next_step s l (named node.name) ≡ e) → IsNext s l e
node_step_goes s l n P named e h one = at_node (slice_get s.nodes n) refl h
  where
    at_node : (o : Option Node) → slice_get s.nodes n ≡ o → IsSomeAnd o (λ node. P node × OfStep s l (λ step. step ≡ named node.name)) → IsNext s l e
    at_node None is q = absurd q
    at_node (Some node) is q = step_goes s l (λ step. step ≡ named node.name) e q.1 (λ step same. ap (next_step s l) same ∙ one node is q.0)

refused_goes : (s : State) (l : ℕ) (cause : Refusal) → IsCertain cause → CanRefuseStep s l cause → IsNext s l (entries.Refused None l cause)
refused_goes s l cause certain (inl h) = step_goes s l _ _ h (λ step found. step_refused s l step cause found)
refused_goes s l cause certain (inr h) = absurd (rw h.1 at certain)

-- EVERY ENTRY

pub goes_on : (s : State) (e : Entry) → IsPossible s e → IsUndisturbed e → IsSound s → 0 < line_of e → Goes_on s (line_of e) e
unfolding IsPossible
goes_on s (entries.Begin q l c) h u sound some = next (session_goes s q l _ _ sound h (λ session statement p tables included. next_begin s q l c session statement p))
goes_on s (entries.Lock q l names) h u sound some = lock_goes s q l names h
goes_on s (entries.Done q l) h u sound some = next (session_goes s q l _ _ sound h (λ session statement p tables included. next_done s q l session statement sound.halted p))
goes_on s (entries.Refused None l cause) h u sound some = next (refused_goes s l cause u h)
goes_on s (entries.Refused (Some q) l cause) h u sound some = next (session_goes s q l _ _ sound h (λ session statement p tables included. next_refused s q l session statement cause sound.halted u p))
goes_on s (entries.Commit q l c) h u sound some =
    next (session_goes s q l _ _ sound h (λ session statement p tables included. next_commit s q l c session statement (included_running _ session.standing _ included p.ends) p))
goes_on s (entries.End q l) h u sound some =
    next (session_goes s q l _ _ sound h (λ session statement p tables included. next_end s q l session statement sound.halted (included_running _ session.standing _ included p) p))
goes_on s (entries.Rollback q zero) h u sound some = absurd (omega (arith, some))
goes_on s (entries.Rollback q (suc l)) h u sound some = next (session_goes s q (suc l) _ _ sound h (λ session statement p tables included. next_rollback s q (suc l) session statement tables p))
goes_on s (entries.Halt q l c before after) h u sound some = absurd u
goes_on s (entries.Savepoint q l name) h u sound some = next (session_goes s q l _ _ sound h (λ session statement p tables included. next_savepoint s q l name session statement tables p))
goes_on s (entries.Back q l name) h u sound some = next (session_goes s q l _ _ sound h (λ session statement p tables included. next_back s q l name session statement tables p))
goes_on s (entries.Release q l name) h u sound some = next (session_goes s q l _ _ sound h (λ session statement p tables included. next_release s q l name session statement tables p))
goes_on s (entries.Sync q l c) h u sound some =
    next (session_goes s q l _ _ sound h.0 (λ session statement p tables included. next_sync s q l session statement tables p ∙ ap (λ (n : ℕ). entries.Sync q l n) (sym h.1)))
goes_on s (entries.Apply n l c) h u sound some = next (node_turn_goes s l n _ steps.Apply _ some h (λ node is p. step_apply s l n c node is sound.nodes.distinct p.0 p.1 p.2))
goes_on s (entries.Send n l number floor) h u sound some = next (node_turn_goes s l n _ steps.Report _ some h (λ node is p. step_send s l n number floor node is sound.nodes.distinct p.0 p.1 p.2))
goes_on s (entries.Lose l number) h u sound some = next (turn_goes s l _ _ some h.0 (λ step same. ap (next_step s l) same ∙ step_lose s l number h.1))
goes_on s (entries.Take l number horizon freed) h u sound some = next (turn_goes s l _ _ some h.0 (λ step same. ap (next_step s l) same ∙ step_take s l number horizon h.1))
goes_on s (entries.Own n l horizon freed) h u sound some =
    next (node_turn_goes s l n _ steps.Report _ some h (λ node is p. step_own s l n horizon node is sound.nodes.distinct (sound.nodes.coordinators n node is p.0) p.0 p.1))
goes_on s (entries.Restart n l incarnation) h u sound some = next (node_step_goes s l n _ steps.Restart _ h (λ node is p. step_restart s l n incarnation node is sound.nodes.distinct p.0 p.1))
goes_on s (entries.Exclude n l incarnation) h u sound some = next (node_step_goes s l n _ steps.Exclude _ h (λ node is p. step_exclude s l n incarnation node is sound.nodes.distinct p.0 p.1))
goes_on s (entries.Include n l c) h u sound some =
    next (node_step_goes s l n _ steps.Include _ h (λ node is p. step_include s l n c node is sound.nodes.distinct (include_kind s n sound.nodes node is p.0) p.0 p.1))
goes_on s (entries.Space l census) h u sound some = next (step_goes s l _ _ h.0 (λ step same. ap (next_step s l) same))
goes_on s (entries.Versions l) h u sound some = next (step_goes s l _ _ h (λ step same. ap (next_step s l) same))
