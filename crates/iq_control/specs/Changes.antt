-- What an entry changes in the control.
use Rattle.std.specs.Prelude.{ℕ, ◌+◌, ◌++◌, Bool, true, List, [], ◌∷◌, Some}
use Rattle.std.specs.List.{slice_get}
use Rattle.iq_base.specs.Shorts.{Name}
use Rattle.iq_base.specs.declared.refusals.Refusal.{Refusal}
use Rattle.iq_base.specs.declared.refusals.Refusal.TheVariants as refusals
use Rattle.iq_history.specs.declared.entries.Entry.{Entry}
use Rattle.iq_history.specs.declared.entries.Entry.TheVariants as entries
use Rattle.iq_replay.specs.State.{Session}
use Rattle.iq_replay.specs.Causes.{faults_after}
use Rattle.iq_replay.specs.Changes.{ends_run, locks_more, nodes_at}
use Rattle.iq_sessions.specs.Changes.{begins_at, takes, refuses, ends_both, saves, goes_back, releases}
use Rattle.iq_sessions.specs.Table.{TableState, with_at, noting}
use Rattle.iq_control.specs.Control.{ControlState}

-- one entry more, and one session changed
abbrev pub entered : Entry → ℕ → (Session → Session) → ControlState → ControlState
entered e place f c = record c { entries = c.entries ++ e ∷ []; table = with_at place f c.table }

-- there is room for so many names of a session's commit
abbrev pub noted : ℕ → ℕ → ControlState → ControlState
noted place n c = record c { table = noting place n c.table }

-- a transaction began at a commit, the line's own or the session's
abbrev pub begun : ℕ → ℕ → Bool → ℕ → ControlState → ControlState
begun place l own commit c = entered (entries.Begin place l commit) place (begins_at own commit) c

-- it holds names more
abbrev pub locked_more : ℕ → ℕ → List Name → ControlState → ControlState
locked_more place l names c = entered (entries.Lock place l names) place (locks_more names) c

-- a statement took effect, and created these names
abbrev pub took : ℕ → ℕ → List Name → ControlState → ControlState
took place l created c = entered (entries.Done place l) place (takes created) c

-- the line was refused
abbrev pub refused_line : ℕ → ℕ → Refusal → ControlState → ControlState
refused_line place l cause c = record (entered (entries.Refused (Some place) l cause) place (refuses cause) c) { faults = faults_after cause c.faults }

-- the transaction ended with the next commit, which left the sessions so; the session's node is there
abbrev pub committed_at : ℕ → ℕ → TableState → ControlState → ControlState
committed_at place l table c =
    record c {
      entries = c.entries ++ entries.Commit place l (c.latest + 1) ∷ [];
      latest = c.latest + 1;
      nodes = nodes_at (slice_get c.table.sessions place) (c.latest + 1) c.nodes;
      table = table;
    }

-- the transaction ended without a commit
abbrev pub ended : ℕ → ℕ → ControlState → ControlState
ended place l c = entered (entries.End place l) place ends_both c

-- it was rolled back by its line, or at the script's end
abbrev pub rolled_back : ℕ → ℕ → ControlState → ControlState
rolled_back place l c = entered (entries.Rollback place l) place ends_both c

abbrev pub rolled_at_end : ℕ → ControlState → ControlState
rolled_at_end place c = record (entered (entries.Rollback place 0) place ends_run c) { closing = true }

-- the next commit met a device fault, while the count of faults rose so
abbrev pub halted_at : ℕ → ℕ → ℕ → ℕ → ControlState → ControlState
halted_at place l before after c =
    record (entered (entries.Halt place l (c.latest + 1) before after) place (refuses (refusals.StoreFault before after)) c) {
      halted = Some (c.latest + 1);
      faults = after;
    }

-- a savepoint stands; the transaction is back at one; one is gone
abbrev pub saved : ℕ → ℕ → Name → ControlState → ControlState
saved place l name c = entered (entries.Savepoint place l name) place (saves name) c

abbrev pub went_back : ℕ → ℕ → Name → ControlState → ControlState
went_back place l name c = entered (entries.Back place l name) place (goes_back name) c

abbrev pub released : ℕ → ℕ → Name → ControlState → ControlState
released place l name c = entered (entries.Release place l name) place (releases name) c
