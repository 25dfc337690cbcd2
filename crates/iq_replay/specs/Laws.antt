-- What is said of histories and changes: whose an entry is, which commits it makes, and what it leaves alone.
use Rattle.std.specs.Prelude.{◌≡◌, ◌≢◌, ◌≤◌, ℕ, ⊤, Bool, true, false, List, [], ◌∷◌, Option, Some, None}
use Rattle.std.specs.List.{AllByRecursion, filter_map, slice_get}
use Rattle.iq_history.specs.declared.entries.Entry.{Entry}
use Rattle.iq_history.specs.declared.entries.Entry.TheVariants as entries
use Rattle.iq_replay.specs.State.{State, Session, Standing, idle, lost, running, Node, Report}
use Rattle.iq_replay.specs.Nodes.{node_position, report_of}
use Rattle.iq_replay.specs.Histories.{low_after}

-- WHOSE AN ENTRY IS

-- the session whose line an entry belongs to
abbrev pub session_in : Entry → Option ℕ
session_in (entries.Begin place l c) = Some place
session_in (entries.Lock place l names) = Some place
session_in (entries.Done place l) = Some place
session_in (entries.Refused place l cause) = place
session_in (entries.Commit place l c) = Some place
session_in (entries.End place l) = Some place
session_in (entries.Rollback place l) = Some place
session_in (entries.Halt place l c before after) = Some place
session_in (entries.Savepoint place l name) = Some place
session_in (entries.Back place l name) = Some place
session_in (entries.Release place l name) = Some place
session_in (entries.Sync place l c) = Some place
session_in (entries.Apply n l c) = None
session_in (entries.Send n l number floor) = None
session_in (entries.Lose l number) = None
session_in (entries.Take l number horizon freed) = None
session_in (entries.Own n l horizon freed) = None
session_in (entries.Restart n l incarnation) = None
session_in (entries.Exclude n l incarnation) = None
session_in (entries.Include n l c) = None
session_in (entries.Space l census) = None
session_in (entries.Versions l) = None

-- the node whose running transactions an entry ends
abbrev pub node_in : Entry → Option ℕ
node_in (entries.Begin place l c) = None
node_in (entries.Lock place l names) = None
node_in (entries.Done place l) = None
node_in (entries.Refused place l cause) = None
node_in (entries.Commit place l c) = None
node_in (entries.End place l) = None
node_in (entries.Rollback place l) = None
node_in (entries.Halt place l c before after) = None
node_in (entries.Savepoint place l name) = None
node_in (entries.Back place l name) = None
node_in (entries.Release place l name) = None
node_in (entries.Sync place l c) = None
node_in (entries.Apply n l c) = None
node_in (entries.Send n l number floor) = None
node_in (entries.Lose l number) = None
node_in (entries.Take l number horizon freed) = None
node_in (entries.Own n l horizon freed) = None
node_in (entries.Restart n l incarnation) = Some n
node_in (entries.Exclude n l incarnation) = Some n
node_in (entries.Include n l c) = None
node_in (entries.Space l census) = None
node_in (entries.Versions l) = None

-- an entry of another session, which ends no transaction of this session's node
pub record IsOther (place : ℕ) (session : Session) (e : Entry) : Type 0 where
  pub elsewhere : session_in e ≢ Some place
  pub spared : node_in e ≢ Some session.node

-- the node that an entry moves or raises: the session's at its commit and SYNC, a step's, a report's
abbrev pub node_of : Option Session → Option ℕ
node_of None = None
node_of (Some session) = Some session.node

abbrev pub report_node : Option Report → Option ℕ
report_node None = None
report_node (Some report) = Some report.node

abbrev pub node_changed : State → Entry → Option ℕ
node_changed s (entries.Begin place l c) = None
node_changed s (entries.Lock place l names) = None
node_changed s (entries.Done place l) = None
node_changed s (entries.Refused place l cause) = None
node_changed s (entries.Commit place l c) = node_of (slice_get s.sessions place)
node_changed s (entries.End place l) = None
node_changed s (entries.Rollback place l) = None
node_changed s (entries.Halt place l c before after) = None
node_changed s (entries.Savepoint place l name) = None
node_changed s (entries.Back place l name) = None
node_changed s (entries.Release place l name) = None
node_changed s (entries.Sync place l c) = node_of (slice_get s.sessions place)
node_changed s (entries.Apply n l c) = Some n
node_changed s (entries.Send n l number floor) = None
node_changed s (entries.Lose l number) = None
node_changed s (entries.Take l number horizon freed) = report_node (report_of number s.bag)
node_changed s (entries.Own n l horizon freed) = None
node_changed s (entries.Restart n l incarnation) = Some n
node_changed s (entries.Exclude n l incarnation) = Some n
node_changed s (entries.Include n l c) = Some n
node_changed s (entries.Space l census) = None
node_changed s (entries.Versions l) = None

-- whether an entry is of a report: one that is sent, lost or taken
abbrev pub is_of_report : Entry → Bool
is_of_report (entries.Begin place l c) = false
is_of_report (entries.Lock place l names) = false
is_of_report (entries.Done place l) = false
is_of_report (entries.Refused place l cause) = false
is_of_report (entries.Commit place l c) = false
is_of_report (entries.End place l) = false
is_of_report (entries.Rollback place l) = false
is_of_report (entries.Halt place l c before after) = false
is_of_report (entries.Savepoint place l name) = false
is_of_report (entries.Back place l name) = false
is_of_report (entries.Release place l name) = false
is_of_report (entries.Sync place l c) = false
is_of_report (entries.Apply n l c) = false
is_of_report (entries.Send n l number floor) = true
is_of_report (entries.Lose l number) = true
is_of_report (entries.Take l number horizon freed) = true
is_of_report (entries.Own n l horizon freed) = true
is_of_report (entries.Restart n l incarnation) = false
is_of_report (entries.Exclude n l incarnation) = false
is_of_report (entries.Include n l c) = false
is_of_report (entries.Space l census) = false
is_of_report (entries.Versions l) = false

-- COMMITS

-- the number of the commit that an entry makes, if it makes one
abbrev pub commit_in : Entry → Option ℕ
commit_in (entries.Begin place l c) = None
commit_in (entries.Lock place l names) = None
commit_in (entries.Done place l) = None
commit_in (entries.Refused place l cause) = None
commit_in (entries.Commit place l c) = Some c
commit_in (entries.End place l) = None
commit_in (entries.Rollback place l) = None
commit_in (entries.Halt place l c before after) = None
commit_in (entries.Savepoint place l name) = None
commit_in (entries.Back place l name) = None
commit_in (entries.Release place l name) = None
commit_in (entries.Sync place l c) = None
commit_in (entries.Apply n l c) = None
commit_in (entries.Send n l number floor) = None
commit_in (entries.Lose l number) = None
commit_in (entries.Take l number horizon freed) = None
commit_in (entries.Own n l horizon freed) = None
commit_in (entries.Restart n l incarnation) = None
commit_in (entries.Exclude n l incarnation) = None
commit_in (entries.Include n l c) = None
commit_in (entries.Space l census) = None
commit_in (entries.Versions l) = None

-- the numbers of the commits of a history, in its order
abbrev pub commits_in : List Entry → List ℕ
commits_in es = filter_map commit_in es

-- COMMITS THAT WERE MADE

-- a snapshot is no later than the latest commit
abbrev pub IsMadeSnapshot : ℕ → Standing → Type 0
IsMadeSnapshot latest idle = ⊤
IsMadeSnapshot latest lost = ⊤
IsMadeSnapshot latest (running run) = run.snapshot ≤ latest

-- all snapshots and positions are commits that were made: none is later than the latest
pub record AreMade (s : State) : Type 0 where
  pub snapshots : AllByRecursion (λ (session : Session). IsMadeSnapshot s.latest session.standing) s.sessions
  pub positions : AllByRecursion (λ (node : Node). node_position s.latest node ≤ s.latest) s.nodes

-- WHAT A CHANGE LEAVES ALONE

-- the constants of a run
pub record HasSameConstants (s now : State) : Type 0 where
  pub blocks : now.blocks ≡ s.blocks
  pub told : now.told ≡ s.told

-- the commits
pub record HasSameCommits (s now : State) : Type 0 where
  pub latest : now.latest ≡ s.latest
  pub newest : now.newest ≡ s.newest
  pub older : now.older ≡ s.older
  pub wrote : now.wrote ≡ s.wrote

-- the reports and what was freed by them
pub record HasSameReports (s now : State) : Type 0 where
  pub bag : now.bag ≡ s.bag
  pub next : now.next ≡ s.next
  pub base : now.base ≡ s.base

-- THE ORDER OF LINES

-- the line below which no entry may fall behind a history
abbrev pub low_behind : ℕ → List Entry → ℕ
low_behind low [] = low
low_behind low (e ∷ es) = low_behind (low_after low e) es
