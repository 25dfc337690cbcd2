-- The replayed state: what the entries of a history leave.
use Rattle.std.specs.Prelude.{ℕ, Bool, true, false, not, zero, suc, List, [], ◌∷◌, Option, filter}
use Rattle.std.specs.List.{list_any}
use Rattle.iq_base.specs.Shorts.{Name}
use Rattle.iq_base.specs.declared.nodes.NodeKind.{NodeKind}
use Rattle.iq_model.specs.declared.replies.Reply.{Reply}
use Rattle.iq_model.specs.declared.replies.Said.{Said}
use Rattle.iq_model.specs.declared.scripts.Line.{Line}
use Rattle.iq_conditions.specs.Servers.{same_name}
use Rattle.iq_statements.specs.Tables.{Database}

-- TRANSACTIONS

-- a savepoint, and the tables as they were
pub record Save : Type 0 where
  pub name : Name
  pub seen : Database

-- the tables as a transaction sees them, the names that it holds, and the names that it created
pub record Work : Type 0 where
  pub seen : Database
  pub held : List Name
  pub created : List Name

-- a running transaction: whether it is the line's own, its snapshot, its work as its line began and now, and its savepoints
pub record Run : Type 0 where
  pub own : Bool
  pub snapshot : ℕ
  pub start : Work
  pub now : Work
  pub saves : List Save  -- the newest first

-- no transaction, one that a restart or an exclusion of its node ended, or a running one
pub data Standing : Type 0 where
  idle : Standing
  lost : Standing
  running : Run → Standing

-- SESSIONS

-- the last entry of the line under way, if it has one
pub data Stage : Type 0 where
  fresh : Stage
  begun : Stage
  locked : Stage
  done : Stage

-- A session: its node's place, its transaction, the line under way (how far it is, and what its statement said), the lines from
-- that one on, and the replies of the lines before it.
pub record Session : Type 0 where
  pub node : ℕ
  pub standing : Standing
  pub stage : Stage
  pub said : Option Said
  pub left : List Line
  pub replies : List Reply

-- NODES AND REPORTS

-- a report of a node's floor
pub record Report : Type 0 where
  pub number : ℕ
  pub node : ℕ
  pub floor : ℕ

-- a node; a coordinator's position isn't kept, since it is the latest commit
pub record Node : Type 0 where
  pub name : Name
  pub kind : NodeKind
  pub position : ℕ
  pub incarnation : ℕ
  pub taken : ℕ
  pub excluded : Bool

-- a name, and a commit that wrote it
pub record Written : Type 0 where
  pub name : Name
  pub commit : ℕ

-- THE STATE

-- The state before an entry: the constants of the run, the commits, the nodes, the reports, what stopped, the sessions, the
-- steps that are left, and the replies of steps so far.
pub record State : Type 0 where
  pub blocks : ℕ  -- the count of blocks
  pub told : Bool  -- whether the device returns what was written and the opening image stood for tables
  pub latest : ℕ
  pub newest : Database  -- the latest commit's tables
  pub older : List Database  -- those of the commits before it, from 0
  pub wrote : List Written  -- which commit wrote a name, the newest first
  pub nodes : List Node
  pub bag : List Report  -- in order of sending
  pub next : ℕ  -- the next report's number
  pub base : ℕ  -- the greatest horizon that was used for freeing
  pub halted : Option ℕ  -- the commit that met a device fault
  pub faults : ℕ  -- the last count of faults that an entry tells
  pub closing : Bool  -- whether the script's end has begun to roll back
  pub sessions : List Session
  pub steps : List Line  -- the steps that are left
  pub replies : List Reply  -- those of the steps so far

-- CHANGES OF PARTS

-- a list with one place changed
abbrev pub changed_at : {X : Type 0} → ℕ → (X → X) → List X → List X
changed_at n f [] = []
changed_at zero f (x ∷ xs) = f x ∷ xs
changed_at (suc n) f (x ∷ xs) = x ∷ changed_at n f xs

abbrev pub with_session : ℕ → (Session → Session) → State → State
with_session place f s = record s { sessions = changed_at place f s.sessions }

abbrev pub with_node : ℕ → (Node → Node) → State → State
with_node n f s = record s { nodes = changed_at n f s.nodes }

abbrev pub moved_to : ℕ → Node → Node
moved_to c node = record node { position = c }

-- NAMES THAT ARE HELD

-- whether a list has a name
abbrev pub has_name : List Name → Name → Bool
has_name names name = list_any (λ (n : Name). same_name n name) names

-- the names that aren't held yet
abbrev pub not_held : List Name → List Name → List Name
not_held held names = filter (λ (n : Name). not (has_name held n)) names

abbrev pub has_some : List Name → Bool
has_some [] = false
has_some (name ∷ names) = true

abbrev pub held_by : Standing → List Name
held_by idle = []
held_by lost = []
held_by (running run) = run.now.held

-- whether a running transaction holds a name
abbrev pub is_writing : List Session → Bool
is_writing sessions = list_any (λ (session : Session). has_some (held_by session.standing)) sessions
