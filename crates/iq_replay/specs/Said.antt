-- What a line is answered: a statement on tables from the tables before it, VERSIONS from the state.
use Rattle.std.specs.Prelude.{ℕ, ◌+◌, List, [], ◌∷◌, Option, Some, None}
use Rattle.iq_ast.specs.declared.statements.Statement.{Statement}
use Rattle.iq_ast.specs.declared.statements.Statement.TheVariants as statements
use Rattle.iq_ast.specs.declared.statements.Write.{Write}
use Rattle.iq_ast.specs.declared.statements.Write.TheVariants as writes
use Rattle.iq_model.specs.declared.answers.NodeVersion.{NodeVersion}
use Rattle.iq_model.specs.declared.answers.Versions.{Versions}
use Rattle.iq_model.specs.declared.replies.Said.{Said}
use Rattle.iq_model.specs.declared.replies.Said.TheVariants as said
use Rattle.iq_statements.specs.Tables.{Database}
use Rattle.iq_statements.specs.Answers.{answer}
use Rattle.iq_statements.specs.Effects.{count}
use Rattle.iq_replay.specs.State.{State, Node}
use Rattle.iq_replay.specs.Nodes.{node_position, floor_of, taken_of}

-- a write tells its count; the number of its commit is filled in at the commit, where the line has one of its own
abbrev pub write_said : Write → Database → Said
write_said (writes.CreateTable name schema) db = said.Created None
write_said (writes.DropTable name) db = said.Dropped None
write_said (writes.CreateIndex name kind table column second) db = said.Created None
write_said (writes.DropIndex table name) db = said.Dropped None
write_said (writes.Insert table rows) db = said.Inserted (count (writes.Insert table rows) db) None
write_said (writes.Load table rows text) db = said.Inserted (count (writes.Load table rows text) db) None
write_said (writes.Delete table cond) db = said.Deleted (count (writes.Delete table cond) db) None
write_said (writes.Update table changes cond) db = said.Updated (count (writes.Update table changes cond) db) None

-- the others aren't answered by tables
abbrev pub statement_said : Statement → Database → Option Said
statement_said (statements.Write write) db = Some (write_said write db)
statement_said (statements.Select select) db = Some (said.Answer (answer select db))
statement_said statements.Begin db = None
statement_said statements.Commit db = None
statement_said statements.Rollback db = None
statement_said (statements.Savepoint name) db = None
statement_said (statements.BackTo name) db = None
statement_said (statements.Release name) db = None
statement_said statements.Sync db = None

-- what a line said, with the number of its commit; what isn't a write's answer has none
abbrev pub numbered : ℕ → Said → Said
numbered c (said.Created before) = said.Created (Some c)
numbered c (said.Dropped before) = said.Dropped (Some c)
numbered c (said.Inserted rows before) = said.Inserted rows (Some c)
numbered c (said.Deleted rows before) = said.Deleted rows (Some c)
numbered c (said.Updated rows before) = said.Updated rows (Some c)
numbered c (said.Answer told) = said.Answer told
numbered c (said.Begun snapshot) = said.Begun snapshot
numbered c (said.Committed commit) = said.Committed commit
numbered c said.Ended = said.Ended
numbered c said.RolledBack = said.RolledBack
numbered c (said.Saved name) = said.Saved name
numbered c (said.BackTo name) = said.BackTo name
numbered c (said.Released name) = said.Released name
numbered c (said.Synced commit) = said.Synced commit
numbered c (said.Applied commit) = said.Applied commit
numbered c (said.Sent report) = said.Sent report
numbered c (said.Lost number) = said.Lost number
numbered c (said.Taken freed) = said.Taken freed
numbered c (said.Restarted incarnation) = said.Restarted incarnation
numbered c (said.Excluded incarnation) = said.Excluded incarnation
numbered c (said.Included commit) = said.Included commit
numbered c (said.Space census) = said.Space census
numbered c (said.Versions versions) = said.Versions versions
numbered c (said.Refused cause) = said.Refused cause

-- what a commit is answered: COMMIT by its number, a line of its own by what it said
abbrev pub commit_said : ℕ → Option Said → Said
commit_said c None = said.Committed c
commit_said c (Some what) = numbered c what

-- what VERSIONS tells
abbrev pub versions_from : State → ℕ → List Node → List NodeVersion
versions_from s n [] = []
versions_from s n (node ∷ nodes) =
    record {
      node = n;
      position = node_position s.latest node;
      floor = floor_of s n node;
      taken = taken_of s n node;
      incarnation = node.incarnation;
      excluded = node.excluded;
    }
    ∷ versions_from s (n + 1) nodes

abbrev pub versions_of : State → Versions
versions_of s = record { latest = s.latest; horizon = s.base; nodes = versions_from s 0 s.nodes }
