-- Commits of the replayed state: their tables, and which commit wrote a name.
use Rattle.std.specs.Prelude.{ℕ, ◌+◌, ◌++◌, not, List, [], ◌∷◌, Option, Some, None, nat_eq, map, filter, find, fold, if◌then◌else◌, unwrap_or}
use Rattle.std.specs.List.{slice_get}
use Rattle.iq_base.specs.Shorts.{Name}
use Rattle.iq_base.specs.Locks.{catalog_name}
use Rattle.iq_conditions.specs.Servers.{same_name}
use Rattle.iq_statements.specs.Tables.{Database, table_of, as_seen}
use Rattle.iq_replay.specs.State.{State, Work, Written}

-- the tables of a commit
abbrev pub database_of : State → ℕ → Database
database_of s c = if nat_eq c s.latest then s.newest else unwrap_or (slice_get s.older c) []

-- the commit that last wrote a name, 0 where none did
abbrev pub commit_of : Option Written → ℕ
commit_of None = 0
commit_of (Some written) = written.commit

abbrev pub latest_of : Name → List Written → ℕ
latest_of name wrote = commit_of (find (λ (written : Written). same_name written.name name) wrote)

-- A NEW COMMIT

-- the names that a transaction writes at its commit: those that it holds and those that it created
abbrev pub written_names : Work → List Name
written_names work = work.held ++ work.created

-- those of tables: all but the catalog's
abbrev pub table_names : List Name → List Name
table_names names = filter (λ (n : Name). not (same_name n catalog_name)) names

-- a database with a name's table as a transaction sees it
abbrev pub with_seen : Database → Database → Name → Database
with_seen seen db name = as_seen (table_of name seen) name db

-- the commit's tables: those of the commit before it, with the written names' tables as the transaction sees them
abbrev pub committed : Work → Database → Database
committed work db = fold (with_seen work.seen) db (table_names (written_names work))

abbrev pub written_at : ℕ → Name → Written
written_at c name = record { name = name; commit = c }

-- a state with one commit more, the work of a transaction
abbrev pub with_commit : Work → State → State
with_commit work s =
    record s {
      latest = s.latest + 1;
      newest = committed work s.newest;
      older = s.older ++ s.newest ∷ [];
      wrote = map (written_at (s.latest + 1)) (written_names work) ++ s.wrote;
    }
