-- Which places of nodes and sessions a refusal and an entry name: each below the count of the declared names of its kind.
use Rattle.std.specs.Prelude.{ℕ, ◌<◌, Option, Some, None}
use Rattle.iq_base.specs.declared.refusals.Refusal.{Refusal}
use Rattle.iq_base.specs.declared.refusals.Refusal.TheVariants.{Locked}
use Rattle.iq_history.specs.declared.entries.Entry.{Entry}
use Rattle.iq_history.specs.declared.entries.Entry.TheVariants.{Begin, Lock, Done, Refused, Commit, End, Rollback, Halt, Savepoint, Back, Release, Sync, Apply, Send, Lose, Take, Own, Restart, Exclude, Include, Space, Versions}

-- the session that holds a lock is declared; no other refusal names a place
abbrev pub IsPlacedRefusal : ℕ → Refusal → Type 0
IsPlacedRefusal sessions (Locked table session) = session < sessions
IsPlacedRefusal sessions _ = Unit {0}

-- a session, if there is one, is declared
abbrev pub IsPlacedSession : ℕ → Option ℕ → Type 0
IsPlacedSession sessions None = Unit {0}
IsPlacedSession sessions (Some s) = s < sessions

-- the nodes and sessions of an entry and of its cause are declared
abbrev pub IsPlaced : ℕ → ℕ → Entry → Type 0
IsPlaced nodes sessions (Begin s l c) = s < sessions
IsPlaced nodes sessions (Lock s l names) = s < sessions
IsPlaced nodes sessions (Done s l) = s < sessions
IsPlaced nodes sessions (Refused s l cause) = IsPlacedSession sessions s × IsPlacedRefusal sessions cause
IsPlaced nodes sessions (Commit s l c) = s < sessions
IsPlaced nodes sessions (End s l) = s < sessions
IsPlaced nodes sessions (Rollback s l) = s < sessions
IsPlaced nodes sessions (Halt s l c before after) = s < sessions
IsPlaced nodes sessions (Savepoint s l name) = s < sessions
IsPlaced nodes sessions (Back s l name) = s < sessions
IsPlaced nodes sessions (Release s l name) = s < sessions
IsPlaced nodes sessions (Sync s l c) = s < sessions
IsPlaced nodes sessions (Apply n l c) = n < nodes
IsPlaced nodes sessions (Send n l number floor) = n < nodes
IsPlaced nodes sessions (Lose l number) = Unit {0}
IsPlaced nodes sessions (Take l number horizon freed) = Unit {0}
IsPlaced nodes sessions (Own n l horizon freed) = n < nodes
IsPlaced nodes sessions (Restart n l incarnation) = n < nodes
IsPlaced nodes sessions (Exclude n l incarnation) = n < nodes
IsPlaced nodes sessions (Include n l c) = n < nodes
IsPlaced nodes sessions (Space l census) = Unit {0}
IsPlaced nodes sessions (Versions l) = Unit {0}
