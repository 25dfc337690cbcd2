-- Names that sessions hold, the commit that last wrote each name, and what refuses a lock.
use Rattle.std.specs.Prelude.{◌≡◌, ℕ, ◌+◌, Bool, not, List, [], ◌∷◌, Option, Some, None, nat_eq, nat_lt, filter, find, replicate, slice_index_or, slice_set, if◌then◌else◌}
use Rattle.std.specs.List.{list_any}
use Rattle.std.specs.Option.{option_or}
use Rattle.std.specs.Cmp.Lexicographic.{pointwise}
use Rattle.iq_base.specs.Shorts.{Name}
use Rattle.iq_base.specs.declared.refusals.Refusal.{Refusal}
use Rattle.iq_base.specs.declared.refusals.Refusal.TheVariants as refusals

-- NAMES

abbrev pub same_name : Name → Name → Bool
same_name a b = pointwise nat_eq a b

-- whether a list has a name
abbrev pub has_name : List Name → Name → Bool
has_name names name = list_any (λ (n : Name). same_name n name) names

-- the names that aren't held yet
abbrev pub not_held : List Name → List Name → List Name
not_held held names = filter (λ (n : Name). not (has_name held n)) names

-- HOLDERS

-- the names that the session at a place holds
abbrev pub held_at : ℕ → List (List Name) → List Name
held_at s held = slice_index_or held s []

-- the first session from this place on, but the one that asks, that holds the name
abbrev pub holder_from : ℕ → List (List Name) → ℕ → Name → Option ℕ
holder_from place [] asks name = None
holder_from place (names ∷ held) asks name =
    if nat_eq place asks then holder_from (place + 1) held asks name
    else (if has_name names name then Some place else holder_from (place + 1) held asks name)

-- LATEST COMMITS

-- a name, and a commit that wrote it
pub record Written : Type 0 where
  pub name : Name
  pub commit : ℕ

abbrev pub commit_of : Option Written → ℕ
commit_of None = 0
commit_of (Some written) = written.commit

-- the commit that last wrote a name, 0 where none did
abbrev pub latest_of : Name → List Written → ℕ
latest_of name wrote = commit_of (find (λ (written : Written). same_name written.name name) wrote)

-- the rows with a name's latest commit: in place of its row, or behind them all
abbrev pub with_latest : Name → ℕ → List Written → List Written
with_latest name c [] = record { name = name; commit = c } ∷ []
with_latest name c (w ∷ ws) = if same_name w.name name then record { name = name; commit = c } ∷ ws else w ∷ with_latest name c ws

-- WHAT REFUSES A LOCK

abbrev pub locked_by : Name → Option ℕ → Option Refusal
locked_by name None = None
locked_by name (Some holder) = Some (refusals.Locked name holder)

-- a name that another session holds
abbrev pub locked_refusal : List (List Name) → ℕ → Name → Option Refusal
locked_refusal held asks name = locked_by name (holder_from 0 held asks name)

-- a name whose latest commit is past the snapshot
abbrev pub later_refusal : List Written → ℕ → Name → Option Refusal
later_refusal wrote snapshot name =
    if nat_lt snapshot (latest_of name wrote) then Some (refusals.Later name (latest_of name wrote)) else None

-- the first refusal of some names
abbrev pub first_of : (Name → Option Refusal) → List Name → Option Refusal
first_of refused [] = None
first_of refused (name ∷ names) = option_or (refused name) (first_of refused names)

-- what refuses names to a session: one that another holds, and only then one that was written past the snapshot
abbrev pub lock_refusal : List (List Name) → List Written → ℕ → ℕ → List Name → Option Refusal
lock_refusal held wrote asks snapshot names =
    option_or (first_of (locked_refusal held asks) names) (first_of (later_refusal wrote snapshot) names)

-- THE TABLE

-- the names held, by the places of sessions; the latest commits of names; and how many names more can be written without memory
pub record LockState : Type 0 where
  pub held : List (List Name)
  pub wrote : List Written
  pub room : ℕ

-- no session holds a name, and no commit wrote one
pub record IsUnlocked (sessions : ℕ) (new : LockState) : Type 0 where
  pub held : new.held ≡ replicate sessions []
  pub wrote : new.wrote ≡ []

-- the names that a session holds become these, and nothing else changes
abbrev pub holding : ℕ → List Name → LockState → LockState
holding s names locks = record locks { held = slice_set locks.held s names }

-- the names that a session is refused, or gets: those that it doesn't hold
abbrev pub wanted : LockState → ℕ → List Name → List Name
wanted locks s names = not_held (held_at s locks.held) names

-- a name was written by this commit; the latest commits of others, and what is held, stay
pub record Writes (name : Name) (commit : ℕ) (old new : LockState) : Type 0 where
  pub latest : (n : Name) → latest_of n new.wrote ≡ (if same_name name n then commit else latest_of n old.wrote)
  pub held : new.held ≡ old.held
