-- The versions that are kept, and what reclaiming leaves of them.
use Rattle.std.specs.Prelude.{◌≡◌, ℕ, ◌+◌, ◌-◌, ◌≤◌, ◌<◌, ◌^◌, List, [], ◌∷◌, ◌++◌, length, take, drop, flat_map}
use Rattle.std.specs.List.{All}
use Rattle.iq_base.specs.Shorts.{Name}
use Rattle.iq_free_list.specs.FreeList.{Free, put_all}
use Rattle.iq_version_log.specs.declared.version_log.Version.{Version}

-- the first kept commit, the versions of it and of those behind it, and how many more find room
pub record LogState : Type 0 where
  pub base : ℕ
  pub versions : List Version
  pub room : ℕ

-- at least one version is kept, and the latest has a number of 64 bits
pub record IsCounted (base : ℕ) (versions : List Version) : Type 0 where
  pub some : 0 < length versions
  pub fits : base + length versions ≤ 2 ^ 64

-- commit 0 alone, of tables with these names and heads, which dropped nothing
pub record IsOpened (names : List Name) (heads : List ℕ) (log : LogState) : Type 0 where
  pub first : Version
  pub base : log.base ≡ 0
  pub versions : log.versions ≡ first ∷ []
  pub names_are : first.names ≡ names
  pub heads_are : first.heads ≡ heads
  pub none : first.dropped.items ≡ []

-- the latest commit
abbrev pub latest_of : LogState → ℕ
latest_of log = log.base + length log.versions - 1

-- a commit whose version is kept
pub record IsKept (log : LogState) (c : ℕ) : Type 0 where
  pub from : log.base ≤ c
  pub to : c ≤ latest_of log

-- the blocks that a version's commit dropped
abbrev pub dropped_at : Version → List ℕ
dropped_at version = version.dropped.items

-- those of some versions
abbrev pub dropped_in : List Version → List ℕ
dropped_in versions = flat_map dropped_at versions

-- the blocks that wait: those that commits behind the base dropped
abbrev pub waiting : LogState → List ℕ
waiting log = dropped_in (drop 1 log.versions)

-- the blocks that are freed up to a horizon
abbrev pub freed_to : LogState → ℕ → List ℕ
freed_to log horizon = dropped_in (take (horizon - log.base) (drop 1 log.versions))

-- the versions from a horizon on are kept, and what was dropped up to it is free
pub record Reclaims (horizon : ℕ) (old new : LogState) (before after : Free) : Type 0 where
  pub base : new.base ≡ horizon
  pub versions : new.versions ≡ drop (horizon - old.base) old.versions
  pub room : old.room ≤ new.room
  pub free : after.blocks ≡ put_all (freed_to old horizon) before.blocks
  pub count : after.count ≡ before.count

-- one version more, that of the next commit
pub record KeepsMore (version : Version) (old new : LogState) : Type 0 where
  pub base : new.base ≡ old.base
  pub versions : new.versions ≡ old.versions ++ version ∷ []
  pub room : old.room ≤ new.room + 1

-- the blocks that some commits dropped are ones that there are
abbrev pub AreWithin : ℕ → List Version → Type 0
AreWithin count versions = All (λ (version : Version). All (λ (b : ℕ). b < count) (dropped_at version)) versions
