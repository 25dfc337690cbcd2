-- How many pages pieces of one width need, and counts of pages that stay within a bound.
use Rattle.std.specs.Prelude.{◌≡◌, ◌≢◌, ◌≤◌, ℕ, zero, suc, ◌+◌, ◌-◌, ◌/◌, Option, Some, None, ⊤}
use Rattle.std.specs.Int.{div_ceil}
use Rattle.iq_pages.specs.Pages.{Seen, KeepsObjects}

-- how many pieces of w bytes a page has
abbrev pub per_page : ℕ → ℕ
per_page w = 1008 / w

-- how many pages n pieces of w bytes need
abbrev pub pages_for : ℕ → ℕ → ℕ
pages_for w n = div_ceil n (per_page w)

-- how many pages change where more pieces come behind so many: from the page of the first of them to that of the last
abbrev pub pages_changed : ℕ → ℕ → ℕ → ℕ
pages_changed w count zero = 0
pages_changed w count (suc more) = pages_for w (count + suc more) - count / per_page w

-- at most so many more were counted, where that is told now; what isn't told is not told again
abbrev pub CountsUpTo : ℕ → Option ℕ → Option ℕ → Type 0
CountsUpTo n before None = ⊤
CountsUpTo n None (Some now) = ⊥
CountsUpTo n (Some before) (Some now) = now ≤ before + n

-- every other object has the pages that it had
pub record KeepsOthers (object : ℕ) (before after : Seen) : Type 0 where
  pub told : (other : ℕ) → other ≢ object → after.told other ≡ before.told other
  pub counts : (other : ℕ) → other ≢ object → after.counts other ≡ before.counts other

-- at most so many pages were read, and nothing else was done
pub record OnlyReads (pages : ℕ) (before after : Seen) : Type 0 where
  pub kept : KeepsObjects before after
  pub reads : CountsUpTo pages before.reads after.reads
  pub writes : after.writes ≡ before.writes
  pub later : before.faults ≤ after.faults

-- no page was written, and every object has the pages that it had
pub record WritesNothing (before after : Seen) : Type 0 where
  pub kept : KeepsObjects before after
  pub writes : after.writes ≡ before.writes
