-- Counts of faults.
use Rattle.std.specs.Prelude.{ℕ, ◌+◌, ◌-◌, ◌^◌, ◌≤◌, min, Result, OnErr}

-- a count of faults has risen; one that stands at the last value of a u64 counts as risen
abbrev pub HasRisen : ℕ → ℕ → Type 0
HasRisen before now = min (before + 1) (2 ^ 64 - 1) ≤ now

-- a count never falls, and it has risen where the call failed
pub record CountsFaults {T E : Type 0} (result : Result T E) (before now : ℕ) : Type 0 where
  pub later : before ≤ now
  pub failed : OnErr result (HasRisen before now)

-- between two readings of a count it rose from one number to another
pub record RoseWithin (first before after last : ℕ) : Type 0 where
  pub since : first ≤ before
  pub risen : HasRisen before after
  pub until : after ≤ last
