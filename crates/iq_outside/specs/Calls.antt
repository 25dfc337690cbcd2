-- The calls of a memory form: how many there were, and which fail.
use Rattle.std.specs.Prelude.{ℕ, ◌+◌, ◌-◌, ◌^◌, min, Bool, List, nat_eq, Result, Ok, Err, if◌then◌else◌}
use Rattle.std.specs.List.{list_any}

-- the calls so far, the numbers (from 1) of those that are to fail, and how many have failed
pub record Plan : Type 0 where
  pub calls : ℕ
  pub fails : List ℕ
  pub faults : ℕ

-- no call yet, and these are to fail
abbrev pub plan_of : List ℕ → Plan
plan_of fails = record { calls = 0; fails = fails; faults = 0 }

-- the next number of a u64, or its last
abbrev pub next_of : ℕ → ℕ
next_of n = min (n + 1) (2 ^ 64 - 1)

-- whether the next call is listed
abbrev pub is_listed : Plan → Bool
is_listed plan = list_any (λ n. nat_eq n (next_of plan.calls)) plan.fails

-- the plan after one more call
abbrev pub after_call : Plan → Plan
after_call plan = record {
  calls = next_of plan.calls;
  fails = plan.fails;
  faults = if is_listed plan then next_of plan.faults else plan.faults;
}

-- the plan after a failure that no number named
abbrev pub after_fault : Plan → Plan
after_fault plan = record plan { faults = next_of plan.faults }

-- the plan after a call that answered so: one that failed with no number is one more failure
abbrev pub plan_after : {T E : Type 0} → Result T E → Plan → Plan
plan_after (Ok x) plan = after_call plan
plan_after (Err e) plan = if is_listed plan then after_call plan else after_fault (after_call plan)

-- what a memory source has left, and its calls
pub record Reading : Type 0 where
  pub left : List ℕ
  pub plan : Plan

-- what a memory sink has taken, how many bytes it takes at most at a write, and its calls
pub record Writing : Type 0 where
  pub written : List ℕ
  pub most : ℕ
  pub plan : Plan

-- what a sure sink has taken, and how often it found no memory
pub record Kept : Type 0 where
  pub written : List ℕ
  pub faults : ℕ
