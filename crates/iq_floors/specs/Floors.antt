-- How far back versions are wanted: floors and the horizon, over lists of numbers.
use Rattle.std.specs.Prelude.{ℕ, ◌≤◌, min, List, [], ◌∷◌}
use Rattle.std.specs.List.{All}

-- the least of a number and those of a list
abbrev pub least : ℕ → List ℕ → ℕ
least first [] = first
least first (n ∷ ns) = min n (least first ns)

-- a node's floor: the least of its position and the snapshots of its running transactions
abbrev pub floor : ℕ → List ℕ → ℕ
floor position snapshots = least position snapshots

-- the horizon: the least of the coordinator's floor and the taken floors of the other nodes that count
abbrev pub horizon : ℕ → List ℕ → ℕ
horizon own taken = least own taken

-- no number of these is below it, and it is the greatest such
pub record IsLeast (low first : ℕ) (others : List ℕ) : Type 0 where
  pub below_first : low ≤ first
  pub below_each : All (λ n. low ≤ n) others
  pub greatest : (x : ℕ) → x ≤ first → All (λ n. x ≤ n) others → x ≤ low
