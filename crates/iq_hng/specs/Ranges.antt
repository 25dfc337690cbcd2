-- How numbers stand to a range of numbers.
use Rattle.std.specs.Prelude.{◌≡◌, ℕ, ◌%◌, ◌^◌, ℤ, Bool, true, false, nat_lt, nat_le, List, Option, Some, None, length, map, replicate}
use Rattle.iq_base.specs.declared.values.Value.{Value}
use Rattle.iq_base.specs.declared.values.Value.TheVariants.{Int}
use Rattle.iq_ast.specs.declared.conditions.Op.{Op}
use Rattle.iq_ast.specs.declared.conditions.Op.TheVariants.{Lt, Gt, Ge}
use Rattle.iq_truth.specs.declared.truth.Side.TheVariants as sides
use Rattle.iq_truth.specs.Sides.{is_on}
use Rattle.iq_truth.specs.Comparisons.{between}
use Rattle.iq_pages.specs.Pages.{Pages}
use Rattle.iq_hng.specs.Keys.{bits_of, key_of}
use Rattle.iq_hng.specs.Slices.{Stands, holds_of}
use Rattle.iq_hng.specs.declared.hng.Hng.{Hng}
use Rattle.iq_hng.specs.declared.edges.Edge.{Edge}
use Rattle.iq_hng.specs.declared.ranging.Cut.{Cut}
use Rattle.iq_hng.specs.declared.ranging.Ranged.{Ranged}

-- the values of which BETWEEN is true
abbrev pub is_between : ℤ → ℤ → Value → Bool
is_between low high value = is_on sides.True (between value (Int low) (Int high))

-- the rows of the numbers below a range, of those within it and of those above it
pub record AreRanged (values : List Value) (low high : ℤ) (ranged : Ranged) : Type 0 where
  pub below : ranged.below ≡ map (holds_of Lt low) values
  pub within : ranged.within ≡ map (is_between low high) values
  pub above : ranged.above ≡ map (holds_of Gt high) values

-- whatever numbers the index stands for, this is how they stand to a range
abbrev pub GivesRanged : Hng → (ℕ → Option Pages) → ℤ → ℤ → Ranged → Type 0
GivesRanged hng told low high ranged = (values : List Value) → Stands hng told values → AreRanged values low high ranged

-- as many rows in each
pub record AreAllLong (n : ℕ) (ranged : Ranged) : Type 0 where
  pub below : length ranged.below ≡ n
  pub within : length ranged.within ≡ n
  pub above : length ranged.above ≡ n

-- PAST AN EDGE, BY THE LOWEST BITS

-- the operator of the numbers past a number: those from it on, or those behind it
abbrev pub past_op : Bool → Op
past_op true = Ge
past_op false = Gt

-- whether a key is past another one: greater, or the same where that counts too
abbrev pub past : Bool → ℕ → ℕ → Bool
past true t n = nat_le t n
past false t n = nat_lt t n

-- whether a key is past another one by their lowest j bits
abbrev pub is_past : Bool → ℕ → ℕ → Option ℕ → Bool
is_past also t j None = false
is_past also t j (Some n) = past also (t % 2 ^ j) (n % 2 ^ j)

-- the rows past an edge by no bit: those with a number, or none
abbrev pub past_first : Bool → List Bool → List Bool
past_first true some = some
past_first false some = replicate (length some) false

-- as many rows in both
pub record AreCutLong (n : ℕ) (cut : Cut) : Type 0 where
  pub begin : length cut.begin ≡ n
  pub end : length cut.end ≡ n

-- the rows past two edges by their lowest j bits
pub record ToBit (bits : ℕ) (begin end : Edge) (j : ℕ) (values : List Value) (cut : Cut) : Type 0 where
  pub begin_rows : cut.begin ≡ map (λ v. is_past begin.also begin.key j (key_of bits v)) values
  pub end_rows : cut.end ≡ map (λ v. is_past end.also end.key j (key_of bits v)) values

-- whatever numbers the index stands for: rows past two edges by no bit are taken to those past them by so many
abbrev pub GoesUp : Hng → (ℕ → Option Pages) → Edge → Edge → ℕ → Cut → Cut → Type 0
GoesUp hng told begin end j before after =
    (values : List Value) → Stands hng told values → ToBit (bits_of hng.width) begin end 0 values before → ToBit (bits_of hng.width) begin end j values after
