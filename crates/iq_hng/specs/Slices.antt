-- When an object stands for a column of numbers, plane by plane, and what its calls give.
use Rattle.std.specs.Prelude.{◌≡◌, ◌≤◌, ◌<◌, ℕ, ◌+◌, ◌*◌, ◌^◌, ℤ, Bool, List, ◌++◌, Option, length, map}
use Rattle.std.specs.List.{All, range_with_len}
use Rattle.iq_base.specs.declared.values.Value.{Value}
use Rattle.iq_base.specs.declared.values.Value.TheVariants.{Int}
use Rattle.iq_base.specs.declared.sizes.TheConstants.{MOST_PAGES}
use Rattle.iq_ast.specs.declared.conditions.Op.{Op}
use Rattle.iq_ast.specs.declared.conditions.Op.TheVariants.{Eq, Lt, Gt}
use Rattle.iq_truth.specs.declared.truth.Side.TheVariants as sides
use Rattle.iq_truth.specs.Sides.{is_on}
use Rattle.iq_truth.specs.Comparisons.{comparison}
use Rattle.iq_pages.specs.Pages.{Pages}
use Rattle.iq_chunks.specs.Chunks.{chunks_for}
use Rattle.iq_planes.specs.Planes.{HoldsPlanes}
use Rattle.iq_hng.specs.Keys.{bits_of, IsSlice, slice_bit}
use Rattle.iq_hng.specs.declared.hng.Hng.{Hng}
use Rattle.iq_hng.specs.declared.comparing.Compared.{Compared}

-- the bits of the values in a plane
abbrev pub plane_of : ℕ → List Value → ℕ → List Bool
plane_of bits values j = map (slice_bit bits j) values

-- all planes: which rows have a value, and each bit of these
abbrev pub planes_of : ℕ → List Value → List (List Bool)
planes_of bits values = map (plane_of bits values) (range_with_len 0 (bits + 1))

-- how many planes an index has
abbrev pub planes_in : Hng → ℕ
planes_in hng = bits_of hng.width + 1

-- the told pages of the object stand for these numbers
pub record Stands (hng : Hng) (told : ℕ → Option Pages) (values : List Value) : Type 0 where
  pub slots : length values ≡ hng.slots
  pub numbers : All (IsSlice (bits_of hng.width)) values
  pub held : HoldsPlanes (told hng.object) (planes_in hng) hng.slots (planes_of (bits_of hng.width) values)

-- whatever numbers the index stands for, it stands for more afterwards
abbrev pub StandsForMore : Hng → Hng → List Value → (ℕ → Option Pages) → (ℕ → Option Pages) → Type 0
StandsForMore old new more before after = (values : List Value) → Stands old before values → Stands new after (values ++ more)

-- the values of which a comparison with a number is true
abbrev pub holds_of : Op → ℤ → Value → Bool
holds_of op number value = is_on sides.True (comparison op value (Int number))

-- the rows of the lesser numbers, of the equal ones and of the greater ones
pub record AreCompared (values : List Value) (number : ℤ) (compared : Compared) : Type 0 where
  pub less : compared.less ≡ map (holds_of Lt number) values
  pub equal : compared.equal ≡ map (holds_of Eq number) values
  pub greater : compared.greater ≡ map (holds_of Gt number) values

-- whatever numbers the index stands for, this is how they stand to a number
abbrev pub GivesCompared : Hng → (ℕ → Option Pages) → ℤ → Compared → Type 0
GivesCompared hng told number compared = (values : List Value) → Stands hng told values → AreCompared values number compared

-- so many more rows find room
pub record HasRoom (hng : Hng) (more : ℕ) : Type 0 where
  pub rows : hng.slots + more < 2 ^ 32
  pub pages : planes_in hng * chunks_for (hng.slots + more) ≤ MOST_PAGES

-- as many rows in each
pub record AreLong (n : ℕ) (compared : Compared) : Type 0 where
  pub less : length compared.less ≡ n
  pub equal : length compared.equal ≡ n
  pub greater : length compared.greater ≡ n
