-- When an object stands for the relation of two columns, and what its calls give.
use Rattle.std.specs.Prelude.{◌≡◌, ◌≤◌, ◌<◌, ℕ, ◌+◌, ◌*◌, ◌^◌, Bool, List, [], ◌∷◌, ◌++◌, Option, length}
use Rattle.std.specs.Simd.Lanes.{zip2}
use Rattle.iq_base.specs.declared.values.Value.{Value}
use Rattle.iq_base.specs.declared.sizes.TheConstants.{MOST_PAGES}
use Rattle.iq_ast.specs.declared.conditions.Op.{Op}
use Rattle.iq_ast.specs.declared.conditions.Op.TheVariants.{Eq, Ne, Lt, Le, Gt, Ge}
use Rattle.iq_truth.specs.declared.truth.Side.{Side}
use Rattle.iq_truth.specs.declared.truth.Side.TheVariants as sides
use Rattle.iq_truth.specs.Sides.{is_on}
use Rattle.iq_truth.specs.Comparisons.{comparison}
use Rattle.iq_pages.specs.Pages.{Pages}
use Rattle.iq_bitmap.specs.Bits.{either}
use Rattle.iq_chunks.specs.Chunks.{chunks_for}
use Rattle.iq_planes.specs.Planes.{plane_at, HoldsPlanes}
use Rattle.iq_cmp.specs.declared.cmp.Cmp.{Cmp}

-- whether two values are on a side of a comparison
abbrev pub is_pair : Side → Op → Value → Value → Bool
is_pair side op v w = is_on side (comparison op v w)

-- the rows of two columns that are on a side of a comparison
abbrev pub pairs_on : Side → Op → List Value → List Value → List Bool
pairs_on side op vs ws = zip2 (is_pair side op) vs ws

-- the three planes: the rows with the lesser value in the first column, with two equal ones, and with the greater; a row with NULL is in none
abbrev pub planes_of : List Value → List Value → List (List Bool)
planes_of vs ws = pairs_on sides.True Lt vs ws ∷ pairs_on sides.True Eq vs ws ∷ pairs_on sides.True Gt vs ws ∷ []

-- the told pages of the object stand for these values of the two columns
pub record Stands (cmp : Cmp) (told : ℕ → Option Pages) (vs ws : List Value) : Type 0 where
  pub slots : length vs ≡ cmp.slots
  pub second : length ws ≡ cmp.slots
  pub held : HoldsPlanes (told cmp.object) 3 cmp.slots (planes_of vs ws)

-- whatever values the index stands for, it stands for more afterwards
abbrev pub StandsForMore : Cmp → Cmp → List Value → List Value → (ℕ → Option Pages) → (ℕ → Option Pages) → Type 0
StandsForMore old new more others before after =
    (vs ws : List Value) → Stands old before vs ws → Stands new after (vs ++ more) (ws ++ others)

-- whatever values the index stands for, these bits are the rows on the side of their comparison
abbrev pub ArePairsOn : Cmp → (ℕ → Option Pages) → Side → Op → List Bool → Type 0
ArePairsOn cmp told side op bits = (vs ws : List Value) → Stands cmp told vs ws → bits ≡ pairs_on side op vs ws

-- so many more rows find room
pub record HasRoom (cmp : Cmp) (more : ℕ) : Type 0 where
  pub rows : cmp.slots + more < 2 ^ 32
  pub pages : 3 * chunks_for (cmp.slots + more) ≤ MOST_PAGES

-- how many planes tell the rows on which an operator holds
abbrev pub planes_read : Op → ℕ
planes_read Eq = 1
planes_read Ne = 2
planes_read Lt = 1
planes_read Le = 2
planes_read Gt = 1
planes_read Ge = 2

-- whatever values the index stands for, these bits are the rows in one of two planes
abbrev pub AreInEither : Cmp → (ℕ → Option Pages) → ℕ → ℕ → List Bool → Type 0
AreInEither cmp told one other bits =
    (vs ws : List Value) → Stands cmp told vs ws → bits ≡ either (plane_at one (planes_of vs ws)) (plane_at other (planes_of vs ws))
