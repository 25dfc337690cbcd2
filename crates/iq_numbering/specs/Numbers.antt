-- The numbering of the distinct values of a column.
use Rattle.std.specs.Prelude.{◌≡◌, ◌≢◌, ◌<◌, ℕ, ◌+◌, List, [], ◌∷◌, ◌++◌, ◌⊎◌, map, length, slice_index}
use Rattle.iq_base.specs.declared.values.Value.{Value}
use Rattle.iq_cells.specs.Packed.{value_at, AreOf}
use Rattle.iq_base.specs.declared.values.Kind.{Kind}
use Rattle.iq_base.specs.Cells.{cell}

-- no value stands twice
abbrev pub AreDistinct : List Value → Type 0
AreDistinct vs = (i j : ℕ) → i < j → j < length vs → value_at i vs ≢ value_at j vs

-- the value stands at the place
pub record IsAt (vs : List Value) (place : ℕ) (value : Value) : Type 0 where
  pub within : place < length vs
  pub there : value_at place vs ≡ value

-- one of the codes is the number, and each before it is less
pub record IsFirstUse (codes : List ℕ) (number : ℕ) : Type 0 where
  pub at : ℕ
  pub within : at < length codes
  pub here : slice_index codes at ≡ number
  pub before : (k : ℕ) → k < at → slice_index codes k < number

-- each value's code is its place among the known values and the new ones behind them, of which no value stands twice, and the
-- new ones stand in order of first appearance
pub record IsNumbered (known values new : List Value) (codes : List ℕ) : Type 0 where
  pub long : length codes ≡ length values
  pub each : (i : ℕ) → i < length values → IsAt (known ++ new) (slice_index codes i) (value_at i values)
  pub distinct : AreDistinct (known ++ new)
  pub first : (j : ℕ) → j < length new → IsFirstUse codes (length known + j)

-- the codes number the values behind the known ones, and so many values are new
pub record HasNumbered (known values : List Value) (count : ℕ) (codes : List ℕ) : Type 0 where
  pub new : List Value
  pub many : length new ≡ count
  pub numbered : IsNumbered known values new codes

-- whatever values were known, so many of them, these are the new ones that the codes number
abbrev pub AreNew : ℕ → List Value → List ℕ → List Value → Type 0
AreNew known values codes found =
    (before new : List Value) → length before ≡ known → IsNumbered before values new codes → found ≡ new

-- the value stands among the values, and no new one comes
pub record Finds (vs : List Value) (v : Value) (code : ℕ) (new new' : List Value) : Type 0 where
  pub at : IsAt vs code v
  pub same : new' ≡ new

-- the value stands nowhere among the values, and comes behind them
pub record Adds (vs : List Value) (v : Value) (code : ℕ) (new new' : List Value) : Type 0 where
  pub last : code ≡ length vs
  pub fresh : (j : ℕ) → j < length vs → value_at j vs ≢ v
  pub more : new' ≡ new ++ v ∷ []

-- one more value is numbered
abbrev pub IsStep : List Value → Value → ℕ → List Value → List Value → Type 0
IsStep known v code new new' = Finds (known ++ new) v code new new' ⊎ Adds (known ++ new) v code new new'

-- the keys are the cells of the values, which a column of the kind may hold
pub record HasKeys (kind : Kind) (vs : List Value) (keys : List (List ℕ)) : Type 0 where
  pub keys_are : keys ≡ map (cell kind) vs
  pub of_kind : AreOf kind vs

-- one more value is numbered, and the keys go with it
pub record StepsTo (kind : Kind) (known : List Value) (v : Value) (code : ℕ) (new : List Value) (keys : List (List ℕ)) : Type 0 where
  pub new' : List Value
  pub step : IsStep known v code new new'
  pub keys_are : HasKeys kind (known ++ new') keys

-- one more value is numbered with this code, behind whatever was known, and the keys go with it
abbrev pub NumbersNext : Kind → Value → List (List ℕ) → List (List ℕ) → ℕ → Type 0
NumbersNext kind v keys keys' code =
    (known new : List Value) → HasKeys kind (known ++ new) keys → StepsTo kind known v code new keys'
