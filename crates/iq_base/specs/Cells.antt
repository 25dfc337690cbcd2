-- The bytes of a cell, as contracts see them.
use Rattle.std.specs.Prelude.{◌≡◌, ◌≤◌, ℕ, ◌+◌, ◌-◌, List, [], ◌∷◌, ◌++◌, length, replicate, FitsSigned, IsUtf8, ⊤}
use Rattle.std.specs.Int.{w32, w64, cast_unsigned, to_le_bytes}
use Rattle.iq_base.specs.declared.values.Kind.{Kind}
use Rattle.iq_base.specs.declared.values.Kind.TheVariants as kinds
use Rattle.iq_base.specs.declared.values.Value.{Value}
use Rattle.iq_base.specs.declared.values.Value.TheVariants as values

-- how many bytes a cell of a column has
abbrev pub width : Kind → ℕ
width kinds.Int = 5
width kinds.Big = 9
width (kinds.Varchar n) = n + 2

-- a column of this kind may hold the value: NULL, a number of 32 or of 64 bits with a sign, a text that is not too long
abbrev pub IsOf : Kind → Value → Type 0
IsOf kind values.Null = ⊤
IsOf kinds.Int (values.Int z) = FitsSigned w32 z
IsOf kinds.Big (values.Int z) = FitsSigned w64 z
IsOf (kinds.Varchar n) (values.Int z) = ⊥
IsOf kinds.Int (values.Text text) = ⊥
IsOf kinds.Big (values.Text text) = ⊥
IsOf (kinds.Varchar n) (values.Text text) = length text ≤ n

-- a text is UTF-8, and the rest is no text
abbrev pub IsText : Value → Type 0
IsText values.Null = ⊤
IsText (values.Int z) = ⊤
IsText (values.Text text) = IsUtf8 text

-- a text in a cell: its length, its bytes, and zeros up to the greatest length
abbrev pub padded : ℕ → List ℕ → List ℕ
padded n text = length text ∷ (text ++ replicate (n - length text) 0)

-- the bytes of a cell: 0 and zeros for NULL, else 1 and the number, lowest byte first, in two's complement, or the text
abbrev pub cell : Kind → Value → List ℕ
cell kind values.Null = replicate (width kind) 0
cell kinds.Int (values.Int z) = 1 ∷ to_le_bytes w32 (cast_unsigned w32 z)
cell kinds.Big (values.Int z) = 1 ∷ to_le_bytes w64 (cast_unsigned w64 z)
cell (kinds.Varchar n) (values.Int z) = []
cell kinds.Int (values.Text text) = []
cell kinds.Big (values.Text text) = []
cell (kinds.Varchar n) (values.Text text) = 1 ∷ padded n text

-- these bytes are the cell of a value that a column of this kind may hold
pub record IsCell (kind : Kind) (value : Value) (bytes : List ℕ) : Type 0 where
  pub of_kind : IsOf kind value
  pub utf8 : IsText value
  pub bytes_are : cell kind value ≡ bytes
