-- The bytes of a cell that isn't NULL's, behind the 1.
use Rattle.std.specs.Prelude.{◌≡◌, ◌≤◌, ℕ, ◌+◌, List, length, slice_index}
use Rattle.iq_base.specs.declared.values.Kind.{Kind}
use Rattle.iq_base.specs.declared.values.Kind.TheVariants as kinds

-- 4 or 8 bytes of a number, or the length of a text and at least so many bytes
abbrev pub IsFilled : Kind → List ℕ → Type 0
IsFilled kinds.Int bytes = length bytes ≡ 4
IsFilled kinds.Big bytes = length bytes ≡ 8
IsFilled (kinds.Varchar n) bytes = slice_index bytes 0 + 1 ≤ length bytes
