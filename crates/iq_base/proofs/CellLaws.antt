-- A cell tells its value: two values of one kind have the same cell only where they are the same.
use Rattle.std.proofs.Common.{◌≡◌, ℕ, ℤ, ◌+◌, ◌-◌, ◌<◌, ◌^◌, List, ◌∷◌, ◌++◌, length, take, replicate, slice_index, sym, ap, ◌∙◌, refl, arith, FitsSigned, w32, w64}
use Rattle.std.proofs.Math.Seq.{take-append_seam}
use Rattle.std.proofs.Math.Facts.{Fits-of_z}
use Rattle.std.specs.Int.{cast_signed, cast_unsigned, to_le_bytes, from_le_bytes}
use Rattle.std.proofs.lemmas.Nat.{from_le_bytes-to_le_bytes_4, from_le_bytes-to_le_bytes_8}
use Rattle.std.proofs.lemmas.Int.{to_z-of_z}
use Rattle.std.proofs.lemmas.List.{get_or-replicate}
use Rattle.iq_base.specs.declared.values.Kind.{Kind}
use Rattle.iq_base.specs.declared.values.Kind.TheVariants as kinds
use Rattle.iq_base.specs.declared.values.Value.{Value}
use Rattle.iq_base.specs.declared.values.Value.TheVariants as values
use Rattle.iq_base.specs.Cells.{IsOf, padded, cell, IsCell}

-- the bytes of a number of 32 bits tell it
int_tells : (a b : ℤ) → FitsSigned w32 a → FitsSigned w32 b → to_le_bytes w32 (cast_unsigned w32 a) ≡ to_le_bytes w32 (cast_unsigned w32 b) → a ≡ b
int_tells a b fa fb e =
    let la : cast_unsigned w32 a < 2 ^ 32 = omega (arith, Fits-of_z fa) in
    let lb : cast_unsigned w32 b < 2 ^ 32 = omega (arith, Fits-of_z fb) in
    let same : cast_unsigned w32 a ≡ cast_unsigned w32 b = sym (from_le_bytes-to_le_bytes_4 _ la) ∙ ap (from_le_bytes w32) e ∙ from_le_bytes-to_le_bytes_4 _ lb in
    sym (to_z-of_z w32 a fa) ∙ ap (cast_signed w32) same ∙ to_z-of_z w32 b fb

-- the bytes of a number of 64 bits tell it
big_tells : (a b : ℤ) → FitsSigned w64 a → FitsSigned w64 b → to_le_bytes w64 (cast_unsigned w64 a) ≡ to_le_bytes w64 (cast_unsigned w64 b) → a ≡ b
big_tells a b fa fb e =
    let la : cast_unsigned w64 a < 2 ^ 64 = omega (arith, Fits-of_z fa) in
    let lb : cast_unsigned w64 b < 2 ^ 64 = omega (arith, Fits-of_z fb) in
    let same : cast_unsigned w64 a ≡ cast_unsigned w64 b = sym (from_le_bytes-to_le_bytes_8 _ la) ∙ ap (from_le_bytes w64) e ∙ from_le_bytes-to_le_bytes_8 _ lb in
    sym (to_z-of_z w64 a fa) ∙ ap (cast_signed w64) same ∙ to_z-of_z w64 b fb

-- the bytes of a text, with its length before them, tell it
text_tells : (n : ℕ) (s t : List ℕ) → padded n s ≡ padded n t → s ≡ t
text_tells n s t e =
    let len : length s ≡ length t = cc in
    let rest : s ++ replicate (n - length s) 0 ≡ t ++ replicate (n - length t) 0 = cc in
    sym (take-append_seam s (replicate (n - length s) 0)) ∙ ap (take (length s)) rest ∙ ap (λ (k : ℕ). take k (t ++ replicate (n - length t) 0)) len ∙ take-append_seam t (replicate (n - length t) 0)

-- a cell of zeros is no cell that begins with 1
not_null : (n : ℕ) (rest : List ℕ) → 0 < n → replicate n 0 ≡ 1 ∷ rest → ⊥
not_null n rest h e =
    let zero_first : slice_index (replicate n 0) 0 ≡ 0 = get_or-replicate n 0 0 0 h in
    let both : slice_index (replicate n 0) 0 ≡ 1 = ap (λ (xs : List ℕ). slice_index xs 0) e in
    omega arith

-- two values that a column of one kind may hold have the same cell only where they are the same
pub cell_tells : (kind : Kind) (v w : Value) → IsOf kind v → IsOf kind w → cell kind v ≡ cell kind w → v ≡ w
cell_tells kind values.Null values.Null p q e = refl
cell_tells kinds.Int values.Null (values.Int z) p q e = absurd (not_null 5 _ (omega arith) e)
cell_tells kinds.Big values.Null (values.Int z) p q e = absurd (not_null 9 _ (omega arith) e)
cell_tells (kinds.Varchar n) values.Null (values.Int z) p q e = absurd q
cell_tells kinds.Int values.Null (values.Text t) p q e = absurd q
cell_tells kinds.Big values.Null (values.Text t) p q e = absurd q
cell_tells (kinds.Varchar n) values.Null (values.Text t) p q e = absurd (not_null (n + 2) _ (omega arith) e)
cell_tells kinds.Int (values.Int z) values.Null p q e = absurd (not_null 5 _ (omega arith) (sym e))
cell_tells kinds.Big (values.Int z) values.Null p q e = absurd (not_null 9 _ (omega arith) (sym e))
cell_tells (kinds.Varchar n) (values.Int z) w p q e = absurd p
cell_tells kinds.Int (values.Text t) w p q e = absurd p
cell_tells kinds.Big (values.Text t) w p q e = absurd p
cell_tells (kinds.Varchar n) (values.Text t) values.Null p q e = absurd (not_null (n + 2) _ (omega arith) (sym e))
cell_tells kinds.Int (values.Int a) (values.Int b) p q e = ap values.Int (int_tells a b p q (cc))
cell_tells kinds.Big (values.Int a) (values.Int b) p q e = ap values.Int (big_tells a b p q (cc))
cell_tells kinds.Int (values.Int a) (values.Text t) p q e = absurd q
cell_tells kinds.Big (values.Int a) (values.Text t) p q e = absurd q
cell_tells (kinds.Varchar n) (values.Text s) (values.Int z) p q e = absurd q
cell_tells (kinds.Varchar n) (values.Text s) (values.Text t) p q e = ap values.Text (text_tells n s t (cc))

-- bytes are the cell of one value at most
pub only_cell : (kind : Kind) (v w : Value) (bytes : List ℕ) → IsCell kind v bytes → IsCell kind w bytes → w ≡ v
only_cell kind v w bytes p q = cell_tells kind w v q.of_kind p.of_kind (q.bytes_are ∙ sym p.bytes_are)
