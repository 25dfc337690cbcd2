-- The first of packed values.
use Rattle.std.proofs.Common.{◌≡◌, ℕ, ℤ, pos, negsuc, ◌+◌, ◌<◌, ◌≤◌, ◌^◌, List, [], ◌∷◌, ◌++◌, length, take, drop, sym, ap, ◌∙◌, refl, arith, FitsSigned, IsUtf8, w64, Bool, true, false, if◌then◌else◌, nat_lt, subst, append_assoc}
use Rattle.std.proofs.Math.Seq.{take-append_seam, drop-append_seam}
use Rattle.std.proofs.Math.Facts.{Fits-of_z}
use Rattle.std.proofs.lemmas.Grind.{common_steps}
use Rattle.std.specs.Int.{cast_signed, cast_unsigned, to_le_bytes, from_le_bytes}
use Rattle.std.proofs.lemmas.Nat.{from_le_bytes-to_le_bytes_8}
use Rattle.std.proofs.lemmas.Int.{to_z-of_z, fits_signed_from_abs}
use Rattle.byteorder.specs.Endian.{little_number}
use Rattle.iq_base.specs.declared.values.Value.{Value}
use Rattle.iq_base.specs.declared.values.Value.TheVariants.{Null, Int, Text}
use Rattle.iq_literals.specs.Packed.{number_bytes, long_bytes, value_bytes, values_bytes, Fits, ArePacked, rows_bytes, AreRowsPacked}
use Rattle.iq_literals.specs.Reading.{size_in, value_in, CanRead}

-- what the first value is, and what is behind it
pub record IsFirst (value : Value) (rest : List ℕ) (bytes : List ℕ) : Type 0 where
  pub value_is : value_in bytes ≡ value
  pub rest_is : drop (size_in bytes) bytes ≡ rest
  pub can : CanRead bytes
  pub some : 1 ≤ size_in bytes

-- both words for a number of eight bytes mean the same
number_8 : (bs : List ℕ) → little_number 8 bs ≡ from_le_bytes w64 bs
number_8 bs = omega arith

-- a number of eight bytes is read as it was written
long_is : (z : ℤ) (rest : List ℕ) → FitsSigned w64 z → cast_signed w64 (little_number 8 (to_le_bytes w64 (cast_unsigned w64 z) ++ rest)) ≡ z
long_is z rest fits =
    let small : cast_unsigned w64 z < 2 ^ 64 = omega (arith, Fits-of_z fits) in
    let read : from_le_bytes w64 (to_le_bytes w64 (cast_unsigned w64 z) ++ rest) ≡ cast_unsigned w64 z = from_le_bytes-to_le_bytes_8 _ small in
    ap (cast_signed w64) (number_8 (to_le_bytes w64 (cast_unsigned w64 z) ++ rest) ∙ read) ∙ to_z-of_z w64 z fits

-- a number with eight bytes behind its mark
long_first : (z : ℤ) (rest : List ℕ) → FitsSigned w64 z → IsFirst (Int z) rest (long_bytes z ++ rest)
long_first z rest fits = record { value_is = ap Int (long_is z rest fits); rest_is = refl; can = record { some = omega arith; within = omega arith; utf8 = λ e. absurd (omega (arith, e)) }; some = omega arith }

-- a number in its mark
small_first : (n : ℕ) (rest : List ℕ) → n < 253 → IsFirst (Int (pos n)) rest (((n + 3) ∷ []) ++ rest)
small_first n rest small = record { value_is = grind (arith, common_steps); rest_is = grind (arith, common_steps); can = record { some = omega arith; within = grind (arith, common_steps); utf8 = λ e. absurd (omega (arith, e)) }; some = grind (arith, common_steps) }

-- a number from 0 on
pos_first : (n : ℕ) (rest : List ℕ) (b : Bool) → nat_lt n 253 ≡ b → FitsSigned w64 (pos n) → IsFirst (Int (pos n)) rest ((if b then (n + 3) ∷ [] else long_bytes (pos n)) ++ rest)
pos_first n rest true e fits = small_first n rest (grind (arith, common_steps, e))
pos_first n rest false e fits = long_first (pos n) rest fits

-- a text
text_first : (t : List ℕ) (rest : List ℕ) → IsUtf8 t → IsFirst (Text t) rest ((2 ∷ length t ∷ t) ++ rest)
text_first t rest utf8 =
    let is : take (length t) (t ++ rest) ≡ t = take-append_seam t rest in
    record { value_is = ap Text is; rest_is = grind (arith, common_steps, drop-append_seam t rest); can = record { some = omega arith; within = grind (arith, common_steps); utf8 = λ e. subst IsUtf8 (sym is) utf8 }; some = omega arith }

-- the bytes of a value tell it
pub value_first : (v : Value) (rest : List ℕ) → Fits v → IsFirst v rest (value_bytes v ++ rest)
value_first Null rest fits = record { value_is = refl; rest_is = refl; can = record { some = omega arith; within = omega arith; utf8 = λ e. absurd (omega (arith, e)) }; some = omega arith }
value_first (Int (pos n)) rest fits = pos_first n rest (nat_lt n 253) refl fits
value_first (Int (negsuc n)) rest fits = long_first (negsuc n) rest fits
value_first (Text t) rest fits = text_first t rest fits.0

-- the first of values, and that the others lie behind it
pub record IsStep (values : List Value) (bytes : List ℕ) : Type 0 where
  pub next : values ≡ value_in bytes ∷ drop 1 values
  pub rest : ArePacked (drop 1 values) (drop (size_in bytes) bytes)
  pub can : CanRead bytes
  pub some : 1 ≤ size_in bytes

-- a first value is there
first_of : (v : Value) (vs : List Value) (bytes : List ℕ) → ArePacked (v ∷ vs) bytes → IsFirst v (values_bytes vs) bytes
first_of v vs bytes p = subst (IsFirst v (values_bytes vs)) (sym p.bytes_are) (value_first v (values_bytes vs) p.fit.0)

-- where bytes are left, a value is
pub step : (values : List Value) (bytes : List ℕ) → ArePacked values bytes → 0 < length bytes → IsStep values bytes
step [] bytes p h = absurd (omega (arith, h, ap length p.bytes_are))
step (v ∷ vs) bytes p h =
    let f : IsFirst v (values_bytes vs) bytes = first_of v vs bytes p in
    record { next = ap (λ (w : Value). w ∷ vs) (sym f.value_is); rest = record { bytes_are = f.rest_is; fit = p.fit.1 }; can = f.can; some = f.some }

-- where no bytes are left, no value is
pub done : (values : List Value) (bytes : List ℕ) → ArePacked values bytes → length bytes ≡ 0 → values ≡ []
done [] bytes p h = refl
done (v ∷ vs) bytes p h = absurd (omega (arith, h, (first_of v vs bytes p).can.some))

-- the first of rows, and that the others lie behind it
pub record IsRowStep (row : List Value) (rows : List (List Value)) (bytes : List ℕ) : Type 0 where
  pub can : CanRead bytes
  pub count : value_in bytes ≡ Int (pos (length (values_bytes row)))
  pub within : length (values_bytes row) ≤ length (drop (size_in bytes) bytes)
  pub front : ArePacked row (take (length (values_bytes row)) (drop (size_in bytes) bytes))
  pub rest : AreRowsPacked rows (drop (length (values_bytes row)) (drop (size_in bytes) bytes))

-- a row is where its bytes are
pub row_step : (row : List Value) (rows : List (List Value)) (bytes : List ℕ) → AreRowsPacked (row ∷ rows) bytes → length bytes < 2 ^ 63 → IsRowStep row rows bytes
row_step row rows bytes p few =
    let values : List ℕ = values_bytes row in
    let n : ℕ = length values in
    let more : List ℕ = rows_bytes rows in
    let are : bytes ≡ number_bytes (pos n) ++ (values ++ more) = p.bytes_are ∙ append_assoc (number_bytes (pos n)) values more in
    let len : length bytes ≡ length (number_bytes (pos n)) + (n + length more) = grind (arith, common_steps, ap length are) in
    let small : n < 2 ^ 63 = omega (arith, len, few) in
    let fits : FitsSigned w64 (pos n) = fits_signed_from_abs w64 (pos n) small in
    let f : IsFirst (Int (pos n)) (values ++ more) bytes = subst (IsFirst (Int (pos n)) (values ++ more)) (sym are) (value_first (Int (pos n)) (values ++ more) fits) in
    record { can = f.can; count = f.value_is; within = rw f.rest_is (grind (arith, common_steps)); front = record { bytes_are = rw f.rest_is (take-append_seam values more); fit = p.fit.0 }; rest = record { bytes_are = rw f.rest_is (drop-append_seam values more); fit = p.fit.1 } }
