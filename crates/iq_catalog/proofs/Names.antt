-- A name reads as it was written.
use Rattle.std.specs.Prelude.{◌≡◌, ℕ, zero, suc, ◌-◌, ◌≤◌, Bool, true, false, ◌&&◌, List, [], ◌∷◌, ◌++◌, length, take, replicate, nat_le, nat_lt, if◌then◌else◌, IsUtf8}
use Rattle.std.specs.Str.{is_utf8, IsAscii}
use Rattle.std.proofs.Common.{refl, ap, ◌∙◌, arith, append_assoc, length-append}
use Rattle.std.proofs.Math.Seq.{take-append_seam}
use Rattle.std.proofs.lemmas.Bool.{and_parts, leb-true, ltb-true, le-leb}
use Rattle.std.proofs.lemmas.List.{length-replicate}
use Rattle.std.proofs.lemmas.Str.{IsUtf8-from_ascii, is_utf8-from_IsUtf8, IsUtf8-from_is_utf8}
use Rattle.iq_catalog.specs.Texts.{name_text}
use Rattle.iq_catalog.specs.Storable.{is_ascii, is_name}
use Rattle.iq_catalog.specs.Reading.{text_of, name_of}

-- bytes below 128, at each place
ascii_at : (bs : List ℕ) → is_ascii bs ≡ true → IsAscii bs
ascii_at [] h i = omega arith
ascii_at (b ∷ bs) h zero = let p = and_parts (nat_lt b 128) (is_ascii bs) h in ltb-true b 128 p.0
ascii_at (b ∷ bs) h (suc i) = let p = and_parts (nat_lt b 128) (is_ascii bs) h in ascii_at bs p.1 i

-- what a name has
pub record NameParts (name : List ℕ) : Type 0 where
  pub some : 1 ≤ length name
  pub short : length name ≤ 30
  pub ascii : IsAscii name

pub name_parts : (name : List ℕ) → is_name name ≡ true → NameParts name
name_parts name h =
    let both = and_parts (nat_le 1 (length name) && nat_le (length name) 30) (is_ascii name) h in
    let sizes = and_parts (nat_le 1 (length name)) (nat_le (length name) 30) both.0 in
    record { some = leb-true _ _ sizes.0; short = leb-true _ _ sizes.1; ascii = ascii_at name both.1 }

pub text_of-utf8 : (bs : List ℕ) → IsUtf8 bs → text_of bs ≡ bs
text_of-utf8 bs h = rw (is_utf8-from_IsUtf8 bs h) refl

pub text_of-other : (bs : List ℕ) → ¬ (IsUtf8 bs) → text_of bs ≡ []
text_of-other bs h = other (is_utf8 bs) (λ e. h (IsUtf8-from_is_utf8 bs e))
  where
    other : (b : Bool) → ¬ (b ≡ true) → (if b then bs else []) ≡ []
    other true never = absurd (never refl)
    other false never = refl

pub length-name_text : (name : List ℕ) → length name ≤ 30 → length (name_text name) ≡ 31
unfolding name_text
length-name_text name short =
    let z : List ℕ = replicate (30 - length name) 0 in
    let size : length z ≡ 30 - length name = length-replicate (30 - length name) 0 in
    omega (arith, size, length-append name z)

pub name_back : (name rest : List ℕ) → is_name name ≡ true → name_of (name_text name ++ rest) ≡ name
unfolding name_of name_text
name_back name rest h =
    let parts = name_parts name h in
    let z = replicate (30 - length name) 0 in
    let front : take (length name) ((name ++ z) ++ rest) ≡ name
    = ap (take (length name)) (append_assoc name z rest) ∙ take-append_seam name (z ++ rest) in
    rw (le-leb (length name) 30 parts.short) (ap text_of front ∙ text_of-utf8 name (IsUtf8-from_ascii name parts.ascii))
