-- Names that are one.
use Rattle.std.proofs.Common.{◌≡◌, ℕ, true, List, [], ◌∷◌, refl, sym, arith, nat_eq}
use Rattle.std.specs.Cmp.Lexicographic.{same_text}
use Rattle.std.proofs.lemmas.Bool.Decides.{nat_tests}
use Rattle.iq_conditions.specs.Servers.{same_name}

nat_eq-refl : (n : ℕ) → nat_eq n n ≡ true
nat_eq-refl n = grind (arith, nat_tests)

pub same_name-refl : (n : List ℕ) → same_name n n ≡ true
same_name-refl [] = refl
same_name-refl (b ∷ bs) = rw (nat_eq-refl b) (same_name-refl bs)

pub same_name-true : (a b : List ℕ) → same_name a b ≡ true → a ≡ b
same_name-true a b e = same_text a b (sym e)
