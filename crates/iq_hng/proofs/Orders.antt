-- How numbers stand to one another once they are moved up.
use Rattle.std.proofs.Common.{arith, ◌≡◌, ◌<◌, ◌≤◌, ℕ, suc, ◌-◌, ◌*◌, ◌^◌, ℤ, ap, ◌∙◌}
use Rattle.std.proofs.lemmas.Int.{ints}
use Rattle.iq_hng.specs.declared.hng.Width.{Width}
use Rattle.iq_hng.specs.declared.hng.Width.TheVariants as widths
use Rattle.iq_hng.specs.Keys.{bits_of, half, lifted, IsWithin}
use Rattle.std.proofs.Math.Nat.{pow-suc}

-- NUMBERS

pub some_bits : (width : Width) → 1 ≤ bits_of width
some_bits widths.Int = omega arith
some_bits widths.Big = omega arith

pub lifted_short : (bits : ℕ) (z : ℤ) → 1 ≤ bits → IsWithin bits z → lifted bits z < 2 ^ bits
lifted_short bits z some p =
    let e : bits ≡ suc (bits - 1) = omega (arith, some) in
    let double : 2 ^ bits ≡ half bits * 2 = ap (λ (n : ℕ). 2 ^ n) e ∙ pow-suc 2 (bits - 1) in
    omega (arith, ints, double, p.low, p.high)
