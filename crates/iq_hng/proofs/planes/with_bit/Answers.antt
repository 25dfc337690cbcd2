use Rattle.std.proofs.Common.{ℕ, ◌==◌, w8, ap, sym, ◌∙◌}
use Rattle.std.proofs.lemmas.Nat.Bits.{bit_at_set_same, bit_at_set_other}
use Rattle.iq_hng.proofs.planes.with_bit.Goals as goal

pub returns-then-on-clause-here : goal.returns-then-on-clause-here
returns-then-on-clause-here c = ap (λ (b : ℕ). b == 1) (bit_at_set_same w8 c.args.byte c.args.at c.requires.within) ∙ sym c.if-on.true

pub returns-then-on-clause-others : goal.returns-then-on-clause-others
returns-then-on-clause-others c = λ i apart. bit_at_set_other w8 c.args.byte c.args.at c.requires.within i apart
