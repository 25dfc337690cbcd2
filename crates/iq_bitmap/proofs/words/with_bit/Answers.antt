use Rattle.std.proofs.Common.{ℕ, ◌==◌, w64, ap, sym, ◌∙◌}
use Rattle.std.proofs.lemmas.Nat.Bits.{bit_at_set_same, bit_at_set_other, bit_at_clear_same, bit_at_clear_other}
use Rattle.iq_bitmap.proofs.words.with_bit.Goals as goal

pub returns-then-on-clause-here : goal.returns-then-on-clause-here
returns-then-on-clause-here c = ap (λ (b : ℕ). b == 1) (bit_at_set_same w64 c.args.word c.args.at c.requires) ∙ sym c.if-on.true

pub returns-then-on-clause-others : goal.returns-then-on-clause-others
returns-then-on-clause-others c = λ i h apart. bit_at_set_other w64 c.args.word c.args.at c.requires i apart

pub returns-else-on-clause-here : goal.returns-else-on-clause-here
returns-else-on-clause-here c = ap (λ (b : ℕ). b == 1) (bit_at_clear_same w64 c.args.word c.args.at c.requires) ∙ sym c.if-on.false

pub returns-else-on-clause-others : goal.returns-else-on-clause-others
returns-else-on-clause-others c = λ i h apart. bit_at_clear_other w64 c.args.word c.args.at c.requires i h apart
