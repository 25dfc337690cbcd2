use Rattle.std.proofs.Common.{ap, ◌∙◌, ◌++◌, List, ℕ, drop}
use Rattle.iq_descriptors.proofs.WriteLemmas.{numbers_written}
use Rattle.iq_descriptors.proofs.writing.head_payload.Goals as goal

pub returns : goal.returns
returns c =
    ap (λ (t : List ℕ). t ++ drop 12 c.args.page.now) (c.copy_from_slice.ensures.after ∙ (c.write_u32_into.ensures ∙ numbers_written c.args.numbers.now))
