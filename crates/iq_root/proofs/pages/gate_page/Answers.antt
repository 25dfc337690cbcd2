use Rattle.std.proofs.Common.{◌∙◌, ◌+◌, ◌-◌, ◌++◌, ap, arith, length, List, ℕ, []}
use Rattle.iq_root.specs.Roots.{zeros, long_bytes}
use Rattle.iq_root.proofs.BodyLemmas.{length-long_bytes}
use Rattle.iq_root.proofs.pages.gate_page.Goals as goal

pub returns : goal.returns
returns c =
    (c.put.ensures [] c.blank-page.ensures).page_is
    ∙ ap (λ (b : List ℕ). b ++ zeros (1008 - (0 + length b))) c.long_bytes.ensures.bytes
    ∙ ap (λ (n : ℕ). long_bytes c.args.generation ++ zeros n) (omega (arith, length-long_bytes c.args.generation))
