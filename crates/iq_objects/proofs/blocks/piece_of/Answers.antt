use Rattle.std.proofs.Common.{arith, ◌≡◌, ◌∙◌, ap, min, length, take, ℕ}
use Rattle.std.proofs.lemmas.List.{take_min}
use Rattle.iq_objects.proofs.blocks.piece_of.Goals as goal

pub returns : goal.returns
returns c =
    let rest = c.split_at.result.1.now in
    let turned : min (length rest) 252 ≡ min 252 (length rest) = omega arith in
    c.split_at-2.ensures.front ∙ ap (λ (n : ℕ). take n rest) (c.min.ensures ∙ turned) ∙ take_min 252 rest ∙ ap (take 252) c.split_at.ensures.back
