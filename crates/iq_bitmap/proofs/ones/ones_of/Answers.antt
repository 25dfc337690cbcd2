use Rattle.std.proofs.Common.{◌*◌, ◌/◌, length, sum_by, count_ones, ap, ◌∙◌, arith}
use Rattle.std.proofs.lemmas.List.Sums.{sum_by-take-drop}
use Rattle.iq_bitmap.proofs.LaneSums.{ones_few}
use Rattle.iq_bitmap.proofs.ones.ones_of.Goals as goal

pub overflow_add-result : goal.overflow_add-result
overflow_add-result c =
    let front = c.ones_by_lanes.ensures ∙ ap (sum_by count_ones) c.split_at.ensures.front in
    let back = c.ones_by_words.ensures ∙ ap (sum_by count_ones) c.split_at.ensures.back in
    record { fits = omega (arith, front, back, sum_by-take-drop count_ones c.args.words.now (length c.args.words.now / 4 * 4), ones_few c.args.words.now (λ k. (c.type_inv.words k).fits)) }
