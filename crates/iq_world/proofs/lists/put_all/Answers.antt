use Rattle.std.proofs.Common.{ℕ, List, get_or, ap, sym, ◌∙◌, arith}
use Rattle.std.proofs.lemmas.List.Sums.{fold_more}
use Rattle.iq_world.specs.World.{put}
use Rattle.iq_world.proofs.lists.put_all.Goals as goal

pub loop-number-preserved : goal.loop-number-preserved
loop-number-preserved c =
    let i = c.loop-number.number-index in
    c.in_ok-put.ensures ∙ ap (λ (xs : List ℕ). put xs (get_or c.args.more.now i 0)) c.loop-number.invariant
    ∙ sym (fold_more put c.args.numbers.now.items c.args.more.now i 0 (omega arith))
