use Rattle.std.proofs.Common.{◌≡◌, ◌+◌, drop, ap, ◌∙◌, subst, sym, ℕ, arith}
use Rattle.std.proofs.lemmas.List.{at_drop_all}
use Rattle.iq_floors.specs.Floors.{least, IsLeast}
use Rattle.iq_floors.proofs.Least.{least_next, is_least}
use Rattle.iq_floors.proofs.floors.least.Goals as goal

pub loop-other-preserved : goal.loop-other-preserved
loop-other-preserved c =
    let i = c.loop-other.other-index in
    let others = c.args.others.now in
    ap (λ (n : ℕ). least n (drop (i + 1) others)) c.min-low.ensures
    ∙ least_next c.loop-other.low i others (omega arith) ∙ c.loop-other.invariant

pub returns-clause-is_least : goal.returns-clause-is_least
returns-clause-is_least c =
    let others = c.args.others.now in
    let value : c.loop-other.low ≡ least c.args.first others =
    sym (at_drop_all (least c.loop-other.low) others c.loop-other.other-index (omega arith)) ∙ c.loop-other.invariant in
    subst (λ (n : ℕ). IsLeast n c.args.first others) (sym value) (is_least c.args.first others)
