use Rattle.std.proofs.Common.{◌∙◌}
use Rattle.std.proofs.lemmas.Result.{IfOk-weaker}
use Rattle.iq_cmp.proofs.Pairs.{pairs_false}
use Rattle.iq_cmp.proofs.cmp.Cmp.relation.Goals as goal

pub returns-in-False-clause-rows : goal.returns-in-False-clause-rows
returns-in-False-clause-rows g c = IfOk-weaker c.holds-in-False.result _ _
    (λ bits rows vs ws h. rw c.in-False.is ((rw c.negated_op.ensures at (rows vs ws h)) ∙ pairs_false c.args.op vs ws)) c.holds-in-False.ensures.rows
