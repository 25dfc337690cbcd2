use Rattle.std.proofs.Common.{[], ◌∷◌}
use Rattle.iq_block_store.specs.Frames.{descriptor_kind}
use Rattle.iq_opening.specs.Steps.{visit, other_steps}
use Rattle.iq_opening.proofs.Ways.{err_exit, lead_start, lead_end, lead_last, lead_stop}
use Rattle.iq_opening.proofs.Parts.{no_other, some_other}
use Rattle.iq_opening.proofs.descriptors.reach_other.Goals as goal

pub returns-then-at-eq0-clause-ok : goal.returns-then-at-eq0-clause-ok
returns-then-at-eq0-clause-ok g c =
    lead_end g.D.Device (λ all. other_steps c.args.head c.args.at) _ _ _ _ _
    (lead_start g.D.Device (λ all. other_steps c.args.head c.args.at) c.args.disk.now c.args.reached.now) (λ all told. no_other c.args.head c.args.at c.if-at-eq0.true)

pub returns-in_err-reach-clause-err : goal.returns-in_err-reach-clause-err
returns-in_err-reach-clause-err g c =
    err_exit _ c.from_residual.result c.in_err-reach.field-0.0 c.from_residual.ensures.1
    (lead_stop g.D.Device (λ all. other_steps c.args.head c.args.at) (λ all. other_steps c.args.head c.args.at) (λ all. visit c.args.head c.args.at descriptor_kind ∷ []) (λ all. []) _ _ _ _ _ _
    (lead_start g.D.Device _ c.args.disk.now c.args.reached.now) c.in_err-reach.ensures.err
    (λ all told. some_other c.args.head c.args.at c.if-at-eq0.false))

pub returns-clause-ok : goal.returns-clause-ok
returns-clause-ok g c =
    lead_last g.D.Device (λ all. other_steps c.args.head c.args.at) (λ all. other_steps c.args.head c.args.at) (λ all. visit c.args.head c.args.at descriptor_kind ∷ []) _ _ _ _ _ _
    (lead_start g.D.Device _ c.args.disk.now c.args.reached.now) c.in_ok-reach.ensures.ok
    (λ all told. some_other c.args.head c.args.at c.if-at-eq0.false)
