use Rattle.std.proofs.Common.{◌+◌, ◌++◌, refl}
use Rattle.iq_opening.specs.Steps.{object_from, index_steps}
use Rattle.iq_opening.proofs.Ways.{err_exit, lead_start, lead_on, lead_stop, last_ok, last_err}
use Rattle.iq_opening.proofs.Parts.{index_is}
use Rattle.iq_opening.proofs.objects.reach_index.Goals as goal

pub returns-in_err-reach_from-clause-err : goal.returns-in_err-reach_from-clause-err
returns-in_err-reach_from-clause-err g c =
    err_exit _ c.from_residual.result c.in_err-reach_from.field-0.0 c.from_residual.ensures.1
    (lead_stop g.D.Device (λ all. index_steps all c.args.blocks.now c.args.byte c.args.index.now) (λ all. index_steps all c.args.blocks.now c.args.byte c.args.index.now)
    (λ all. object_from all c.args.blocks.now (c.args.byte + 38) c.args.index.now.first)
    (λ all. object_from all c.args.blocks.now (c.args.byte + 46) c.args.index.now.second ++ object_from all c.args.blocks.now (c.args.byte + 54) c.args.index.now.third) _ _ _ _ _ _
    (lead_start g.D.Device _ c.args.disk.now c.args.reached.now) c.in_err-reach_from.ensures.err
    (λ all told. index_is all c.args.blocks.now c.args.byte c.args.index.now))

pub returns-in_err-reach_from-2-clause-err : goal.returns-in_err-reach_from-2-clause-err
returns-in_err-reach_from-2-clause-err g c =
    err_exit _ c.from_residual-in_err-reach_from-2.result c.in_err-reach_from-2.field-0.0 c.from_residual-in_err-reach_from-2.ensures.1
    (lead_stop g.D.Device (λ all. index_steps all c.args.blocks.now c.args.byte c.args.index.now) _
    (λ all. object_from all c.args.blocks.now (c.args.byte + 46) c.args.index.now.second)
    (λ all. object_from all c.args.blocks.now (c.args.byte + 54) c.args.index.now.third) _ _ _ _ _ _
    (lead_on g.D.Device _ (λ all. index_steps all c.args.blocks.now c.args.byte c.args.index.now)
    (λ all. object_from all c.args.blocks.now (c.args.byte + 38) c.args.index.now.first)
    (λ all. object_from all c.args.blocks.now (c.args.byte + 46) c.args.index.now.second ++ object_from all c.args.blocks.now (c.args.byte + 54) c.args.index.now.third) _ _ _ _ _ _
    (lead_start g.D.Device _ c.args.disk.now c.args.reached.now) c.in_ok-reach_from.ensures.ok
    (λ all told. index_is all c.args.blocks.now c.args.byte c.args.index.now)) c.in_err-reach_from-2.ensures.err
    (λ all told. refl))

pub returns-clause-ok : goal.returns-clause-ok
returns-clause-ok g c =
    last_ok g.D.Device (λ all. index_steps all c.args.blocks.now c.args.byte c.args.index.now) _
    (λ all. object_from all c.args.blocks.now (c.args.byte + 54) c.args.index.now.third) _ _ _ _ _ _ c.reach_from-3.result
    (lead_on g.D.Device _ _
    (λ all. object_from all c.args.blocks.now (c.args.byte + 46) c.args.index.now.second)
    (λ all. object_from all c.args.blocks.now (c.args.byte + 54) c.args.index.now.third) _ _ _ _ _ _
    (lead_on g.D.Device _ (λ all. index_steps all c.args.blocks.now c.args.byte c.args.index.now)
    (λ all. object_from all c.args.blocks.now (c.args.byte + 38) c.args.index.now.first)
    (λ all. object_from all c.args.blocks.now (c.args.byte + 46) c.args.index.now.second ++ object_from all c.args.blocks.now (c.args.byte + 54) c.args.index.now.third) _ _ _ _ _ _
    (lead_start g.D.Device _ c.args.disk.now c.args.reached.now) c.in_ok-reach_from.ensures.ok
    (λ all told. index_is all c.args.blocks.now c.args.byte c.args.index.now)) c.in_ok-reach_from-2.ensures.ok (λ all told. refl))
    (λ all told. refl) c.reach_from-3.ensures.ok

pub returns-clause-err : goal.returns-clause-err
returns-clause-err g c =
    last_err g.D.Device (λ all. index_steps all c.args.blocks.now c.args.byte c.args.index.now) _
    (λ all. object_from all c.args.blocks.now (c.args.byte + 54) c.args.index.now.third) _ _ _ _ _ c.reach_from-3.result
    (lead_on g.D.Device _ _
    (λ all. object_from all c.args.blocks.now (c.args.byte + 46) c.args.index.now.second)
    (λ all. object_from all c.args.blocks.now (c.args.byte + 54) c.args.index.now.third) _ _ _ _ _ _
    (lead_on g.D.Device _ (λ all. index_steps all c.args.blocks.now c.args.byte c.args.index.now)
    (λ all. object_from all c.args.blocks.now (c.args.byte + 38) c.args.index.now.first)
    (λ all. object_from all c.args.blocks.now (c.args.byte + 46) c.args.index.now.second ++ object_from all c.args.blocks.now (c.args.byte + 54) c.args.index.now.third) _ _ _ _ _ _
    (lead_start g.D.Device _ c.args.disk.now c.args.reached.now) c.in_ok-reach_from.ensures.ok
    (λ all told. index_is all c.args.blocks.now c.args.byte c.args.index.now)) c.in_ok-reach_from-2.ensures.ok (λ all told. refl))
    (λ all told. refl) c.reach_from-3.ensures.err
