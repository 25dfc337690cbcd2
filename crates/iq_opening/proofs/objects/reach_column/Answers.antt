use Rattle.std.proofs.Common.{◌+◌, refl}
use Rattle.iq_opening.specs.Steps.{object_from, column_steps}
use Rattle.iq_opening.proofs.Ways.{err_exit, lead_start, lead_on, lead_stop, last_ok, last_err}
use Rattle.iq_opening.proofs.Parts.{column_is}
use Rattle.iq_opening.proofs.objects.reach_column.Goals as goal

pub returns-in_err-reach_from-clause-err : goal.returns-in_err-reach_from-clause-err
returns-in_err-reach_from-clause-err g c =
    err_exit _ c.from_residual.result c.in_err-reach_from.field-0.0 c.from_residual.ensures.1
    (lead_stop g.D.Device (λ all. column_steps all c.args.blocks.now c.args.byte c.args.column.now) (λ all. column_steps all c.args.blocks.now c.args.byte c.args.column.now)
    (λ all. object_from all c.args.blocks.now (c.args.byte + 39) c.args.column.now.cells)
    (λ all. object_from all c.args.blocks.now (c.args.byte + 47) c.args.column.now.values) _ _ _ _ _ _
    (lead_start g.D.Device _ c.args.disk.now c.args.reached.now) c.in_err-reach_from.ensures.err
    (λ all told. column_is all c.args.blocks.now c.args.byte c.args.column.now))

pub returns-clause-ok : goal.returns-clause-ok
returns-clause-ok g c =
    last_ok g.D.Device (λ all. column_steps all c.args.blocks.now c.args.byte c.args.column.now) _
    (λ all. object_from all c.args.blocks.now (c.args.byte + 47) c.args.column.now.values) _ _ _ _ _ _ c.reach_from-2.result
    (lead_on g.D.Device _ (λ all. column_steps all c.args.blocks.now c.args.byte c.args.column.now)
    (λ all. object_from all c.args.blocks.now (c.args.byte + 39) c.args.column.now.cells)
    (λ all. object_from all c.args.blocks.now (c.args.byte + 47) c.args.column.now.values) _ _ _ _ _ _
    (lead_start g.D.Device _ c.args.disk.now c.args.reached.now) c.in_ok-reach_from.ensures.ok
    (λ all told. column_is all c.args.blocks.now c.args.byte c.args.column.now))
    (λ all told. refl) c.reach_from-2.ensures.ok

pub returns-clause-err : goal.returns-clause-err
returns-clause-err g c =
    last_err g.D.Device (λ all. column_steps all c.args.blocks.now c.args.byte c.args.column.now) _
    (λ all. object_from all c.args.blocks.now (c.args.byte + 47) c.args.column.now.values) _ _ _ _ _ c.reach_from-2.result
    (lead_on g.D.Device _ (λ all. column_steps all c.args.blocks.now c.args.byte c.args.column.now)
    (λ all. object_from all c.args.blocks.now (c.args.byte + 39) c.args.column.now.cells)
    (λ all. object_from all c.args.blocks.now (c.args.byte + 47) c.args.column.now.values) _ _ _ _ _ _
    (lead_start g.D.Device _ c.args.disk.now c.args.reached.now) c.in_ok-reach_from.ensures.ok
    (λ all told. column_is all c.args.blocks.now c.args.byte c.args.column.now))
    (λ all told. refl) c.reach_from-2.ensures.err
