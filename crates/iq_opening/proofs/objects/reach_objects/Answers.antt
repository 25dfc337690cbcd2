use Rattle.std.proofs.Common.{◌+◌, ◌*◌, ◌++◌, List, length, refl, ap, sym}
use Rattle.iq_base.specs.declared.descriptors.ColumnPart.{ColumnPart}
use Rattle.iq_opening.specs.Steps.{object_from, columns_steps, indexes_steps, objects_steps}
use Rattle.iq_opening.proofs.Ways.{err_exit, lead_start, lead_on, lead_stop, last_ok, last_err}
use Rattle.iq_opening.proofs.Parts.{objects_are, indexes_same}
use Rattle.iq_opening.proofs.objects.reach_objects.Goals as goal

pub returns-in_err-reach_from-clause-err : goal.returns-in_err-reach_from-clause-err
returns-in_err-reach_from-clause-err g c =
    err_exit _ c.from_residual.result c.in_err-reach_from.field-0.0 c.from_residual.ensures.1
    (lead_stop g.D.Device (λ all. objects_steps all c.args.blocks.now c.args.table.now) (λ all. objects_steps all c.args.blocks.now c.args.table.now)
    (λ all. object_from all c.args.blocks.now 49 c.args.table.now.existence)
    (λ all. columns_steps all c.args.blocks.now 57 c.args.table.now.columns ++ indexes_steps all c.args.blocks.now (57 + 55 * length c.args.table.now.columns) c.args.table.now.indexes) _ _ _ _ _ _
    (lead_start g.D.Device _ c.args.disk.now c.args.reached.now) c.in_err-reach_from.ensures.err
    (λ all told. objects_are all c.args.blocks.now c.args.table.now))

pub returns-in_err-reach_columns-clause-err : goal.returns-in_err-reach_columns-clause-err
returns-in_err-reach_columns-clause-err g c =
    err_exit _ c.from_residual-in_err-reach_columns.result c.in_err-reach_columns.field-0.0 c.from_residual-in_err-reach_columns.ensures.1
    (lead_stop g.D.Device (λ all. objects_steps all c.args.blocks.now c.args.table.now) _
    (λ all. columns_steps all c.args.blocks.now 57 _)
    (λ all. indexes_steps all c.args.blocks.now (57 + 55 * length c.args.table.now.columns) c.args.table.now.indexes) _ _ _ _ _ _
    (lead_on g.D.Device _ (λ all. objects_steps all c.args.blocks.now c.args.table.now)
    (λ all. object_from all c.args.blocks.now 49 c.args.table.now.existence)
    (λ all. columns_steps all c.args.blocks.now 57 c.args.table.now.columns ++ indexes_steps all c.args.blocks.now (57 + 55 * length c.args.table.now.columns) c.args.table.now.indexes) _ _ _ _ _ _
    (lead_start g.D.Device _ c.args.disk.now c.args.reached.now) c.in_ok-reach_from.ensures.ok
    (λ all told. objects_are all c.args.blocks.now c.args.table.now)) c.in_err-reach_columns.ensures.err
    (λ all told. ap (λ (cs : List ColumnPart). columns_steps all c.args.blocks.now 57 cs ++ indexes_steps all c.args.blocks.now (57 + 55 * length c.args.table.now.columns) c.args.table.now.indexes) (sym c.as_slice-columns.ensures)))

pub returns-clause-ok : goal.returns-clause-ok
returns-clause-ok g c =
    last_ok g.D.Device (λ all. objects_steps all c.args.blocks.now c.args.table.now) _
    (λ all. indexes_steps all c.args.blocks.now (57 + 55 * length c.as_slice-columns.result.now) _) _ _ _ _ _ _ c.reach_indexes.result
    (lead_on g.D.Device _ _
    (λ all. columns_steps all c.args.blocks.now 57 _)
    (λ all. indexes_steps all c.args.blocks.now (57 + 55 * length c.args.table.now.columns) c.args.table.now.indexes) _ _ _ _ _ _
    (lead_on g.D.Device _ (λ all. objects_steps all c.args.blocks.now c.args.table.now)
    (λ all. object_from all c.args.blocks.now 49 c.args.table.now.existence)
    (λ all. columns_steps all c.args.blocks.now 57 c.args.table.now.columns ++ indexes_steps all c.args.blocks.now (57 + 55 * length c.args.table.now.columns) c.args.table.now.indexes) _ _ _ _ _ _
    (lead_start g.D.Device _ c.args.disk.now c.args.reached.now) c.in_ok-reach_from.ensures.ok
    (λ all told. objects_are all c.args.blocks.now c.args.table.now)) c.in_ok-reach_columns.ensures.ok (λ all told. ap (λ (cs : List ColumnPart). columns_steps all c.args.blocks.now 57 cs ++ indexes_steps all c.args.blocks.now (57 + 55 * length c.args.table.now.columns) c.args.table.now.indexes) (sym c.as_slice-columns.ensures)))
    (λ all told. indexes_same all c.args.blocks.now c.args.table.now.columns _ c.args.table.now.indexes _ _ c.as_slice-columns.ensures refl c.as_slice.ensures) c.reach_indexes.ensures.ok

pub returns-clause-err : goal.returns-clause-err
returns-clause-err g c =
    last_err g.D.Device (λ all. objects_steps all c.args.blocks.now c.args.table.now) _
    (λ all. indexes_steps all c.args.blocks.now (57 + 55 * length c.as_slice-columns.result.now) _) _ _ _ _ _ c.reach_indexes.result
    (lead_on g.D.Device _ _
    (λ all. columns_steps all c.args.blocks.now 57 _)
    (λ all. indexes_steps all c.args.blocks.now (57 + 55 * length c.args.table.now.columns) c.args.table.now.indexes) _ _ _ _ _ _
    (lead_on g.D.Device _ (λ all. objects_steps all c.args.blocks.now c.args.table.now)
    (λ all. object_from all c.args.blocks.now 49 c.args.table.now.existence)
    (λ all. columns_steps all c.args.blocks.now 57 c.args.table.now.columns ++ indexes_steps all c.args.blocks.now (57 + 55 * length c.args.table.now.columns) c.args.table.now.indexes) _ _ _ _ _ _
    (lead_start g.D.Device _ c.args.disk.now c.args.reached.now) c.in_ok-reach_from.ensures.ok
    (λ all told. objects_are all c.args.blocks.now c.args.table.now)) c.in_ok-reach_columns.ensures.ok (λ all told. ap (λ (cs : List ColumnPart). columns_steps all c.args.blocks.now 57 cs ++ indexes_steps all c.args.blocks.now (57 + 55 * length c.args.table.now.columns) c.args.table.now.indexes) (sym c.as_slice-columns.ensures)))
    (λ all told. indexes_same all c.args.blocks.now c.args.table.now.columns _ c.args.table.now.indexes _ _ c.as_slice-columns.ensures refl c.as_slice.ensures) c.reach_indexes.ensures.err
