use Rattle.std.proofs.Common.{arith}
use Rattle.iq_opening.specs.Steps.{column_steps, columns_steps}
use Rattle.iq_opening.proofs.Ways.{err_exit, lead_on, lead_end, lead_stop}
use Rattle.iq_opening.proofs.Parts.{columns_go_on, columns_end}
use Rattle.iq_opening.proofs.Refs.{next_column}
use Rattle.iq_opening.proofs.objects.reach_columns.Goals as goal

pub reach_column-requires-clause-cells : goal.reach_column-requires-clause-cells
reach_column-requires-clause-cells g c =
    (next_column c.args.columns.now c.loop-column.column-index c.column-item.result c.loop-column-test.true c.column-item.is
    c.loop-column.invariant.storable).cells

pub reach_column-requires-clause-values : goal.reach_column-requires-clause-values
reach_column-requires-clause-values g c =
    (next_column c.args.columns.now c.loop-column.column-index c.column-item.result c.loop-column-test.true c.column-item.is
    c.loop-column.invariant.storable).values

pub returns-in_err-reach_column-clause-err : goal.returns-in_err-reach_column-clause-err
returns-in_err-reach_column-clause-err g c =
    err_exit _ c.from_residual.result c.in_err-reach_column.field-0.0 c.from_residual.ensures.1
    (lead_stop g.D.Device (λ all. columns_steps all c.args.blocks.now 57 c.args.columns.now) _
    (λ all. column_steps all c.args.blocks.now c.loop-column.byte c.column-item.result) _ _ _ _ _ _ _
    c.loop-column.invariant.leads c.in_err-reach_column.ensures.err
    (λ all told. columns_go_on all c.args.blocks.now c.loop-column.byte c.loop-column.column-index c.args.columns.now c.column-item.result c.loop-column-test.true c.column-item.is))

pub loop-column-preserved : goal.loop-column-preserved
loop-column-preserved g c = record {
  byte = omega (arith, c.loop-column.invariant.byte);
  storable = (next_column c.args.columns.now c.loop-column.column-index c.column-item.result c.loop-column-test.true c.column-item.is
      c.loop-column.invariant.storable).rest;
  leads = lead_on g.D.Device (λ all. columns_steps all c.args.blocks.now 57 c.args.columns.now) _
      (λ all. column_steps all c.args.blocks.now c.loop-column.byte c.column-item.result) _ _ _ _ _ _ _
      c.loop-column.invariant.leads c.in_ok-reach_column.ensures.ok
      (λ all told. columns_go_on all c.args.blocks.now c.loop-column.byte c.loop-column.column-index c.args.columns.now c.column-item.result c.loop-column-test.true c.column-item.is);
}

pub returns-clause-ok : goal.returns-clause-ok
returns-clause-ok g c =
    lead_end g.D.Device (λ all. columns_steps all c.args.blocks.now 57 c.args.columns.now) _ _ _ _ _
    c.loop-column.invariant.leads
    (λ all told. columns_end all c.args.blocks.now c.loop-column.byte c.loop-column.column-index c.args.columns.now c.loop-column-test.false)
