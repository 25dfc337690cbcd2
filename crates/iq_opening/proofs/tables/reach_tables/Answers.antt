use Rattle.std.proofs.Common.{◌∙◌, ◌+◌, [], drop, slice_index}
use Rattle.iq_descriptors.specs.Parts.{table_at}
use Rattle.iq_opening.specs.Tables.{coded}
use Rattle.iq_opening.specs.Steps.{table_steps, tables_steps}
use Rattle.iq_opening.proofs.Ways.{err_exit, lead_on, lead_end, lead_stop}
use Rattle.iq_opening.proofs.Wholes.{tables_end, tables_go_on, tables_next, tables_more, tables_all}
use Rattle.iq_opening.proofs.tables.reach_tables.Goals as goal

pub loop-head-preserved : goal.loop-head-preserved
loop-head-preserved g c = record {
  leads = lead_on g.D.Device (λ all. tables_steps all coded c.args.body [] c.args.heads.now) _ (λ all. table_steps all coded c.args.body c.loop-head.before (slice_index c.args.heads.now c.loop-head.head-index)) _ _ _ _ _ _ _
      c.loop-head.invariant.leads c.in_ok-table.ensures.ok
      (λ all told. tables_go_on all c.args.body c.loop-head.head-index c.loop-head.before c.args.heads.now c.in_ok-table.table _ c.loop-head-test.true
      (c.in_ok-table.ensures.table all (c.loop-head.invariant.leads.looked.unchanged ∙ told)) c.again-before.ensures);
  tables = λ all told.
      tables_more all c.loop-head.head-index c.args.heads.now c.loop-head.tables _ c.in_ok-table.table c.loop-head-test.true
      (c.in_ok-table.ensures.table all (c.loop-head.invariant.leads.looked.unchanged ∙ told)) (c.loop-head.invariant.tables all told) c.in_ok-push.ensures.ok;
}

pub returns-in_err-table-clause-err : goal.returns-in_err-table-clause-err
returns-in_err-table-clause-err g c =
    err_exit _ c.from_residual.result c.in_err-table.field-0.0 c.from_residual.ensures.1
    (lead_stop g.D.Device (λ all. tables_steps all coded c.args.body [] c.args.heads.now) _ (λ all. table_steps all coded c.args.body c.loop-head.before (slice_index c.args.heads.now c.loop-head.head-index))
    (λ all. tables_steps all coded c.args.body (table_at all (slice_index c.args.heads.now c.loop-head.head-index)).name (drop (c.loop-head.head-index + 1) c.args.heads.now)) _ _ _ _ _ _
    c.loop-head.invariant.leads c.in_err-table.ensures.err
    (λ all told. tables_next all c.args.body c.loop-head.head-index c.loop-head.before c.args.heads.now c.loop-head-test.true))

pub returns-clause-ok : goal.returns-clause-ok
returns-clause-ok g c =
    lead_end g.D.Device (λ all. tables_steps all coded c.args.body [] c.args.heads.now) _ _ _ _ _
    c.loop-head.invariant.leads
    (λ all told. tables_end all c.args.body c.loop-head.head-index c.loop-head.before c.args.heads.now c.loop-head-test.false)

pub returns-clause-tables : goal.returns-clause-tables
returns-clause-tables g c =
    λ all told. tables_all all c.loop-head.head-index c.args.heads.now c.loop-head.tables c.loop-head-test.false (c.loop-head.invariant.tables all told)
