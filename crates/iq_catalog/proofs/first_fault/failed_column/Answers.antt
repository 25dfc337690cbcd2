use Rattle.std.proofs.Common.{sym, ap, ◌∙◌}
use Rattle.iq_catalog.specs.FirstFault.{first_failed}
use Rattle.iq_catalog.proofs.FirstFault.{failed_front, failed_behind, column_here}
use Rattle.iq_catalog.proofs.first_fault.failed_column.Goals as goal

pub returns-in-Some : goal.returns-in-Some
returns-in-Some c =
    let here = column_here c.args.columns.now c.loop-k.k c.index-columns-k.result c.column_tests.result c.loop-k-test.true c.index-columns-k.is c.column_tests.ensures in
    sym (failed_front c.column_tests.result _ c.in-Some.failed (sym c.first_failed.ensures ∙ c.in-Some.is)) ∙ sym (ap first_failed here) ∙ c.loop-k.invariant

pub loop-k-preserved : goal.loop-k-preserved
loop-k-preserved c =
    let here = column_here c.args.columns.now c.loop-k.k c.index-columns-k.result c.column_tests.result c.loop-k-test.true c.index-columns-k.is c.column_tests.ensures in
    sym (failed_behind c.column_tests.result _ (sym c.first_failed.ensures ∙ c.in_default.is)) ∙ sym (ap first_failed here) ∙ c.loop-k.invariant
