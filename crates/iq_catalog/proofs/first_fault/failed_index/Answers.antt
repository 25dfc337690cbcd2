use Rattle.std.proofs.Common.{sym, ap, ◌∙◌}
use Rattle.iq_catalog.specs.FirstFault.{first_failed}
use Rattle.iq_catalog.proofs.FirstFault.{failed_front, failed_behind, index_here}
use Rattle.iq_catalog.proofs.first_fault.failed_index.Goals as goal

pub returns-in-Some : goal.returns-in-Some
returns-in-Some c =
    let here = index_here c.args.count c.args.indexes.now c.loop-k.k c.index-indexes-k.result c.index_tests.result c.loop-k-test.true c.index-indexes-k.is c.index_tests.ensures in
    sym (failed_front c.index_tests.result _ c.in-Some.failed (sym c.first_failed.ensures ∙ c.in-Some.is)) ∙ sym (ap first_failed here) ∙ c.loop-k.invariant

pub loop-k-preserved : goal.loop-k-preserved
loop-k-preserved c =
    let here = index_here c.args.count c.args.indexes.now c.loop-k.k c.index-indexes-k.result c.index_tests.result c.loop-k-test.true c.index-indexes-k.is c.index_tests.ensures in
    sym (failed_behind c.index_tests.result _ (sym c.first_failed.ensures ∙ c.in_default.is)) ∙ sym (ap first_failed here) ∙ c.loop-k.invariant
