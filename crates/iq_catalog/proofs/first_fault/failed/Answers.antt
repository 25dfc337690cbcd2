use Rattle.std.proofs.Common.{sym, ◌∙◌}
use Rattle.iq_catalog.proofs.FirstFault.{behind_head, behind_columns}
use Rattle.iq_catalog.proofs.first_fault.failed.Goals as goal

pub returns-in-Some-failed_column : goal.returns-in-Some-failed_column
returns-in-Some-failed_column c =
    behind_head c.args.table.now c.head_tests.result c.as_slice-columns.result.now c.in-Some-failed_column.byte c.head_tests.ensures
    (sym c.first_failed.ensures ∙ c.in_default.is) c.as_slice-columns.ensures (sym c.failed_column.ensures ∙ c.in-Some-failed_column.is)

pub returns : goal.returns
returns c =
    behind_columns c.args.table.now c.head_tests.result c.as_slice-columns.result.now c.as_slice.result.now c.failed_index.result c.head_tests.ensures
    (sym c.first_failed.ensures ∙ c.in_default.is) c.as_slice-columns.ensures (sym c.failed_column.ensures ∙ c.in_default-failed_column.is)
    c.as_slice.ensures c.failed_index.ensures
