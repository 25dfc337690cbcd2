use Rattle.std.proofs.Common.{◌≡◌, drop}
use Rattle.iq_catalog.specs.FirstFault.{first_failed, columns_tests}
use Rattle.iq_catalog.proofs.first_fault.failed_column.Given as goal

abbrev pub invariant-loop-k : goal.invariant-loop-k
invariant-loop-k l =
    first_failed (columns_tests l.columns l.k (drop l.k l.columns)) ≡ first_failed (columns_tests l.columns 0 l.columns)
