use Rattle.std.proofs.Common.{◌≡◌, drop}
use Rattle.iq_catalog.specs.FirstFault.{first_failed, indexes_tests}
use Rattle.iq_catalog.proofs.first_fault.failed_index.Given as goal

abbrev pub invariant-loop-k : goal.invariant-loop-k
invariant-loop-k l =
    first_failed (indexes_tests l.count l.indexes l.k (drop l.k l.indexes))
    ≡ first_failed (indexes_tests l.count l.indexes 0 l.indexes)
