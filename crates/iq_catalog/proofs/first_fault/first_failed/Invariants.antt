use Rattle.std.proofs.Common.{◌≡◌, drop}
use Rattle.iq_catalog.specs.FirstFault.{first_failed}
use Rattle.iq_catalog.proofs.first_fault.first_failed.Given as goal

abbrev pub invariant-loop-test : goal.invariant-loop-test
invariant-loop-test l = first_failed (drop l.test-index l.tests) ≡ first_failed l.tests
