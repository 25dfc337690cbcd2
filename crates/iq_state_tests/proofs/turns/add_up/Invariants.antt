use Rattle.iq_state_tests.specs.Counter.{CanAdd}
use Rattle.iq_state_tests.proofs.turns.add_up.Given as goal

abbrev pub invariant-loop-amount : goal.invariant-loop-amount
invariant-loop-amount g l = CanAdd l.door l.worker.pass l.worker.name
