use Rattle.std.specs.Prelude.{refl}
use Rattle.std.specs.Fmt.{digits}
use Rattle.iq_replay_tests.proofs.queries.plans_are_printed_by_their_tests.Goals as goal

pub returns-clause-carried : goal.returns-clause-carried
unfolding digits
returns-clause-carried c = refl

pub returns-clause-range : goal.returns-clause-range
unfolding digits
returns-clause-range c = refl

pub returns-clause-low_fast : goal.returns-clause-low_fast
unfolding digits
returns-clause-low_fast c = refl

pub returns-clause-nulls : goal.returns-clause-nulls
unfolding digits
returns-clause-nulls c = refl

pub returns-clause-null_end : goal.returns-clause-null_end
unfolding digits
returns-clause-null_end c = refl
