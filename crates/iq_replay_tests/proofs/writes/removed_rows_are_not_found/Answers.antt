use Rattle.std.specs.Prelude.{refl}
use Rattle.std.specs.Fmt.{digits}
use Rattle.iq_replay_tests.proofs.writes.removed_rows_are_not_found.Goals as goal

pub returns-clause-without_low_fast : goal.returns-clause-without_low_fast
unfolding digits
returns-clause-without_low_fast c = refl
