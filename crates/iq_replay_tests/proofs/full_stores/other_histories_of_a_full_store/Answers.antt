use Rattle.std.proofs.Common.{arith}
use Rattle.iq_replay.specs.Entries.{IsPossible, change}
use Rattle.iq_replay.specs.Histories.{IsLegal}
use Rattle.iq_replay_tests.proofs.full_stores.other_histories_of_a_full_store.Goals as goal

pub returns-clause-a_block_is_free : goal.returns-clause-a_block_is_free
unfolding IsLegal IsPossible change
returns-clause-a_block_is_free c h = grind (arith, h.1.1.1.1.1.1.0)

pub returns-clause-a_block_too_many : goal.returns-clause-a_block_too_many
unfolding IsLegal IsPossible change
returns-clause-a_block_too_many c h = grind (arith, h.1.1.1.1.1.1.0)

pub returns-clause-without_its_lock : goal.returns-clause-without_its_lock
unfolding IsLegal IsPossible change
returns-clause-without_its_lock c h = grind (arith, h.1.1.1.1.1.0)
