use Rattle.iq_replay.proofs.Numbered.{AreNext-replay}
use Rattle.iq_replay.proofs.laws.commits_are_numbered_without_a_gap.Goals as goal

pub returns-clause-numbers : goal.returns-clause-numbers
returns-clause-numbers c = λ s es h. (AreNext-replay s es h).numbers

pub returns-clause-latest : goal.returns-clause-latest
returns-clause-latest c = λ s es h. (AreNext-replay s es h).latest_is
