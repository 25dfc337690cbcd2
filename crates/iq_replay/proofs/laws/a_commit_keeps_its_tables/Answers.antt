use Rattle.std.specs.Prelude.{refl}
use Rattle.std.proofs.Common.{◌∙◌, ap}
use Rattle.iq_replay.specs.State.{State}
use Rattle.iq_replay.specs.Start.{start}
use Rattle.iq_replay.specs.Commits.{database_of}
use Rattle.iq_replay.proofs.Histories.{replay-append}
use Rattle.iq_replay.proofs.Commits.{IsCounted-replay, database_of-replay}
use Rattle.iq_replay.proofs.laws.a_commit_keeps_its_tables.Goals as goal

pub returns : goal.returns
returns c = λ blocks told script opening es fs k low. ap (λ (s : State). database_of s k) (replay-append (start blocks told script opening) es fs) ∙ database_of-replay _ fs k (IsCounted-replay (start blocks told script opening) es (record { count = refl })) low
