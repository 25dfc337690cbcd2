use Rattle.iq_replay.proofs.Made.{AreMade-start, AreMade-replay}
use Rattle.iq_replay.proofs.laws.snapshots_are_commits_that_were_made.Goals as goal

pub returns : goal.returns
returns c = λ blocks told script opening es h. AreMade-replay _ es h (AreMade-start blocks told script opening)
