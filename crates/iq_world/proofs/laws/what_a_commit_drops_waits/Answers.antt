use Rattle.iq_world.proofs.Committing.{commits}
use Rattle.iq_world.specs.Steps.{change}
use Rattle.iq_world.proofs.laws.what_a_commit_drops_waits.Goals as goal

pub returns : goal.returns
unfolding change
returns c = commits
