use Rattle.iq_plain_runs.proofs.NextStep.{versions_next}
use Rattle.iq_plain_runs.proofs.step_following.told.Goals as goal

pub returns : goal.returns
returns c = versions_next _ _ c.requires
