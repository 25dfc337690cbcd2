use Rattle.iq_control.proofs.Opened.{opened_follows}
use Rattle.iq_control.proofs.laws.the_control_follows_an_opening.Goals as goal

pub returns : goal.returns
returns c = opened_follows
