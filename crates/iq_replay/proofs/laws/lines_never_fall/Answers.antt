use Rattle.iq_replay.proofs.Histories.{IsInOrder-push}
use Rattle.iq_replay.proofs.laws.lines_never_fall.Goals as goal

pub returns : goal.returns
returns c = IsInOrder-push
