use Rattle.iq_control.specs.Asked.{AsksTake}
use Rattle.iq_control.proofs.Lines.{line_at}
use Rattle.iq_control.proofs.Follows.{follows_take}
use Rattle.iq_control.proofs.laws.the_control_follows_an_effect.Goals as goal

pub returns : goal.returns
returns c = λ first k place l created follows at_line granted. follows_take first k place l created follows (line_at k _ place l (AsksTake created) follows.agrees at_line) granted
