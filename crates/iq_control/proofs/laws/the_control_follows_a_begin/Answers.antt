use Rattle.iq_control.specs.Asked.{AsksBegin}
use Rattle.iq_control.proofs.Lines.{line_at}
use Rattle.iq_control.proofs.Follows.{follows_begin}
use Rattle.iq_control.proofs.laws.the_control_follows_a_begin.Goals as goal

pub returns : goal.returns
returns c = λ first k place l commit own follows at_line snapshot. follows_begin first k place l commit own follows (line_at k _ place l (AsksBegin k own) follows.agrees at_line) snapshot
