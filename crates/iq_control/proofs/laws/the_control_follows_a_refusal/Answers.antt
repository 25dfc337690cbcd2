use Rattle.std.proofs.Common.{refl}
use Rattle.iq_control.proofs.Follows.{follows_next, agrees_refused}
use Rattle.iq_control.proofs.Possible.{refusal_possible}
use Rattle.iq_control.proofs.laws.the_control_follows_a_refusal.Goals as goal

pub returns : goal.returns
returns c = λ first k place l cause follows can. follows_next first k _ _ follows (refusal_possible _ place l cause can) refl (agrees_refused k _ place l cause follows.agrees)
