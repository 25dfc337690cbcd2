use Rattle.std.proofs.Common.{Some}
use Rattle.iq_turnstile.proofs.Closing.{slot_out}
use Rattle.iq_turnstile.proofs.turnstile.Turnstile.turn.Goals as goal

pub exchange-requires : goal.exchange-requires
exchange-requires g c = let here = c.enter.ensures.here in (here.at.place, (Some here.state, slot_out _ _ _ here.at.knows))
