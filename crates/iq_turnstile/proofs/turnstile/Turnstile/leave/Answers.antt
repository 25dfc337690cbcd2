use Rattle.iq_turnstile.proofs.Keeps.{advances_allowed}
use Rattle.std.proofs.Common.{arith}
use Rattle.iq_turnstile.proofs.turnstile.Turnstile.leave.Goals as goal

pub fetch_add-requires : goal.fetch_add-requires
fetch_add-requires g c =
    let held = c.requires.held in
    let words = c.args.self.now.words in (
      held.at.place,
      omega arith,
      advances_allowed g.S.Shared.agrees g.S.Shared.apart g.S.Shared.both_ways _ g.S.Shared.may _ _ _ _ _ _ _ _ _ _ held.at.knows held.told_is held.at.some_part held.turn,
    )
