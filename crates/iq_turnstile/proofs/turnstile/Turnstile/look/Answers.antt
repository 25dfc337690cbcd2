use Rattle.iq_turnstile.proofs.Keeps.{looks_allowed}
use Rattle.std.proofs.Common.{arith}
use Rattle.iq_turnstile.proofs.turnstile.Turnstile.look.Goals as goal

pub load-requires : goal.load-requires
load-requires g c =
    let at = c.requires.at in
    let words = c.args.self.now.words in
    (at.place, omega arith, looks_allowed g.S.Shared.agrees g.S.Shared.apart g.S.Shared.both_ways _ _ _ _ _ _ _ at.knows at.some_part)
