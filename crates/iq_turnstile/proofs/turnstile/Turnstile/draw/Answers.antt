use Rattle.iq_turnstile.proofs.Keeps.{draws_allowed}
use Rattle.std.proofs.Common.{arith}
use Rattle.iq_turnstile.proofs.turnstile.Turnstile.draw.Goals as goal

pub fetch_add-requires : goal.fetch_add-requires
fetch_add-requires g c =
    let at = c.requires.at in
    let words = c.args.self.now.words in
    (at.place, omega arith, draws_allowed g.S.Shared.agrees g.S.Shared.apart g.S.Shared.both_ways _ _ _ _ _ _ at.knows at.some_part)
