use Rattle.iq_turnstile.proofs.Keeps.{splits_allowed}
use Rattle.std.proofs.Common.{arith}
use Rattle.iq_turnstile.proofs.turnstile.Turnstile.split.Goals as goal

pub split_seat-seat-requires : goal.split_seat-seat-requires
split_seat-seat-requires g c =
    let at = c.requires.here.at in
    let words = c.args.self.now.words in
    (at.place, omega arith, splits_allowed g.S.Shared.agrees g.S.Shared.apart g.S.Shared.both_ways _ _ _ g.S.Shared.divides _ _ _ _ at.knows c.requires.enough)
