use Rattle.std.proofs.Common.{arith}
use Rattle.iq_fp.proofs.ColumnLaws.{room}
use Rattle.iq_fp.proofs.laws.room_law.Goals as goal

pub returns : goal.returns
returns c =
    let high = c.width-width.ensures.small.1 in
    room c.args.fp.now (omega (arith, c.width-width.ensures.value))
