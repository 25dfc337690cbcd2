use Rattle.std.proofs.Common.{arith}
use Rattle.iq_block_store.proofs.FrameLemmas.{has_header-framed, framed_level, payload_of-framed}
use Rattle.iq_block_store.proofs.frames.frame.Goals as goal

pub returns-clause-headed : goal.returns-clause-headed
returns-clause-headed c = λ level_is.
    rw (c.put_both.ensures, c.header.ensures)
    (has_header-framed c.args.kind c.args.at c.args.level c.args.payload.now
    (omega (arith, c.ranges.kind.fits)) (omega (arith, c.ranges.at.fits)) (omega (arith, c.ranges.level.fits)) level_is)

pub returns-clause-level : goal.returns-clause-level
returns-clause-level c = rw (c.put_both.ensures, c.header.ensures)
    (framed_level c.args.kind c.args.at c.args.level c.args.payload.now (omega (arith, c.ranges.level.fits)))

pub returns-clause-payload : goal.returns-clause-payload
returns-clause-payload c = rw (c.put_both.ensures, c.header.ensures)
    (payload_of-framed c.args.kind c.args.at c.args.level c.args.payload.now)
