use Rattle.std.proofs.Common.{arith}
use Rattle.iq_fp.proofs.ColumnLaws.{moves, depends, counted}
use Rattle.iq_fp.proofs.laws.stands_law.Goals as goal

pub returns-clause-pages : goal.returns-clause-pages
returns-clause-pages c = depends c.args.fp.now

pub returns-clause-place : goal.returns-clause-place
returns-clause-place c = moves c.args.fp.now

pub returns-clause-count : goal.returns-clause-count
returns-clause-count c = λ told values stands.
    let low = c.width-width.ensures.small.0 in
    let high = c.width-width.ensures.small.1 in
    counted c.args.fp.now told values (omega (arith, c.width-width.ensures.value)) (omega (arith, c.width-width.ensures.value)) stands
