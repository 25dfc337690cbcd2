use Rattle.iq_script.proofs.Loop.{passes, goes_on}
use Rattle.std.proofs.Common.{◌≤◌, arith}
use Rattle.iq_script.proofs.scripts.read_lines.Goals as goal

pub lines-preserved-then-data_lines-gt0 : goal.lines-preserved-then-data_lines-gt0
lines-preserved-then-data_lines-gt0 c =
    passes c.args.bytes.now c.lines.rest.now c.first_line.result.0.now c.first_line.result.1.now c.lines.number c.lines.data_lines c.lines.reading c.first_line.ensures.cut c.first_line.ensures.shorter c.if-data_lines-gt0.true c.lines.invariant

pub lines-preserved : goal.lines-preserved
lines-preserved c =
    let none : c.lines.data_lines ≤ 0 = omega (arith, c.if-data_lines-gt0.false) in
    goes_on c.args.bytes.now c.lines.rest.now c.first_line.result.0.now c.first_line.result.1.now c.lines.number c.lines.data_lines _ c.lines.reading c.take_line.new.reading c.first_line.ensures.cut c.first_line.ensures.shorter none c.in-Ok.ensures.ok c.lines.invariant
