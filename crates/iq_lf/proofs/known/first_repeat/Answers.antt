use Rattle.std.proofs.Common.{◌<◌, length, arith}
use Rattle.iq_base.specs.Cells.{IsCell}
use Rattle.iq_cells.specs.Packed.{value_at}
use Rattle.iq_fp.proofs.Repeats.{keyed_next, repeats}
use Rattle.iq_lf.proofs.known.first_repeat.Goals as goal

pub loop-i-preserved : goal.loop-i-preserved
loop-i-preserved c =
    let less : c.loop-i.i < length c.args.cells.now.values = omega arith in
    let is : IsCell c.args.cells.now.kind (value_at c.loop-i.i c.args.cells.now.values) c.of.result = rw c.of.ensures c.cell.ensures.cell in
    keyed_next _ _ c.loop-i.i _ _ _ _ less c.loop-i.invariant is c.in_ok-added.ensures.keys c.in_ok-added.ensures.added c.if-not-added.false

pub returns-then-not-added : goal.returns-then-not-added
returns-then-not-added c =
    let less : c.loop-i.i < length c.args.cells.now.values = omega arith in
    let is : IsCell c.args.cells.now.kind (value_at c.loop-i.i c.args.cells.now.values) c.of.result = rw c.of.ensures c.cell.ensures.cell in
    (less, repeats _ _ c.loop-i.i _ _ _ _ less c.loop-i.invariant is c.in_ok-added.ensures.keys c.in_ok-added.ensures.added c.if-not-added.true)
