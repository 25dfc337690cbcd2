use Rattle.std.proofs.Common.{◌<◌, ◌∙◌, length, arith}
use Rattle.iq_hg.proofs.MarkLaws.{mark_next, live_next, set_long}
use Rattle.iq_hg.proofs.marking.mark.Goals as goal

pub loop-i-preserved : goal.loop-i-preserved
loop-i-preserved c =
    let es = c.args.entries.now.entries in
    let there : c.loop-i.i < length es = omega (arith, c.loop-i-test.true, c.len-i-end.ensures.count) in
    record {
      long = set_long _ _ _ _ c.set_where.ensures ∙ c.loop-i.invariant.long;
      marked_are = mark_next c.args.wanted.now es c.loop-i.i c.args.bits.now c.loop-i.bits _ _ _ _ there c.loop-i.invariant.marked_are (c.cells-in-loop-i.ensures.each c.loop-i.i there) c.is_wanted.ensures c.row-row.ensures c.set_where.ensures;
      live = live_next c.args.wanted.now es c.loop-i.i _ _ there (c.cells.ensures.each c.loop-i.i there) c.is_past.ensures c.if-is_past.false c.loop-i.invariant.live;
    }
