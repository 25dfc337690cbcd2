use Rattle.std.proofs.Common.{length, ◌≤◌}
use Rattle.iq_block_map.specs.Takers.{AreSpare}
use Rattle.iq_block_map.specs.Writing.{HasPut}
use Rattle.iq_table_objects.specs.Opening.{AreStanding, SamePages}
use Rattle.iq_table_objects.proofs.ClosingLemmas.{FirstClosed}
use Rattle.iq_table_objects.proofs.closing.close_all.Given as goal

abbrev pub invariant-loop-k : goal.invariant-loop-k
invariant-loop-k g l = record {
  put : HasPut g.D.Device (g.T.Taker.left l.fn.space) (g.T.Taker.left l.space) l.fn.disk l.disk;
  spare : AreSpare (g.D.Device.blocks l.disk) (g.T.Taker.left l.space);
  stands : AreStanding (g.D.Device.blocks l.disk) (g.T.Taker.left l.space) l.slots;
  pages : SamePages l.fn.slots l.slots;
  closed : FirstClosed (g.D.Device.blocks l.disk) (g.T.Taker.left l.space) l.k l.slots;
}
