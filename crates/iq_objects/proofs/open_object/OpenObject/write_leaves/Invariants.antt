use Rattle.std.proofs.Common.{◌≡◌, ◌≤◌, ◌<◌, ◌+◌, ℕ, length, slice_index}
use Rattle.iq_block_map.specs.Refs.{WhereTold}
use Rattle.iq_block_map.specs.Takers.{AreSpare}
use Rattle.iq_block_map.specs.Writing.{HasPut}
use Rattle.iq_block_map.specs.Laws.{times}
use Rattle.iq_objects.specs.Open.{Stands, Moves}
use Rattle.iq_objects.specs.Changes.{WritesMaps}
use Rattle.iq_objects.proofs.open_object.OpenObject.write_leaves.Given as goal

abbrev pub invariant-loop-k : goal.invariant-loop-k
invariant-loop-k g l = record {
  put : HasPut g.D.Device (g.T.Taker.left l.fn.space) (g.T.Taker.left l.space) l.fn.disk l.disk;
  spare : AreSpare (g.D.Device.blocks l.disk) (g.T.Taker.left l.space);
  stands : WhereTold (g.D.Device.blocks l.disk) (Stands (g.T.Taker.left l.space) l.self);
  moves : Moves (g.T.Taker.left l.fn.space) (g.T.Taker.left l.space) l.fn.self l.self;
  maps : WritesMaps l.fn.self l.self;
  top : l.self.top ≡ l.fn.self.top;
  lost : l.self.lost ≡ l.fn.self.lost;
  count : times 0 l.self.leaves + length (g.T.Taker.left l.fn.space) ≡ times 0 l.fn.self.leaves + length (g.T.Taker.left l.space);
  done : (j : ℕ) → j < l.k → 1 ≤ slice_index l.self.leaves j;
}
