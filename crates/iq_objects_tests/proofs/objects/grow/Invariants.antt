use Rattle.iq_block_map.specs.Refs.{WhereTold}
use Rattle.iq_block_map.specs.Takers.{AreSpare}
use Rattle.iq_objects.specs.Open.{Stands}
use Rattle.iq_objects_tests.proofs.objects.grow.Given as goal

abbrev pub invariant-loop-k : goal.invariant-loop-k
invariant-loop-k g l = record {
  spare : AreSpare (g.D.Device.blocks l.disk) (g.T.Taker.left l.space);
  stands : WhereTold (g.D.Device.blocks l.disk) (Stands (g.T.Taker.left l.space) l.object);
}
