use Rattle.std.proofs.Common.{◌≡◌, ◌<◌, ◌++◌, drop, length}
use Rattle.std.specs.List.{All}
use Rattle.iq_opening.specs.Free.{unset_from}
use Rattle.iq_opening.proofs.free.free_list.Given as goal

abbrev pub invariant-loop-block : goal.invariant-loop-block
invariant-loop-block l = record {
  count : l.free.count ≡ length l.reached;
  below : All (λ b. b < l.block) l.free.blocks;
  so_far : l.free.blocks ++ unset_from l.block (drop l.block l.reached) ≡ unset_from 4 (drop 4 l.reached);
}
