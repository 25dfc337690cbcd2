use Rattle.std.proofs.Common.{◌≡◌, drop}
use Rattle.iq_free_list.specs.FreeList.{put_all}
use Rattle.iq_free_list.proofs.free_list.FreeList.give_all.Given as goal

abbrev pub invariant-loop-block : goal.invariant-loop-block
invariant-loop-block l =
    (l.self.count ≡ l.fn.self.count)
    × (put_all (drop l.block-index l.blocks) l.self.blocks ≡ put_all l.blocks l.fn.self.blocks)
