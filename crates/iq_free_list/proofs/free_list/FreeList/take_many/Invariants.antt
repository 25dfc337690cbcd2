use Rattle.std.proofs.Common.{◌≡◌, ◌+◌, ◌-◌, min, length, take, drop}
use Rattle.iq_free_list.specs.FreeList.{put_all}
use Rattle.iq_free_list.proofs.free_list.FreeList.take_many.Given as goal

-- what is still to be moved, moved, gives what is to come of all
abbrev pub invariant-loop-moved : goal.invariant-loop-moved
invariant-loop-moved l = record {
  moved : l.moved + min (l.n - l.moved) (length l.self.blocks) ≡ min l.n (length l.fn.self.blocks);
  left : drop (l.n - l.moved) l.self.blocks ≡ drop l.n l.fn.self.blocks;
  gained : put_all (take (l.n - l.moved) l.self.blocks) l.into.blocks ≡ put_all (take l.n l.fn.self.blocks) l.fn.into.blocks;
  count : l.self.count ≡ l.fn.self.count;
  count_into : l.into.count ≡ l.fn.into.count;
}
