use Rattle.std.proofs.Common.{◌≡◌, ◌++◌, take, drop}
use Rattle.iq_hg_leaves.specs.Bytes.{entries_bytes, leaf_head}
use Rattle.iq_hg_leaves.proofs.leaf_pages.leaf_bytes.Given as goal

abbrev pub invariant-loop-i : goal.invariant-loop-i
invariant-loop-i l = l.bytes.items ≡ leaf_head l.n l.next ++ entries_bytes l.entries.kind (take l.i (drop l.from l.entries.entries))
