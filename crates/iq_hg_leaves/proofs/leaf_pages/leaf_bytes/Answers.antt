use Rattle.std.proofs.Common.{arith}
use Rattle.iq_hg_leaves.specs.Bytes.{leaf_head}
use Rattle.iq_hg_leaves.proofs.PageBytes.{bytes_next}
use Rattle.iq_hg_leaves.proofs.leaf_pages.leaf_bytes.Goals as goal

pub loop-i-preserved : goal.loop-i-preserved
loop-i-preserved c = bytes_next c.args.entries.now.kind c.args.entries.now.entries c.args.from c.loop-i.i (leaf_head c.args.n c.args.next) _ _ (omega (arith, c.requires.there)) c.loop-i.invariant c.in_ok-put_entry.ensures
