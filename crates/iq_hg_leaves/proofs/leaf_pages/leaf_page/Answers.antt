use Rattle.std.proofs.Common.{◌∙◌, arith}
use Rattle.iq_hg_leaves.proofs.PageBytes.{leaf_bytes_fit, leaf_made}
use Rattle.iq_hg_leaves.proofs.leaf_pages.leaf_page.Goals as goal

pub page_of-requires : goal.page_of-requires
page_of-requires c = leaf_bytes_fit c.args.entries.now.kind c.args.entries.now.entries c.args.from c.args.n c.args.next _ c.requires.there c.requires.fits c.len-all.ensures.each (c.deref.ensures.value ∙ c.in_ok-bytes.ensures)

pub returns : goal.returns
returns c = leaf_made c.args.entries.now.kind c.args.entries.now.entries c.args.from c.args.n c.args.next _ _ c.requires.there c.requires.fits c.len-all.ensures.each (c.deref.ensures.value ∙ c.in_ok-bytes.ensures) c.page_of.ensures (omega arith)
