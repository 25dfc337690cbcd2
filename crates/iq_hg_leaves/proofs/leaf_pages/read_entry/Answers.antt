use Rattle.std.proofs.Common.{arith, sym}
use mathlib.Core.Bool.{true≢false}
use Rattle.iq_hg_leaves.proofs.PageBytes.{entry_read}
use Rattle.iq_hg_leaves.proofs.leaf_pages.read_entry.Goals as goal

pub returns-clause-bytes : goal.returns-clause-bytes
returns-clause-bytes c = (entry_read c.args.kind c.args.page.now c.in-Ok.value c.number_at-row.result c.args.at c.width-cell.result _ c.width-cell.ensures.value (omega arith) c.in-Ok.ensures.ok (λ e. true≢false (sym (c.if-is_null.ensures.1 e))) (omega arith) c.number_at-row.ensures).1
