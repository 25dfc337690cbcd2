use Rattle.std.proofs.Common.{◌<◌, ℕ, length, ap, ◌∙◌, refl, arith}
use Rattle.std.specs.Ordering.{ordering_then, nat_cmp}
use Rattle.std.proofs.lemmas.List.{get_or_read}
use Rattle.iq_hg_leaves.proofs.Joined.{list_long, list_at, cmp_is}
use Rattle.iq_hg_leaves.proofs.entries.Entries.compare_to.Goals as goal

pub returns : goal.returns
returns c =
    let here : c.args.i < length c.self.inside.rows.items = omega (arith, list_long _ _ _ c.self.invariant c.self.view_is, c.requires) in
    cmp_is _ c.args.entry.now c.compare_to-order.result _ _ c.args.entry.now.value _ c.args.entry.now.row (list_at _ _ _ c.self.invariant c.self.view_is c.args.i c.requires) refl c.compare_to-order.ensures
    (c.rows_then.ensures ∙ ap (λ (a : ℕ). ordering_then c.compare_to-order.result (nat_cmp a c.args.entry.now.row)) (get_or_read c.self.inside.rows.items _ _ here c.index-row.ensures 0))
