use Rattle.std.proofs.Common.{◌<◌, ℕ, length, ap₂, ◌∙◌, arith}
use Rattle.std.specs.Ordering.{ordering_then, nat_cmp}
use Rattle.std.proofs.lemmas.List.{get_or_read}
use Rattle.iq_hg_leaves.proofs.Joined.{list_long, list_at, cmp_is}
use Rattle.iq_hg_leaves.proofs.entries.Entries.compare.Goals as goal

pub returns : goal.returns
returns c =
    let here : c.args.i < length c.self.inside.rows.items = omega (arith, list_long _ _ _ c.self.invariant c.self.view_is, c.requires.this) in
    let there : c.args.j < length c.other.inside.rows.items = omega (arith, list_long _ _ _ c.other.invariant c.other.view_is, c.requires.other) in
    cmp_is _ _ c.compare-order.result _ _ _ _ _ (list_at _ _ _ c.self.invariant c.self.view_is c.args.i c.requires.this) (list_at _ _ _ c.other.invariant c.other.view_is c.args.j c.requires.other) c.compare-order.ensures
    (c.rows_then.ensures ∙ ap₂ (λ (a b : ℕ). ordering_then c.compare-order.result (nat_cmp a b)) (get_or_read c.self.inside.rows.items _ _ here c.index-row.ensures 0) (get_or_read c.other.inside.rows.items _ _ there c.index-other_row.ensures 0))
