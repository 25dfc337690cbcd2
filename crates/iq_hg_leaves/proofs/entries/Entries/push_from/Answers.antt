use Rattle.std.proofs.Common.{◌<◌, length, sym, ap, ◌∙◌, arith}
use Rattle.std.proofs.lemmas.List.{get_or_read}
use Rattle.std.proofs.lemmas.Result.{on_ok_weaker}
use Rattle.iq_cells.specs.Packed.{value_at}
use Rattle.iq_hg_leaves.specs.Entries.{with_entry}
use Rattle.iq_hg_leaves.proofs.Joined.{list_long, list_at, list_filled, pair}
use Rattle.iq_hg_leaves.proofs.entries.Entries.push_from.Goals as goal

pub push_cell-requires-clause-filled : goal.push_cell-requires-clause-filled
push_cell-requires-clause-filled c = list_filled _ _ _ c.other.invariant c.other.view_is c.args.i c.requires.there

pub returns : goal.returns
returns c =
    let there : c.args.i < length c.other.inside.rows.items = omega (arith, list_long _ _ _ c.other.invariant c.other.view_is, c.requires.there) in
    on_ok_weaker c.push_cell.result (λ e. e ∙ ap (with_entry c.args.self.now) (ap (pair (value_at c.args.i c.other.inside.cells.values)) (get_or_read c.other.inside.rows.items _ _ there c.index.ensures 0) ∙ sym (list_at _ _ _ c.other.invariant c.other.view_is c.args.i c.requires.there))) c.push_cell.ensures
