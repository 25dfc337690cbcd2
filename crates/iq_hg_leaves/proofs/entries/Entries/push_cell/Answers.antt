use Rattle.std.proofs.Common.{arith, subst}
use Rattle.iq_base.specs.declared.values.Kind.{Kind}
use Rattle.iq_cells.specs.Packed.{value_at}
use Rattle.iq_hg_leaves.specs.Entries.{IsEntry}
use Rattle.iq_hg_leaves.proofs.Joined.{list_push, pair}
use Rattle.iq_hg_leaves.proofs.entries.Entries.push_cell.Goals as goal

pub invariant_of-self-in-Ok : goal.invariant_of-self-in-Ok
invariant_of-self-in-Ok c =
    let v = value_at c.args.i c.args.cells.now.values in
    let here : IsEntry c.args.cells.now.kind (pair v c.args.row) = record { of_kind = c.cell-cell.ensures.cell.of_kind; utf8 = c.cell-cell.ensures.cell.utf8; filled = c.requires.filled; small = omega arith } in
    let one : IsEntry c.args.self.now.kind (pair v c.args.row) = subst (λ (k : Kind). IsEntry k (pair v c.args.row)) c.requires.kind here in
    (list_push _ _ _ c.self.invariant c.self.view_is v c.args.row _ _ one c.in-Ok.ensures.ok c.in_ok-push.ensures.items).0

pub returns-in-Ok : goal.returns-in-Ok
returns-in-Ok c =
    let v = value_at c.args.i c.args.cells.now.values in
    let here : IsEntry c.args.cells.now.kind (pair v c.args.row) = record { of_kind = c.cell-cell.ensures.cell.of_kind; utf8 = c.cell-cell.ensures.cell.utf8; filled = c.requires.filled; small = omega arith } in
    let one : IsEntry c.args.self.now.kind (pair v c.args.row) = subst (λ (k : Kind). IsEntry k (pair v c.args.row)) c.requires.kind here in
    (list_push _ _ _ c.self.invariant c.self.view_is v c.args.row _ _ one c.in-Ok.ensures.ok c.in_ok-push.ensures.items).1
