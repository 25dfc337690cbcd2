use Rattle.std.proofs.Common.{ap, ◌∙◌}
use Rattle.iq_base.specs.declared.values.Value.{Value}
use Rattle.iq_base.specs.Cells.{IsCell}
use Rattle.iq_cells.specs.Packed.{value_at, value_of_cell}
use Rattle.iq_cells.specs.Orders.{value_order}
use Rattle.iq_cells.proofs.CellValues.{cell_is, value_is}
use Rattle.iq_cells.proofs.cells.Cells.compare.Goals as goal

pub cell_order-requires-clause-a : goal.cell_order-requires-clause-a
cell_order-requires-clause-a c =
    let here : IsCell c.kind.result (value_at c.args.i c.args.self.now.values) c.cell.result.now = rw c.kind.ensures c.cell.ensures.cell in
    cell_is _ _ _ here

pub cell_order-requires-clause-b : goal.cell_order-requires-clause-b
cell_order-requires-clause-b c =
    let there : IsCell c.kind-2.result (value_at c.args.j c.args.other.now.values) c.cell-2.result.now = rw c.kind-2.ensures c.cell-2.ensures.cell in
    cell_is _ _ _ there

pub returns : goal.returns
returns c =
    let here : IsCell c.kind.result (value_at c.args.i c.args.self.now.values) c.cell.result.now = rw c.kind.ensures c.cell.ensures.cell in
    let there : IsCell c.kind-2.result (value_at c.args.j c.args.other.now.values) c.cell-2.result.now = rw c.kind-2.ensures c.cell-2.ensures.cell in
    c.cell_order.ensures
    ∙ ap (λ (v : Value). value_order v (value_of_cell c.kind-2.result c.cell-2.result.now)) (value_is _ _ _ here)
    ∙ ap (value_order (value_at c.args.i c.args.self.now.values)) (value_is _ _ _ there)
