use Rattle.std.proofs.Common.{ap, ◌∙◌}
use Rattle.iq_base.specs.declared.values.Value.{Value}
use Rattle.iq_base.specs.Cells.{IsCell}
use Rattle.iq_cells.specs.Packed.{value_at}
use Rattle.iq_cells.specs.Orders.{value_order}
use Rattle.iq_cells.proofs.CellValues.{cell_is, value_is}
use Rattle.iq_cells.proofs.cells.Cells.compare_to.Goals as goal

pub cell_to_value-requires : goal.cell_to_value-requires
cell_to_value-requires c =
    let here : IsCell c.kind.result (value_at c.args.i c.args.self.now.values) c.cell.result.now = rw c.kind.ensures c.cell.ensures.cell in
    cell_is _ _ _ here

pub returns : goal.returns
returns c =
    let here : IsCell c.kind.result (value_at c.args.i c.args.self.now.values) c.cell.result.now = rw c.kind.ensures c.cell.ensures.cell in
    c.cell_to_value.ensures ∙ ap (λ (v : Value). value_order v c.args.value.now) (value_is _ _ _ here)
