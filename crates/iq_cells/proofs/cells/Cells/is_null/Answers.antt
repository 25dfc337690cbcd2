use Rattle.std.proofs.Common.{◌∙◌, sym}
use Rattle.iq_base.specs.Cells.{IsCell}
use Rattle.iq_cells.specs.Packed.{value_at}
use Rattle.iq_cells.proofs.CellValues.{cell_is, value_is}
use Rattle.iq_cells.proofs.cells.Cells.is_null.Goals as goal

pub is_null_cell-requires : goal.is_null_cell-requires
is_null_cell-requires c =
    let here : IsCell c.kind.result (value_at c.args.i c.args.self.now.values) c.cell.result.now = rw c.kind.ensures c.cell.ensures.cell in
    cell_is _ _ _ here

pub returns : goal.returns
returns c =
    let here : IsCell c.kind.result (value_at c.args.i c.args.self.now.values) c.cell.result.now = rw c.kind.ensures c.cell.ensures.cell in
    (λ h. sym (value_is _ _ _ here) ∙ c.is_null_cell.ensures.0 h, λ h. c.is_null_cell.ensures.1 (value_is _ _ _ here ∙ h))
