use Rattle.std.proofs.Common.{arith}
use Rattle.std.proofs.lemmas.Grind.{common_steps}
use Rattle.iq_base.specs.Cells.{IsCell}
use Rattle.iq_base.specs.declared.values.Value.TheVariants.{Text}
use Rattle.iq_base.proofs.CellLaws.{only_cell}
use Rattle.iq_base.proofs.cells.cell_get.Goals as goal

pub returns-in_ok-text_get-in-Varchar-clause-only :
    goal.returns-in_ok-text_get-in-Varchar-clause-only
returns-in_ok-text_get-in-Varchar-clause-only c =
    let here : IsCell c.args.kind (Text c.in_ok-text_get-in-Varchar.field-0) c.args.from.now = grind (arith, common_steps) in
    λ other is. only_cell _ _ _ _ here is
