use Rattle.std.proofs.Common.{sym, ◌∙◌}
use Rattle.iq_cells.proofs.FieldLaws.{number_fits}
use Rattle.iq_cells.proofs.cells.Cells.push_number.Goals as goal

pub push-requires : goal.push-requires
push-requires c = rw (← c.kind.ensures) (number_fits _ _ (sym c.number_cause.ensures ∙ c.in_default.is))
