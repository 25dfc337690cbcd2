use Rattle.std.proofs.Common.{ℕ, ◌<◌, ◌≤◌}
use Rattle.iq_base.specs.Cells.{width}
use Rattle.iq_table.specs.Places.{part_at}
use Rattle.iq_write.proofs.writing.cells_fit_pages.Given as goal

abbrev pub invariant-loop-part : goal.invariant-loop-part
invariant-loop-part l = (c : ℕ) → c < l.part-index → (2 ≤ width (part_at c l.parts).kind) × (width (part_at c l.parts).kind ≤ 257)
