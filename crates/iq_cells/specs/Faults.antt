-- Why cells of a page aren't taken in.
use Rattle.std.specs.Prelude.{ℕ, List, ⊤}
use Rattle.iq_base.specs.declared.values.Kind.{Kind}
use Rattle.iq_cells.specs.declared.cells.CellsFault.{CellsFault}
use Rattle.iq_cells.specs.declared.cells.CellsFault.TheVariants.{BadCell, NoMemory}
use Rattle.iq_cells.specs.Packed.{AreCells}

-- a bad cell is answered only where the first cells aren't those of values of the kind
abbrev pub HasCellsCause : Kind → List ℕ → ℕ → CellsFault → Type 0
HasCellsCause kind bytes n BadCell = ¬ (AreCells kind bytes n)
HasCellsCause kind bytes n NoMemory = ⊤
