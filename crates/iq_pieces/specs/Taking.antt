-- Why the pieces of a page aren't taken in.
use Rattle.std.specs.Prelude.{ℕ, List, ⊤}
use Rattle.iq_pieces.specs.declared.taking.PieceFault.{PieceFault}
use Rattle.iq_pieces.specs.declared.taking.PieceFault.TheVariants.{BadPiece, NoMemory}
use Rattle.iq_pieces.specs.Faults.{Form, ArePieces}

-- a bad piece is answered only where the first pieces aren't all of the form
abbrev pub HasPieceCause : Form → List ℕ → ℕ → PieceFault → Type 0
HasPieceCause form page n BadPiece = ¬ (ArePieces form page n)
HasPieceCause form page n NoMemory = ⊤
