use Rattle.iq_pieces.proofs.PiecesTaken.{cells_taken}
use Rattle.iq_pieces.proofs.taking.CellsTakes.take.Goals as goal

pub returns-in-Ok-clause-ok : goal.returns-in-Ok-clause-ok
returns-in-Ok-clause-ok c = cells_taken c.args.self.now c.extend_from_page.new.self c.args.page.now c.args.n c.in-Ok.ensures.cells c.in-Ok.ensures.ok
