use Rattle.std.proofs.Common.{rules, ◌∙◌, FitsSigned, w64}
use Rattle.std.proofs.lemmas.Int.{to_z-of_z}
use Rattle.iq_base.proofs.CellBytes.{bytes_of_big}
use Rattle.iq_base.proofs.cells.big_get.Goals as goal

pub returns-clause-bytes : goal.returns-clause-bytes
returns-clause-bytes c =
    let in_64 : FitsSigned w64 c.read_i64.result = search rules in
    bytes_of_big c.args.from.now _ c.requires (search rules) (to_z-of_z w64 _ in_64 ∙ c.read_i64.ensures)
