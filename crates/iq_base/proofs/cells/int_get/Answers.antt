use Rattle.std.proofs.Common.{rules, ◌∙◌, FitsSigned, w32, w64}
use Rattle.std.proofs.lemmas.Int.{to_z-of_z}
use Rattle.iq_base.proofs.CellBytes.{bytes_of_int}
use Rattle.iq_base.proofs.cells.int_get.Goals as goal

pub returns-clause-bytes : goal.returns-clause-bytes
returns-clause-bytes c =
    let in_64 : FitsSigned w64 c.from.result = search rules in
    let in_32 : FitsSigned w32 c.read_i32.result = search rules in
    bytes_of_int c.args.from.now _ c.requires (search rules) (to_z-of_z w64 _ in_64 ∙ c.from.ensures ∙ to_z-of_z w32 _ in_32 ∙ c.read_i32.ensures)
