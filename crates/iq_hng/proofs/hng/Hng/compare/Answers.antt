use Rattle.std.proofs.Common.{rules, FitsSigned, w64}
use Rattle.std.proofs.lemmas.Int.{to_z-of_z}
use Rattle.iq_hng.specs.Ranges.{GivesRanged}
use Rattle.iq_hng.proofs.Ranges.{compared_by}
use Rattle.iq_hng.proofs.hng.Hng.compare.Goals as goal

pub returns-clause-rows : goal.returns-clause-rows
returns-clause-rows g c = λ values h.
    let n = c.args.number in
    let fits : FitsSigned w64 n = search rules in
    let rows : GivesRanged c.args.self.now (g.S.PageSource.told c.args.source.now) n n c.in_ok-ranged.ranged = rw (to_z-of_z w64 n fits) at c.in_ok-ranged.ensures.rows in
    compared_by n values c.in_ok-ranged.ranged (rows values h)
