use Rattle.std.proofs.Common.{refl, arith}
use Rattle.iq_fp.proofs.ColumnLaws.{begins}
use Rattle.iq_fp.proofs.fp.Fp.empty.Goals as goal

pub returns-clause-stands : goal.returns-clause-stands
returns-clause-stands c =
    let low = c.width-width.ensures.small.0 in
    let high = c.width-width.ensures.small.1 in
    begins _ (omega (arith, c.width-width.ensures.value)) (omega (arith, c.width-width.ensures.value)) refl refl
