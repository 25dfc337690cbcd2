use Rattle.std.proofs.Common.{refl, arith}
use Rattle.std.proofs.lemmas.Result.{err_from_is_err_and}
use Rattle.iq_descriptors.proofs.ReadLemmas.{read_fault_on, no_head}
use Rattle.iq_descriptors.proofs.reading.read_head.Goals as goal

pub returns-in_err-read_part-clause-cause : goal.returns-in_err-read_part-clause-cause
returns-in_err-read_part-clause-cause g c =
    let p = err_from_is_err_and c.from_residual.result c.from_residual.ensures.1 in
    rw (p.1, p.2) (read_fault_on _ _ c.in_err-read_part.field-0.0 _ _ _ _ _ _ refl (omega arith) (omega arith)
    (λ b all told bad. (bad.0, no_head all c.args.head bad.1)) c.in_err-read_part.ensures.cause)
