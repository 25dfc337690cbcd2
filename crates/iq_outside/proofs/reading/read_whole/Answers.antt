use Rattle.std.proofs.Common.{◌++◌, take, arith, length-append, length-take}
use Rattle.std.proofs.lemmas.Result.{err_from_is_err_and}
use Rattle.iq_outside.proofs.StreamLemmas.{Takes-Takes}
use Rattle.iq_outside.proofs.reading.read_whole.Goals as goal

-- what had come, and then the piece with the one byte that is too much
pub returns-in-Ok-clause-came : goal.returns-in-Ok-clause-came
returns-in-Ok-clause-came g c =
    let piece = take c.in-Ok.n c.read_piece.new.piece in (
      c.reading.whole.items ++ piece,
      omega (arith, length-append c.reading.whole.items piece, length-take c.in-Ok.n c.read_piece.new.piece, c.in-Ok.ensures.within),
      Takes-Takes _ _ _ _ _ c.reading.invariant.taken c.in-Ok.ensures.taken,
    )

-- what had come, and then the piece for which there was no memory
pub returns-in_err-extend_from_slice-in-Ok-2-clause-came : goal.returns-in_err-extend_from_slice-in-Ok-2-clause-came
returns-in_err-extend_from_slice-in-Ok-2-clause-came g c =
    let p = err_from_is_err_and c.from_residual-in_err-extend_from_slice-in-Ok-2.result c.from_residual-in_err-extend_from_slice-in-Ok-2.ensures.1 in
    let piece = take c.in-Ok-2.n c.read_piece.new.piece in
    rw (p.1, p.2) (
      c.reading.whole.items ++ piece,
      omega (arith, length-append c.reading.whole.items piece, length-take c.in-Ok-2.n c.read_piece.new.piece, c.in-Ok-2.ensures.within),
      Takes-Takes _ _ _ _ _ c.reading.invariant.taken c.in-Ok-2.ensures.taken,
    )
