use Rattle.std.proofs.Common.{◌<◌, arith}
use Rattle.iq_script.proofs.Causes.{put_flaw}
use Rattle.iq_script.proofs.scripts.take_text.Goals as goal

pub returns-clause-fault : goal.returns-clause-fault
returns-clause-fault c =
    let room : c.args.reading.now.taken < 100000 = omega (arith, c.requires.lines, c.if-reading-eq-MOST_LINES.false) in
    put_flaw _ _ _ _ _ _ _ room c.in_ok-piece.ensures.utf8 c.in_ok-piece.ensures.found c.put.ensures
