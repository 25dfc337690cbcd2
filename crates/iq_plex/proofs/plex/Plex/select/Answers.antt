use Rattle.std.proofs.lemmas.Result.{err_from_is_err_and}
use Rattle.iq_plex.proofs.Asking.{query_cause}
use Rattle.iq_plex.proofs.Stepping.{query_does, query_goes}
use Rattle.iq_plex.proofs.plex.Plex.select.Goals as goal

pub returns-in_err-answer-clause-refused : goal.returns-in_err-answer-clause-refused
returns-in_err-answer-clause-refused c =
    let p = err_from_is_err_and c.from_residual.result c.from_residual.ensures.1 in
    rw (p.1, p.2) (query_cause c.args.self.now c.select.new.self c.args.line c.args.select.now c.in_err-answer.field-0.0 c.requires.begun c.in_err-answer.ensures.placed c.in_err-answer.ensures.cause c.select.ensures.unchanged)

pub returns-clause-on : goal.returns-clause-on
returns-clause-on c =
    rw c.done.ensures (query_goes c.args.self.now c.select.new.self c.args.line c.args.select.now c.in_ok-answer.answer c.requires.begun c.in_ok-answer.ensures.granted c.select.ensures.unchanged c.in_ok-answer.ensures.answer)

pub returns-clause-done : goal.returns-clause-done
returns-clause-done c =
    rw c.done.ensures (query_does c.args.self.now c.select.new.self c.args.line c.args.select.now c.in_ok-answer.answer c.requires.begun c.in_ok-answer.ensures.granted c.select.ensures.unchanged c.in_ok-answer.ensures.answer)
