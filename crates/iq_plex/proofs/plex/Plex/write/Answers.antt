use Rattle.std.proofs.lemmas.Result.{err_from_is_err_and}
use Rattle.iq_plex.proofs.Asking.{write_cause}
use Rattle.iq_plex.proofs.Stepping.{write_does, write_goes}
use Rattle.iq_plex.proofs.plex.Plex.write.Goals as goal

pub returns-in_err-rows-clause-refused : goal.returns-in_err-rows-clause-refused
returns-in_err-rows-clause-refused c =
    let p = err_from_is_err_and c.from_residual.result c.from_residual.ensures.1 in
    rw (p.1, p.2) (write_cause c.args.self.now c.write.new.self c.args.line c.args.write.now c.in_err-rows.field-0.0 c.requires.locked c.in_err-rows.ensures.placed c.in_err-rows.ensures.cause c.in_err-rows.ensures.unchanged)

pub returns-clause-on : goal.returns-clause-on
returns-clause-on c =
    rw c.done.ensures (write_goes c.args.self.now c.write.new.self c.args.line c.args.write.now _ c.requires.locked c.requires.run c.in_ok-rows.ensures.granted c.in_ok-rows.ensures.ok c.created_by.ensures)

pub returns-clause-done : goal.returns-clause-done
returns-clause-done c =
    rw c.done.ensures (λ what told. write_does c.args.self.now c.write.new.self c.args.line c.in_ok-rows.rows c.args.write.now _ what c.requires.locked c.requires.run c.in_ok-rows.ensures.granted c.in_ok-rows.ensures.ok c.created_by.ensures c.in_ok-rows.ensures.rows told)
