use Rattle.std.proofs.Common.{refl}
use Rattle.std.proofs.lemmas.Result.{err_from_is_err_and}
use Rattle.iq_plex.proofs.Asking.{noted_as}
use Rattle.iq_plex.proofs.Goes.{goes_nowhere}
use Rattle.iq_plex.proofs.Stepping.{lock_does, lock_goes, note_goes, note_refused, lock_refused}
use Rattle.iq_plex.proofs.plex.Plex.lock.Goals as goal

pub returns-in_err-lock-clause-on : goal.returns-in_err-lock-clause-on
returns-in_err-lock-clause-on c = rw c.in_err-lock.ensures.unchanged (goes_nowhere c.args.self.now)

pub returns-in_err-lock-clause-refused : goal.returns-in_err-lock-clause-refused
returns-in_err-lock-clause-refused c =
    let p = err_from_is_err_and c.from_residual.result c.from_residual.ensures.1 in
    rw (p.1, p.2, c.in_err-lock.ensures.unchanged) (lock_refused c.args.self.now c.args.line c.args.write.now c.names_of.result c.in_err-lock.field-0.0 c.requires.named c.names_of.ensures c.in_err-lock.ensures.err)

pub returns-in_err-note_names-clause-on : goal.returns-in_err-note_names-clause-on
returns-in_err-note_names-clause-on c =
    rw (c.in_err-note_names.ensures.err, c.in_ok-lock.ensures.ok) (lock_goes c.args.self.now c.args.line c.args.write.now c.names_of.result c.requires.named c.names_of.ensures c.in_ok-lock.ensures.free)

pub returns-in_err-note_names-clause-refused : goal.returns-in_err-note_names-clause-refused
returns-in_err-note_names-clause-refused c =
    let p = err_from_is_err_and c.from_residual-in_err-note_names.result c.from_residual-in_err-note_names.ensures.1 in
    rw (p.1, p.2, c.in_err-note_names.ensures.err, c.in_ok-lock.ensures.ok) (note_refused c.args.self.now c.args.line c.args.write.now c.names_of.result c.requires.named c.names_of.ensures c.in_ok-lock.ensures.free)

pub returns-clause-on : goal.returns-clause-on
returns-clause-on c =
    let noted = noted_as c.args.self.now c.args.line c.args.write.now c.names_of.result c.note_names.new.self c.requires.named c.names_of.ensures c.in_ok-lock.ensures.free (rw c.in_ok-lock.ensures.ok at c.in_ok-note_names.ensures.ok) in
    rw noted (note_goes c.args.self.now c.args.line _ c.args.write.now c.names_of.result c.requires.named c.names_of.ensures c.in_ok-lock.ensures.free)

pub returns-clause-locked : goal.returns-clause-locked
returns-clause-locked c =
    let noted = noted_as c.args.self.now c.args.line c.args.write.now c.names_of.result c.note_names.new.self c.requires.named c.names_of.ensures c.in_ok-lock.ensures.free (rw c.in_ok-lock.ensures.ok at c.in_ok-note_names.ensures.ok) in
    rw noted (lock_does c.args.self.now c.args.line _ c.args.write.now c.names_of.result c.requires.named c.names_of.ensures c.in_ok-lock.ensures.free refl)
