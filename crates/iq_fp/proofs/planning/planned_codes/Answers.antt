use Rattle.std.proofs.Common.{◌≢◌, sym, ◌∙◌}
use Rattle.std.proofs.lemmas.Result.{err_from_is_err_and}
use Rattle.iq_pages.specs.PageCalls.{view}
use Rattle.iq_pieces.specs.Faults.{HasBehindCause}
use Rattle.iq_fp.specs.Forms.{code_width}
use Rattle.iq_fp.proofs.Growth.{behind_cause}
use Rattle.iq_fp.proofs.planning.planned_codes.Goals as goal

pub returns-in_err-load_last-clause-cause : goal.returns-in_err-load_last-clause-cause
returns-in_err-load_last-clause-cause g c =
    let old = c.args.old.now in
    let p = err_from_is_err_and c.from_residual.result c.from_residual.ensures.1 in
    let cause : HasBehindCause (code_width old.distinct) old.slots old.codes (view g.S.PageSource c.args.source.now) (view g.S.PageSource c.load_last.new.source) c.in_err-load_last.field-0.0 = rw c.code_bytes-width.ensures at c.in_err-load_last.ensures.cause in
    rw (p.1, p.2) (behind_cause old (view g.S.PageSource c.args.source.now) (view g.S.PageSource c.load_last.new.source) c.in_err-load_last.field-0.0 cause)

pub returns-clause-below : goal.returns-clause-below
returns-clause-below g c = c.in_ok-codes.ensures.below c.args.new.now.distinct c.requires.more c.requires.below

pub returns-clause-codes : goal.returns-clause-codes
returns-clause-codes g c =
    let other : code_width c.args.new.now.distinct ≢ code_width c.args.old.now.distinct = λ e. c.if-code_bytes-width.false (c.code_bytes.ensures ∙ e ∙ sym c.code_bytes-width.ensures) in
    record {
      same = λ keeps. absurd (other keeps);
      last = λ keeps. absurd (other keeps);
      all = λ wider. c.in_ok-codes.ensures.codes;
      ends = c.in_ok-codes.ensures.ends;
    }
