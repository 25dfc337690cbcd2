use Rattle.std.proofs.Common.{sym}
use Rattle.std.proofs.lemmas.Result.{err_from_is_err_and}
use Rattle.iq_pages.specs.PageCalls.{view}
use Rattle.iq_lf.proofs.Readings.{stands_still, cause_since}
use Rattle.iq_lf.proofs.WriteLaws.{numbered_still}
use Rattle.iq_lf.proofs.lf.Lf.append.Goals as goal

pub returns-in_err-write-clause-cause : goal.returns-in_err-write-clause-cause
returns-in_err-write-clause-cause g c =
    let lf = c.args.self.now in
    let kept = c.numbering.ensures.reads.kept.told in
    let p = err_from_is_err_and c.from_residual-in_err-write.result c.from_residual-in_err-write.ensures.1 in
    let n = numbered_still lf (g.S.PageSource.told c.args.sink.now) (g.S.PageSource.told c.numbering.new.source) c.args.cells.now.values _ _ _ (sym (kept lf.first)) (sym (kept lf.second)) (sym (kept lf.third)) c.in_ok-numbering.ensures.numbered in
    rw (p.1, p.2) (cause_since lf (view g.S.PageSource c.args.sink.now) (view g.S.PageSource c.numbering.new.source) (view g.S.PageSource c.write.new.sink) c.in_err-write.field-0.0 c.numbering.ensures.reads.kept c.numbering.ensures.reads.later (c.in_err-write.ensures.cause c.args.cells.now.values n))

pub returns-clause-ok : goal.returns-clause-ok
returns-clause-ok g c =
    let lf = c.args.self.now in
    let kept = c.numbering.ensures.reads.kept.told in
    let n = numbered_still lf (g.S.PageSource.told c.args.sink.now) (g.S.PageSource.told c.numbering.new.source) c.args.cells.now.values _ _ _ (sym (kept lf.first)) (sym (kept lf.second)) (sym (kept lf.third)) c.in_ok-numbering.ensures.numbered in
    λ values stands. c.in_ok-write.ensures.ok c.args.cells.now.values n values (stands_still lf (g.S.PageSource.told c.args.sink.now) (g.S.PageSource.told c.numbering.new.source) values (kept lf.first) (kept lf.second) (kept lf.third) stands)
