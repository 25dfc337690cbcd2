use Rattle.std.proofs.lemmas.Result.{IfOk-weaker, IfErr-weaker}
use Rattle.iq_pages.specs.PageCalls.{view}
use Rattle.iq_lf.specs.Calls.{is_equal}
use Rattle.iq_lf.proofs.FindLaws.{hits_are}
use Rattle.iq_lf.proofs.Readings.{cause_since}
use Rattle.iq_lf.proofs.lf.Lf.equal.Goals as goal

pub returns-clause-rows : goal.returns-clause-rows
returns-clause-rows g c =
    let lf = c.args.self.now in
    let kept = c.read_known.ensures.reads.kept.told in
    IfOk-weaker c.marked.result _ _ (λ bits rows.
    hits_are lf (g.S.PageSource.told c.args.source.now) (g.S.PageSource.told c.read_known.new.source) (is_equal c.args.value.now) c.in_ok-read.read.values c.in_ok-known.known.values _ bits (kept lf.first) (kept lf.second) (kept lf.third) c.in_ok-read.ensures.known c.in_ok-known.ensures.values c.in_ok-hits.ensures (rw c.deref.ensures.value at rows))
    c.marked.ensures.rows

pub returns-clause-cause : goal.returns-clause-cause
returns-clause-cause g c = IfErr-weaker c.marked.result _ _ (λ fault h. cause_since c.args.self.now (view g.S.PageSource c.args.source.now) (view g.S.PageSource c.read_known.new.source) (view g.S.PageSource c.marked.new.source) fault c.read_known.ensures.reads.kept c.read_known.ensures.reads.later h) c.marked.ensures.cause
