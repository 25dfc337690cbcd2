use Rattle.std.proofs.lemmas.Result.{IfOk-weaker}
use Rattle.iq_fp.specs.Scans.{is_hit}
use Rattle.iq_fp.proofs.OnPages.{hits_are}
use Rattle.iq_fp.proofs.fp.Fp.scan.Goals as goal

pub returns-clause-rows : goal.returns-clause-rows
returns-clause-rows g c =
    let fp = c.args.self.now in
    let kept = c.known_values.ensures.reads.kept.told in
    IfOk-weaker c.marked.result _ _ (λ bits rows.
    hits_are fp (g.S.PageSource.told c.args.source.now) (g.S.PageSource.told c.known_values.new.source) (is_hit c.args.side c.args.test.now) c.in_ok-known.known.values _ bits (kept fp.codes) (kept fp.values) c.in_ok-known.ensures.known c.in_ok-hits.ensures (rw c.deref.ensures.value at rows))
    c.marked.ensures.rows
