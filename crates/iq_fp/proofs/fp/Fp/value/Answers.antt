use Rattle.std.proofs.lemmas.Result.{IfOk-weaker}
use Rattle.iq_fp.proofs.Growth.{value_of_row, stands_there}
use Rattle.iq_fp.proofs.fp.Fp.value.Goals as goal

pub returns-clause-value : goal.returns-clause-value
returns-clause-value g c =
    let fp = c.args.self.now in
    let before = g.S.PageSource.told c.args.source.now in
    let after = g.S.PageSource.told c.code_of.new.source in
    let kept = c.code_of.ensures.reads.kept.told in
    IfOk-weaker c.known_value.result _ _ (λ v known values stands.
    value_of_row fp before values stands c.args.row c.in_ok-code.code v c.requires (c.in_ok-code.ensures.code values stands) (known values (stands_there fp before after values (kept fp.codes) (kept fp.values) stands)))
    c.known_value.ensures.value
