use Rattle.std.proofs.Common.{refl}
use Rattle.iq_fp.proofs.Growth.{all_are}
use Rattle.iq_fp.proofs.expanding.read_coded.Goals as goal

pub returns-clause-values : goal.returns-clause-values
returns-clause-values g c =
    let fp = c.args.fp.now in
    all_are fp (g.S.PageSource.told c.args.source.now) (g.S.PageSource.told c.known_values.new.source) _ _ _
    (c.known_values.ensures.reads.kept.told fp.codes) (c.known_values.ensures.reads.kept.told fp.values)
    c.in_ok-known.ensures.known c.in_ok-codes.ensures.codes refl
