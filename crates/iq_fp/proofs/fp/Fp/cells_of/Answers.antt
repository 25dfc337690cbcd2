use Rattle.std.proofs.lemmas.Result.{IfOk-weaker}
use Rattle.iq_cells.specs.Packed.{Column}
use Rattle.iq_fp.proofs.Chosen.{chosen_are}
use Rattle.iq_fp.proofs.fp.Fp.cells_of.Goals as goal

pub returns-clause-values : goal.returns-clause-values
returns-clause-values g c =
    let fp = c.args.self.now in
    let kept = c.known_values.ensures.reads.kept.told in
    IfOk-weaker c.chosen.result _ _ (λ (cells : Column) values.
    chosen_are fp (g.S.PageSource.told c.args.source.now) (g.S.PageSource.told c.known_values.new.source) c.args.rows.now c.in_ok-known.known.values cells.values c.requires (kept fp.codes) (kept fp.values) c.in_ok-known.ensures.known values)
    c.chosen.ensures.values
