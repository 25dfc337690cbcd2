use Rattle.std.proofs.Common.{ap, ◌∙◌}
use Rattle.iq_fp.specs.Scans.{decoded}
use Rattle.iq_fp.proofs.fp.Fp.all_cells.Goals as goal

pub returns-clause-values : goal.returns-clause-values
returns-clause-values g c = λ values stands.
    c.in_ok-expanded.ensures.values ∙ ap (decoded c.in_ok-coded.coded.known.values) c.deref.ensures.value ∙ c.in_ok-coded.ensures.values values stands
