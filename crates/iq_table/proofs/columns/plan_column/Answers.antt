use Rattle.std.proofs.Common.{◌≡◌, ◌<◌, ◌/◌, ℕ, inr, refl, ap, arith}
use Rattle.std.proofs.lemmas.Grind.{rows}
use Rattle.iq_base.specs.Cells.{width}
use Rattle.iq_pieces.specs.Counts.{per_page, pages_for}
use Rattle.iq_fp.proofs.Chosen.{page_within}
use Rattle.iq_table.proofs.Moves.{none_of_more}
use Rattle.iq_table.proofs.columns.plan_column.Goals as goal

pub returns-then-fp-clause-cause : goal.returns-then-fp-clause-cause
returns-then-fp-clause-cause g c =
    let fp = c.args.fp.now in
    let per : 1008 / c.width.result ≡ per_page (width fp.kind) = ap (λ (n : ℕ). 1008 / n) c.width.ensures.value in
    let positive : 0 < 1008 / c.width.result = grind (arith, rows) in
    let less : fp.slots < fp.distinct = omega (arith, c.if-fp.true) in
    let needed : fp.slots / (1008 / c.width.result) < pages_for (width fp.kind) fp.distinct =
    rw per (page_within (per_page (width fp.kind)) fp.slots fp.distinct (pages_for (width fp.kind) fp.distinct) (omega (arith, per, positive)) refl less) in
    inr (refl, needed, none_of_more fp _ less)
