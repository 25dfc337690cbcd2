use Rattle.std.proofs.Common.{◌≡◌, ◌<◌, ◌/◌, ◌%◌, ◌*◌, ◌-◌, ℕ, inr, refl, ap, sym, subst, arith}
use Rattle.std.proofs.lemmas.Grind.{rows}
use Rattle.iq_base.specs.Cells.{width}
use Rattle.iq_pages.specs.Pages.{IsPageOf}
use Rattle.iq_pieces.specs.Counts.{per_page, pages_for}
use Rattle.iq_fp.proofs.Chosen.{page_within}
use Rattle.iq_pieces.specs.Faults.{CellsOf}
use Rattle.iq_fp.proofs.OnPages.{value_there, unsound_piece, values_unread}
use Rattle.iq_pages.specs.PageCalls.{view}
use Rattle.std.proofs.lemmas.Result.{err_from_is_err_and}
use Rattle.iq_fp.proofs.one_row.known_value.Goals as goal

pub returns-in_err-read_page-clause-cause : goal.returns-in_err-read_page-clause-cause
returns-in_err-read_page-clause-cause g c =
    let fp = c.args.fp.now in
    let count = 1008 / c.width-per.result in
    let per : count ≡ per_page (width fp.kind) = ap (λ (n : ℕ). 1008 / n) c.width-per.ensures.value in
    let positive : 0 < count = grind (arith, rows) in
    let needed : c.args.code / count < pages_for (width fp.kind) fp.distinct =
    rw per (page_within (per_page (width fp.kind)) c.args.code fp.distinct (pages_for (width fp.kind) fp.distinct) (omega (arith, per, positive)) refl c.requires) in
    let p = err_from_is_err_and c.from_residual.result c.from_residual.ensures.1 in
    rw (p.1, p.2) (values_unread fp (c.args.code / count) (view g.S.PageSource c.args.source.now) (view g.S.PageSource c.read_page.new.source) c.in_err-read_page.field-0.0 needed c.in_err-read_page.ensures.names c.in_err-read_page.ensures.cause)

pub returns-in-Ok-clause-value : goal.returns-in-Ok-clause-value
returns-in-Ok-clause-value g c = λ values stands.
    let fp = c.args.fp.now in
    let per : 1008 / c.width-per.result ≡ per_page (width fp.kind) = ap (λ (n : ℕ). 1008 / n) c.width-per.ensures.value in
    let positive : 0 < 1008 / c.width-per.result = grind (arith, rows) in
    value_there fp (g.S.PageSource.told c.args.source.now) values stands c.args.code _ _ (omega arith)
    (subst (λ (n : ℕ). IsPageOf (g.S.PageSource.told c.args.source.now fp.values) (c.args.code / n) c.read_page.new.into) per c.in_ok-read_page.ensures.ok)
    c.requires
    (rw per at c.in-Ok.ensures.ok)

pub returns-in-Err-clause-cause : goal.returns-in-Err-clause-cause
returns-in-Err-clause-cause g c =
    let fp = c.args.fp.now in
    let count = 1008 / c.width-per.result in
    let per : count ≡ per_page (width fp.kind) = ap (λ (n : ℕ). 1008 / n) c.width-per.ensures.value in
    let positive : 0 < count = grind (arith, rows) in
    let base : per_page (width fp.kind) * (c.args.code / count) ≡ count * (c.args.code / count) = ap (λ (n : ℕ). n * (c.args.code / count)) (sym per) in
    let small : c.args.code % count < count = omega arith in
    let rest : c.args.code % count < fp.distinct - count * (c.args.code / count) = omega (arith, c.requires) in
    let needed : c.args.code / count < pages_for (width fp.kind) fp.distinct =
    rw per (page_within (per_page (width fp.kind)) c.args.code fp.distinct (pages_for (width fp.kind) fp.distinct) (omega (arith, per, positive)) refl c.requires) in
    inr (refl, needed, unsound_piece (CellsOf fp.kind) fp.distinct (g.S.PageSource.told c.args.source.now fp.values) _ (c.args.code % count) _ c.in_ok-read_page.ensures.ok (omega (arith, per, base, small, rest)) c.in-Err.ensures.err)
