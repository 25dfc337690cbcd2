use Rattle.std.proofs.Common.{◌≡◌, ◌<◌, ◌/◌, ℕ, ap, sym, ◌∙◌, length, arith}
use Rattle.std.proofs.lemmas.List.{length-map}
use Rattle.std.proofs.lemmas.Grind.{rows}
use Rattle.std.proofs.lemmas.Result.{err_from_is_err_and}
use Rattle.iq_base.specs.Cells.{width, cell}
use Rattle.iq_cells.specs.Packed.{Column}
use Rattle.iq_pages.specs.PageCalls.{view}
use Rattle.iq_pieces.specs.Counts.{per_page}
use Rattle.iq_lf.proofs.Readings.{known_are, values_cause}
use Rattle.iq_lf.proofs.known.read_known.Goals as goal

pub returns-clause-known : goal.returns-clause-known
returns-clause-known g c = λ values stands.
    let base : c.new-known.result.kind ≡ c.args.lf.now.kind = ap (λ (column : Column). column.kind) c.new-known.ensures in
    let form = c.read.ensures.form in
    let kind : c.read.new.into.kind ≡ c.args.lf.now.kind = cc in
    let long : length c.read.new.into.values ≡ c.args.lf.now.distinct = sym (length-map c.read.new.into.values (cell c.read.new.into.kind)) ∙ c.in_ok-read.ensures.long in
    known_are c.args.lf.now (g.S.PageSource.told c.args.source.now) values c.read.new.into.values stands
    (rw kind at c.have_cells.ensures) long (rw (kind, base) at c.in_ok-read.ensures.first)

pub returns-in_err-read-clause-cause : goal.returns-in_err-read-clause-cause
returns-in_err-read-clause-cause g c =
    let lf = c.args.lf.now in
    let p = err_from_is_err_and c.from_residual.result c.from_residual.ensures.1 in
    let base : c.new-known.result.kind ≡ lf.kind = ap (λ (column : Column). column.kind) c.new-known.ensures in
    let per : 1008 / c.width-width.result ≡ per_page (width lf.kind) = ap (λ (n : ℕ). 1008 / n) c.width-width.ensures.value in
    let positive : 0 < 1008 / c.width-width.result = grind (arith, rows) in
    rw (p.1, p.2) (values_cause lf (view g.S.PageSource c.args.source.now) (view g.S.PageSource c.read.new.source) c.in_err-read.field-0.0 (omega (arith, per, positive)) (rw base at c.in_err-read.ensures.cause))
