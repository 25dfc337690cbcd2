use Rattle.std.proofs.Common.{◌≡◌, ◌<◌, ◌/◌, ◌%◌, ℕ, length, ap, ◌∙◌, arith}
use Rattle.std.proofs.lemmas.Grind.{rows}
use Rattle.iq_base.specs.Cells.{width}
use Rattle.iq_pieces.specs.Counts.{per_page}
use Rattle.iq_fp.proofs.Growth.{last_begins}
use Rattle.iq_lf.proofs.known.last_page.Goals as goal

pub returns : goal.returns
returns c =
    let known = c.args.known.now in
    let wide : c.width-per.result ≡ width known.kind = c.width-per.ensures.value ∙ ap width c.kind.ensures in
    let per : 1008 / c.width-per.result ≡ per_page (width known.kind) = ap (λ (n : ℕ). 1008 / n) wide in
    let positive : 0 < 1008 / c.width-per.result = grind (arith, rows) in
    let some : 0 < per_page (width known.kind) = omega (arith, per, positive) in
    let count : c.len-count.result ≡ length known.values = c.len-count.ensures in
    let first : c.len-count.result % (1008 / c.width-per.result) ≡ c.len-count.result % per_page (width known.kind) = ap (λ (n : ℕ). c.len-count.result % n) per in
    rw count at (last_begins known.kind known.values c.put_in_page.new.page c.len-count.result _ some (omega (arith, count)) first c.put_in_page.ensures.here)
