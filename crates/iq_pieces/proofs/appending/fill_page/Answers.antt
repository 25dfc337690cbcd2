use Rattle.std.proofs.Common.{◌≡◌, ◌<◌, ◌+◌, ◌*◌, ◌/◌, ℕ, min, max, length, ap, arith}
use Rattle.std.proofs.lemmas.Grind.{rows}
use Rattle.std.proofs.lemmas.Result.{on_ok_weaker}
use Rattle.iq_pieces.specs.Counts.{per_page}
use Rattle.iq_pieces.proofs.Growing.{adds_between}
use Rattle.iq_pieces.proofs.appending.fill_page.Goals as goal

pub returns-clause-ok : goal.returns-clause-ok
returns-clause-ok g c =
    let w = g.P.Pieces.width c.args.items.now in
    let xs = g.P.Pieces.pieces c.args.items.now in
    let start = c.args.start in
    let p = c.args.p in
    let base : 1008 / c.width-per.result * p ≡ per_page w * p = ap (λ (n : ℕ). 1008 / n * p) c.width-per.ensures.value in
    let per : 1008 / c.width-per.result ≡ per_page w = ap (λ (n : ℕ). 1008 / n) c.width-per.ensures.value in
    let positive : 0 < 1008 / c.width-per.result = grind (arith, rows) in
    let room : 0 < per_page w = omega (arith, per, positive) in
    let from : c.max-from.result ≡ max start (per_page w * p) = omega (arith, c.max-from.ensures, base) in
    let to : c.min-to.result ≡ min (start + length xs) (per_page w * p + per_page w) = omega (arith, c.min-to.ensures, c.count.ensures, base, per) in
    on_ok_weaker c.save_page.result
    (adds_between w p start c.max-from.result c.min-to.result (1008 / c.width-per.result * p) _ _ c.args.page.now c.put.new.page xs room base from to c.requires.begins c.requires.ends c.requires.some c.put.ensures.before c.put.ensures.here)
    c.save_page.ensures.ok
