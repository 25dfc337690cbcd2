use Rattle.std.proofs.Common.{◌≡◌, ◌<◌, ◌/◌, ℕ, inr, refl, ap, arith}
use Rattle.std.proofs.Math.Nat.{div-le_self}
use Rattle.std.proofs.lemmas.Grind.{rows}
use Rattle.iq_base.specs.Cells.{width}
use Rattle.iq_pieces.specs.Counts.{per_page, pages_for}
use Rattle.iq_fp.proofs.Chosen.{page_within}
use Rattle.iq_fp.proofs.Growth.{none_stands}
use Rattle.iq_fp.proofs.planning.distinct_values.Goals as goal

pub overflow_cast-page : goal.overflow_cast-page
overflow_cast-page g c =
    let r = rw c.in-Some.is at c.in_ok-first_repeat.ensures in
    omega (arith, r.0, c.in_ok-known.ensures.long, div-le_self c.in-Some.place (1008 / c.width.result))

pub returns-in-Some-clause-cause : goal.returns-in-Some-clause-cause
returns-in-Some-clause-cause g c =
    let r = rw c.in-Some.is at c.in_ok-first_repeat.ensures in
    let fp = c.args.fp.now in
    let per : 1008 / c.width.result ≡ per_page (width fp.kind) = ap (λ (n : ℕ). 1008 / n) c.width.ensures.value in
    let positive : 0 < 1008 / c.width.result = grind (arith, rows) in
    let less : c.in-Some.place < fp.distinct = omega (arith, r.0, c.in_ok-known.ensures.long) in
    let needed : c.in-Some.place / (1008 / c.width.result) < pages_for (width fp.kind) fp.distinct =
    rw per (page_within (per_page (width fp.kind)) c.in-Some.place fp.distinct (pages_for (width fp.kind) fp.distinct) (omega (arith, per, positive)) refl less) in
    inr (refl, needed, none_stands _ _ _ c.in_ok-known.ensures.known r.1)
