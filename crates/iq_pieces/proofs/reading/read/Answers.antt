use Rattle.std.proofs.Common.{◌≡◌, ◌<◌, ◌≤◌, ◌+◌, ◌*◌, ◌/◌, ℕ, length, Option, ap, ◌∙◌, subst, arith}
use Rattle.std.proofs.lemmas.Grind.{rows}
use Rattle.iq_pages.specs.Pages.{Pages}
use Rattle.iq_pieces.specs.Counts.{per_page}
use Rattle.iq_pieces.specs.Faults.{form_width}
use Rattle.iq_pieces.specs.Reading.{TakesPage}
use Rattle.iq_pieces.proofs.PagesTaken.{taken_long, first_next}
use Rattle.iq_pieces.proofs.Counting.{reads_on, begins_before}
use Rattle.iq_pieces.proofs.reading.read.Goals as goal

pub loop-p-preserved : goal.loop-p-preserved
loop-p-preserved g c =
    let w = form_width (g.T.Takes.form c.args.into.now) in
    let p = c.loop-p.p in
    let per : 1008 / c.width-per.result ≡ per_page w = ap (λ (n : ℕ). 1008 / n) c.width-per.ensures.value in
    let base : 1008 / c.width-per.result * p ≡ per_page w * p = ap (λ (n : ℕ). n * p) per in
    let positive : 0 < 1008 / c.width-per.result = grind (arith, rows) in
    let before : 1008 / c.width-per.result * p < c.args.count = begins_before (1008 / c.width-per.result) c.args.count p c.div_ceil-p-end.result positive c.div_ceil-p-end.ensures c.loop-p-test.true in
    let wide : form_width (g.T.Takes.form c.loop-p.into) ≡ w = ap form_width c.loop-p.invariant.form in
    let t : TakesPage (g.S.PageSource.told c.args.source.now c.args.object) w p c.min-here.result (g.T.Takes.taken c.loop-p.into) (g.T.Takes.taken c.take_page.new.into) =
    subst (λ (told : Option Pages). TakesPage told w p c.min-here.result (g.T.Takes.taken c.loop-p.into) (g.T.Takes.taken c.take_page.new.into)) (c.loop-p.invariant.reads.kept.told c.args.object)
    (subst (λ (n : ℕ). TakesPage (g.S.PageSource.told c.loop-p.source c.args.object) n p c.min-here.result (g.T.Takes.taken c.loop-p.into) (g.T.Takes.taken c.take_page.new.into)) wide c.in_ok-take_page.ensures.ok) in
    let size = taken_long _ _ _ _ _ _ t in
    let fits : c.min-here.result ≤ per_page w = omega (arith, c.min-here.ensures, per) in
    let long : length (g.T.Takes.taken c.loop-p.into) ≡ per_page w * p = omega (arith, c.loop-p.invariant.long, before, base) in
    record {
      form = c.take_page.ensures.form ∙ c.loop-p.invariant.form;
      long = omega (arith, size, c.loop-p.invariant.long, c.min-here.ensures, before);
      first = first_next _ _ _ _ _ _ fits long t c.loop-p.invariant.first;
      reads = reads_on p 1 (p + 1) _ _ _ (omega arith) c.loop-p.invariant.reads c.take_page.ensures.reads;
    }
