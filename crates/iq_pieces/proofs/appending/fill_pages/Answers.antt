use Rattle.std.proofs.Common.{◌≡◌, ◌≤◌, ◌<◌, ◌+◌, ◌-◌, ◌*◌, ◌/◌, ◌%◌, ℕ, min, length, ap, ◌∙◌, arith}
use Rattle.std.proofs.lemmas.Grind.{rows}
use Rattle.iq_pieces.specs.Counts.{per_page, pages_changed}
use Rattle.iq_pieces.proofs.PagesFilled.{behind_next, behind_all}
use Rattle.iq_pieces.proofs.Counting.{others_on, changed_some, counts_within, counted_next, begins_before, ends_behind, piece_before, page_within}
use Rattle.iq_pieces.proofs.appending.fill_pages.Goals as goal

pub loop-p-preserved : goal.loop-p-preserved
loop-p-preserved g c =
    let w = g.P.Pieces.width c.args.items.now in
    let xs = g.P.Pieces.pieces c.args.items.now in
    let start = c.args.start in
    let p = c.loop-p.p in
    let per : 1008 / c.width-per.result ≡ per_page w = ap (λ (n : ℕ). 1008 / n) c.width-per.ensures.value in
    let same : start / (1008 / c.width-per.result) ≡ start / per_page w = ap (λ (n : ℕ). start / n) per in
    let positive : 0 < 1008 / c.width-per.result = grind (arith, rows) in
    let some : 0 < per_page w = omega (arith, per, positive) in
    let from : start / per_page w ≤ p = omega (arith, c.loop-p.auto.p, same) in
    let end : c.div_ceil-p-end.result ≡ (start + length xs) / per_page w + min 1 ((start + length xs) % per_page w) = rw (per, c.count.ensures) at c.div_ceil-p-end.ensures in
    let begins : per_page w * p < start + length xs = begins_before (per_page w) (start + length xs) p c.div_ceil-p-end.result some end c.loop-p-test.true in
    let ends : start < per_page w * p + per_page w = piece_before (per_page w) start p some from in
    record {
      held = behind_next w start p xs begins ends _ _ _ _ _ from (rw same at c.loop-p.invariant.page) c.loop-p.invariant.held c.in_ok-fill_page.ensures.ok;
      dark = λ e. c.loop-p.invariant.dark (c.in_ok-fill_page.ensures.dark e);
      reached = c.in_ok-fill_page.ensures.count;
      others = others_on _ _ _ _ c.loop-p.invariant.others c.fill_page.ensures.others;
      reads = c.fill_page.ensures.reads ∙ c.loop-p.invariant.reads;
      written = counted_next p (start / (1008 / c.width-per.result)) _ _ _ c.loop-p.auto.p c.loop-p.invariant.written c.in_ok-fill_page.ensures.written;
      page = λ e. absurd (omega (arith, c.loop-p.auto.p));
      later = omega arith;
    }

pub returns-clause-ok : goal.returns-clause-ok
returns-clause-ok g c =
    let w = g.P.Pieces.width c.args.items.now in
    let xs = g.P.Pieces.pieces c.args.items.now in
    let start = c.args.start in
    let per : 1008 / c.width-per.result ≡ per_page w = ap (λ (n : ℕ). 1008 / n) c.width-per.ensures.value in
    let positive : 0 < 1008 / c.width-per.result = grind (arith, rows) in
    let some : 0 < per_page w = omega (arith, per, positive) in
    let end : c.div_ceil-p-end.result ≡ (start + length xs) / per_page w + min 1 ((start + length xs) % per_page w) = rw (per, c.count.ensures) at c.div_ceil-p-end.ensures in
    let inside : start / per_page w ≤ c.div_ceil-p-end.result = page_within (per_page w) start (length xs) c.div_ceil-p-end.result some end in
    let same : start / (1008 / c.width-per.result) ≡ start / per_page w = ap (λ (n : ℕ). start / n) per in
    let last : c.loop-p.p ≡ c.div_ceil-p-end.result = omega (arith, c.loop-p.auto.p-end, c.loop-p-test.false) in
    let up : per_page w * c.loop-p.p ≡ per_page w * c.div_ceil-p-end.result = ap (λ (n : ℕ). per_page w * n) last in
    let all : start + length xs ≤ per_page w * c.div_ceil-p-end.result = ends_behind (per_page w) (start + length xs) c.div_ceil-p-end.result some end in
    behind_all w start (per_page w * c.loop-p.p - start) c.args.last.now xs _ _ (omega arith) c.loop-p.invariant.held

pub returns-clause-written : goal.returns-clause-written
returns-clause-written g c =
    let w = g.P.Pieces.width c.args.items.now in
    let xs = g.P.Pieces.pieces c.args.items.now in
    let start = c.args.start in
    let per : 1008 / c.width-per.result ≡ per_page w = ap (λ (n : ℕ). 1008 / n) c.width-per.ensures.value in
    let positive : 0 < 1008 / c.width-per.result = grind (arith, rows) in
    let some : 0 < per_page w = omega (arith, per, positive) in
    let end : c.div_ceil-p-end.result ≡ (start + length xs) / per_page w + min 1 ((start + length xs) % per_page w) = rw (per, c.count.ensures) at c.div_ceil-p-end.ensures in
    let inside : start / per_page w ≤ c.div_ceil-p-end.result = page_within (per_page w) start (length xs) c.div_ceil-p-end.result some end in
    let same : start / (1008 / c.width-per.result) ≡ start / per_page w = ap (λ (n : ℕ). start / n) per in
    let last : c.loop-p.p ≡ c.div_ceil-p-end.result = omega (arith, c.loop-p.auto.p-end, c.loop-p-test.false) in
    let count : pages_changed w start (length xs) ≡ c.loop-p.p - start / (1008 / c.width-per.result) = changed_some w start (length xs) c.requires.some ∙ (omega arith) in
    rw count c.loop-p.invariant.written

pub returns-clause-unwritten : goal.returns-clause-unwritten
returns-clause-unwritten g c =
    let w = g.P.Pieces.width c.args.items.now in
    let xs = g.P.Pieces.pieces c.args.items.now in
    counts_within (pages_changed w c.args.start (length xs)) (pages_changed w c.args.start (length xs)) _ _ (omega arith) (returns-clause-written g c)
