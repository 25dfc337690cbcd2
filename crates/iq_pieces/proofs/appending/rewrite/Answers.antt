use Rattle.std.proofs.Common.{◌≡◌, ◌<◌, ◌/◌, ℕ, [], length, ap, arith}
use Rattle.std.proofs.lemmas.Grind.{rows}
use Rattle.std.proofs.lemmas.Result.{on_ok_weaker, IfErr-weaker}
use Rattle.iq_pages.specs.PageCalls.{view}
use Rattle.iq_pieces.specs.Counts.{per_page, pages_changed}
use Rattle.iq_pieces.proofs.PagesFilled.{holds_anew, nothing_behind}
use Rattle.iq_pieces.proofs.Counting.{counted_behind, counts_within, counts_up, own_cause, anew_dark}
use Rattle.iq_pieces.proofs.appending.rewrite.Goals as goal

pub returns-then-count-eq0-clause-ok : goal.returns-then-count-eq0-clause-ok
returns-then-count-eq0-clause-ok g c =
    let w = g.P.Pieces.width c.args.items.now in
    let per : 1008 / c.width-width.result ≡ per_page w = ap (λ (n : ℕ). 1008 / n) c.width-width.ensures.value in
    let positive : 0 < 1008 / c.width-width.result = grind (arith, rows) in
    let some : 0 < per_page w = omega (arith, per, positive) in
    let none : length (g.P.Pieces.pieces c.args.items.now) ≡ 0 = omega arith in
    holds_anew w [] (g.P.Pieces.pieces c.args.items.now) _ _ _ some c.in_ok-new_object.ensures.done.told_here (nothing_behind w [] (g.P.Pieces.pieces c.args.items.now) _ none)

pub returns-clause-ok : goal.returns-clause-ok
returns-clause-ok g c =
    let w = g.P.Pieces.width c.args.items.now in
    let per : 1008 / c.width-width.result ≡ per_page w = ap (λ (n : ℕ). 1008 / n) c.width-width.ensures.value in
    let positive : 0 < 1008 / c.width-width.result = grind (arith, rows) in
    let some : 0 < per_page w = omega (arith, per, positive) in
    on_ok_weaker c.fill_pages.result
    (holds_anew w _ (g.P.Pieces.pieces c.args.items.now) _ _ _ some c.in_ok-new_object.ensures.done.told_here)
    c.fill_pages.ensures.ok

pub returns-clause-written : goal.returns-clause-written
returns-clause-written g c =
    on_ok_weaker c.fill_pages.result
    (counted_behind _ _ _ _ c.in_ok-new_object.ensures.writes)
    c.fill_pages.ensures.written

pub returns-clause-cause : goal.returns-clause-cause
returns-clause-cause g c =
    IfErr-weaker c.fill_pages.result _ _
    (λ fault. own_cause c.args.object (view g.S.PageSource c.args.sink.now) (view g.S.PageSource c.new_object.new.self) (view g.S.PageSource c.fill_pages.new.sink) fault (anew_dark _ _ c.in_ok-new_object.ensures.done.told_here) c.new_object.ensures.later)
    c.fill_pages.ensures.cause

pub returns-then-count-eq0-clause-unwritten : goal.returns-then-count-eq0-clause-unwritten
returns-then-count-eq0-clause-unwritten g c = counts_within 0 _ _ _ (omega arith) c.in_ok-new_object.ensures.writes

pub returns-clause-unwritten : goal.returns-clause-unwritten
returns-clause-unwritten g c =
    let n = pages_changed (g.P.Pieces.width c.args.items.now) 0 (length (g.P.Pieces.pieces c.args.items.now)) in
    counts_up 0 n n _ _ _ (omega arith) (counts_within 0 0 _ _ (omega arith) c.in_ok-new_object.ensures.writes) c.fill_pages.ensures.unwritten
