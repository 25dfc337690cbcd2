use Rattle.std.proofs.Common.{◌≡◌, ◌<◌, ◌≤◌, ◌*◌, ◌+◌, ◌/◌, ◌∙◌, length, ap, subst, ℕ, arith}
use Rattle.std.proofs.lemmas.List.Elements.{All-get_or}
use Rattle.iq_base.specs.Cells.{width}
use Rattle.iq_hg_leaves.proofs.OnlyLeaf.{number_same}
use Rattle.iq_hg.specs.Places.{IsPlace, place_at}
use Rattle.iq_hg.proofs.PlaceBytes.{places_read, all_read, place_in, place_count, few_places}
use Rattle.iq_hg.proofs.directory_pages.read_places.Goals as goal

pub returns-in-None-clause-bad : goal.returns-in-None-clause-bad
returns-in-None-clause-bad c = λ ps p.
    let count : c.number_at-count.result ≡ length ps = number_same c.number_at-count.result (length ps) (omega arith) (few_places c.args.kind (length ps) p.fits) (c.number_at-count.ensures ∙ place_count c.args.kind c.args.page.now ps p) in
    let there : c.loop-i.i < length ps = omega (arith, c.loop-i-test.true, count) in
    let place : 4 + c.loop-i.i * (c.width-wide.result + 8) ≡ 4 + c.loop-i.i * (width c.args.kind + 8) = ap (λ (w : ℕ). 4 + c.loop-i.i * (w + 8)) c.width-wide.ensures.value in
    c.in-None.ensures.bad (place_at c.loop-i.i ps) (All-get_or (IsPlace c.args.kind) ps c.loop-i.i _ there p.each) (place_in c.args.kind c.args.page.now ps c.loop-i.i _ p there place)

pub loop-i-preserved : goal.loop-i-preserved
loop-i-preserved c =
    let next = places_read c.args.kind c.args.page.now c.loop-i.places.items c.push.new.self.items c.in-Some.place (c.width-wide.result + 8) c.loop-i.i (omega (arith, c.width-wide.ensures.value)) c.loop-i.invariant.long c.loop-i.invariant.read c.loop-i.invariant.each c.in_ok-push-in-Some.ensures.items c.in-Some.ensures.place c.in-Some.ensures.bytes in
    record { long = next.0; read = next.1; each = next.2 }

pub returns-clause-places : goal.returns-clause-places
returns-clause-places c = all_read c.args.kind c.args.page.now c.number_at-count.result _ c.loop-i.places.items (omega (arith, c.loop-i.invariant.long)) c.number_at-count.ensures c.loop-i.invariant.read c.loop-i.invariant.each
    (subst (λ (w : ℕ). c.number_at-count.result ≤ 1004 / (w + 8)) c.width-wide.ensures.value c.if-count-wide.false)
