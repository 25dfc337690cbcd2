use Rattle.std.proofs.Common.{◌<◌, length, ap, ◌∙◌, refl, inr, arith}
use Rattle.std.proofs.lemmas.List.{get_or_read}
use Rattle.iq_hg.specs.declared.places.Place.{Place}
use Rattle.iq_hg.specs.Bounds.{is_under}
use Rattle.iq_hg.proofs.SearchLaws.{begins, page_some}
use Rattle.iq_hg.proofs.StartLaws.{places_room}
use Rattle.iq_hg.proofs.hg.Hg.begins_under.Goals as goal

pub returns-then-len-eq0-clause-cause : goal.returns-then-len-eq0-clause-cause
returns-then-len-eq0-clause-cause g c = (inr refl, page_some c.args.self.now _ c.args.p c.pages-count.result c.in_ok-places.places.items (places_room _ _ c.width-width.ensures.value c.width-width.ensures.small.1) c.pages-count.ensures.told (omega (arith, c.pages-count.ensures.count, c.requires)) c.in_ok-places.ensures.places (omega (arith, c.len.ensures, c.if-len-eq0.true)))

pub returns-clause-ok : goal.returns-clause-ok
returns-clause-ok g c =
    let some : 0 < length c.in_ok-places.places.items = omega (arith, c.len.ensures, c.if-len-eq0.false) in
    begins c.args.self.now _ c.args.low.now c.args.p c.in_ok-places.places.items _ c.in_ok-places.ensures.places some
    (c.is_under.ensures ∙ ap (λ (q : Place). is_under c.args.low.now q.first.value) (get_or_read c.in_ok-places.places.items 0 _ some c.index.ensures _))
