use Rattle.std.proofs.Common.{◌≡◌, ◌<◌, ◌≤◌, ◌-◌, true, false, ℕ, List, length, take, subst, ap, refl, inr, arith}
use Rattle.std.specs.List.{All}
use Rattle.std.proofs.lemmas.List.{get_or_read}
use Rattle.std.proofs.lemmas.Result.{err_from_is_err_and}
use Rattle.iq_pages.specs.PageCalls.{view}
use Rattle.iq_hg.specs.declared.places.Place.{Place}
use Rattle.iq_hg.specs.Bounds.{is_under}
use Rattle.iq_hg.specs.Places.{place_at}
use Rattle.iq_hg.specs.Search.{BeginsUnder}
use Rattle.iq_hg.proofs.SearchLaws.{places_on_way}
use Rattle.iq_hg.proofs.StartLaws.{start_first, start_in, no_start, places_room, cause_on_way}
use Rattle.iq_hg.proofs.hg.Hg.start.Goals as goal

pub returns-then-p-eq0-clause-start : goal.returns-then-p-eq0-clause-start
returns-then-p-eq0-clause-start g c = start_first c.args.self.now _ c.args.low.now c.pages-count.result (places_room _ _ c.width-width.ensures.value c.width-width.ensures.small.1) c.pages-count.ensures.told
    (λ h. subst (λ (n : ℕ). BeginsUnder c.args.self.now (g.S.PageSource.told c.args.source.now) c.args.low.now n false) c.if-p-eq0.true (c.in_ok-p.ensures.edge.1 (omega (arith, c.pages-count.ensures.count, c.if-p-eq0.true))))

pub places-requires : goal.places-requires
places-requires g c =
    let reads = c.pages_under.ensures.reads 32 (omega (arith, c.pages-count.ensures.count)) in
    omega (arith, reads.kept.counts c.args.self.now.directory, c.in_ok-p.ensures.within, c.if-p-eq0.false)

pub returns-in_err-places-clause-cause : goal.returns-in_err-places-clause-cause
returns-in_err-places-clause-cause g c =
    let reads = c.pages_under.ensures.reads 32 (omega (arith, c.pages-count.ensures.count)) in
    let p = err_from_is_err_and c.from_residual-in_err-places.result c.from_residual-in_err-places.ensures.1 in
    rw (p.1, p.2) (cause_on_way c.args.self.now (view g.S.PageSource c.args.source.now) (view g.S.PageSource c.pages_under.new.source) (view g.S.PageSource c.places.new.source) c.in_err-places.field-0.0 reads.kept reads.later c.in_err-places.ensures.cause)

pub returns-then-n-eq0-clause-cause : goal.returns-then-n-eq0-clause-cause
returns-then-n-eq0-clause-cause g c =
    let reads = c.pages_under.ensures.reads 32 (omega (arith, c.pages-count.ensures.count)) in
    let gives = places_on_way c.args.self.now (view g.S.PageSource c.args.source.now) (view g.S.PageSource c.pages_under.new.source) (c.in_ok-p.p - 1) c.in_ok-places.places.items reads.kept c.in_ok-places.ensures.places in (
      inr refl,
      no_start c.args.self.now _ c.args.low.now c.pages-count.result c.in_ok-p.p c.count_under-n.result c.in_ok-places.places.items (places_room _ _ c.width-width.ensures.value c.width-width.ensures.small.1) c.pages-count.ensures.told (omega (arith, c.if-p-eq0.false)) (omega (arith, c.in_ok-p.ensures.within, c.pages-count.ensures.count)) (c.in_ok-p.ensures.edge.0 (omega (arith, c.if-p-eq0.false))) gives c.if-n-eq0.true
          (subst (λ (ps : List Place). c.count_under-n.result < length ps → is_under c.args.low.now (place_at c.count_under-n.result ps).first.value ≡ false) c.deref.ensures.value c.count_under-n.ensures.next),
    )

pub returns-clause-start : goal.returns-clause-start
returns-clause-start g c =
    let reads = c.pages_under.ensures.reads 32 (omega (arith, c.pages-count.ensures.count)) in
    let gives = places_on_way c.args.self.now (view g.S.PageSource c.args.source.now) (view g.S.PageSource c.pages_under.new.source) (c.in_ok-p.p - 1) c.in_ok-places.places.items reads.kept c.in_ok-places.ensures.places in
    let n = c.count_under-n.result in
    let within = subst (λ (ps : List Place). n ≤ length ps) c.deref.ensures.value c.count_under-n.ensures.within in
    let there : n - 1 < length c.in_ok-places.places.items = omega (arith, within, c.if-n-eq0.false) in
    start_in c.args.self.now _ c.args.low.now c.pages-count.result c.in_ok-p.p n _ c.in_ok-places.places.items (places_room _ _ c.width-width.ensures.value c.width-width.ensures.small.1) c.pages-count.ensures.told (omega (arith, c.if-p-eq0.false))
    (λ h. c.in_ok-p.ensures.edge.1 (omega (arith, c.pages-count.ensures.count))) gives (omega (arith, c.if-n-eq0.false)) within
    (subst (λ (ps : List Place). All (λ (q : Place). is_under c.args.low.now q.first.value ≡ true) (take n ps)) c.deref.ensures.value c.count_under-n.ensures.under)
    (subst (λ (ps : List Place). n < length ps → is_under c.args.low.now (place_at n ps).first.value ≡ false) c.deref.ensures.value c.count_under-n.ensures.next)
    (ap (λ (q : Place). q.page) (get_or_read c.in_ok-places.places.items (n - 1) _ there c.index.ensures _))
