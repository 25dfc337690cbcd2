use Rattle.std.proofs.Common.{sym, ◌∙◌, subst}
use Rattle.iq_query.specs.Calls.{AreWithin}
use Rattle.iq_query.proofs.Walks.{place_next, within_more, granted_next, plain_next}
use Rattle.iq_query.proofs.columns.named_places.Goals as goal

pub loop-item-preserved : goal.loop-item-preserved
loop-item-preserved c =
    let at = c.in_ok-place_in.ensures.place in (
      place_next c.args.columns.now c.args.items.now c.loop-item.item-index c.item-item.result c.in_ok-place_in.field-0 c.loop-item.places.items c.push.new.self.items c.loop-item-test.true c.item-item.is at c.loop-item.invariant.0 c.in_ok-push.ensures.items,
      subst (AreWithin _) (sym c.in_ok-push.ensures.items) (within_more _ c.loop-item.places.items c.in_ok-place_in.field-0 c.in_ok-place_in.ensures.within c.loop-item.invariant.1),
      sym (granted_next c.args.columns.now c.args.items.now c.loop-item.item-index c.item-item.result c.in_ok-place_in.field-0 c.loop-item-test.true c.item-item.is at) ∙ c.loop-item.invariant.2,
      plain_next c.args.items.now c.loop-item.item-index c.item-item.result c.loop-item-test.true c.loop-item.invariant.3,
    )
