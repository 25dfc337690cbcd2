use Rattle.std.proofs.Common.{rules, arith, refl, sym, ap, subst, ◌∙◌, ◌≡◌, ◌<◌, ◌≤◌, ℕ, length, slice_index_or}
use Rattle.std.proofs.lemmas.List.{get_or_default}
use Rattle.iq_block_map.proofs.PutLemmas.{put_none, put_then, looked_same}
use Rattle.iq_table_objects.proofs.ClosingLemmas.{standing_set, closed_next, same_pages_refl, same_pages_set}
use Rattle.iq_table_objects.proofs.closing.close_all.Goals as goal

pub loop-k-init : goal.loop-k-init
loop-k-init g c = record {
  put = put_none g.D.Device (g.T.Taker.left c.args.space.now) c.args.disk.now c.args.disk.now (looked_same g.D.Device c.args.disk.now);
  spare = c.requires.spare;
  stands = c.requires.stands;
  pages = same_pages_refl c.args.slots.now;
  closed = λ j d less inside. absurd (omega (arith, less));
}

pub close_slot-requires-clause-stands : goal.close_slot-requires-clause-stands
close_slot-requires-clause-stands g c =
    let within : c.loop-k.k < length c.loop-k.slots = search rules in
    c.loop-k.invariant.stands c.loop-k.k c.index-slots-k.result within

pub returns-in_err-close_slot-clause-put : goal.returns-in_err-close_slot-clause-put
returns-in_err-close_slot-clause-put g c = put_then _ _ _ _ _ _ _ c.loop-k.invariant.put c.close_slot.ensures.put

pub returns-in_err-close_slot-clause-stands : goal.returns-in_err-close_slot-clause-stands
returns-in_err-close_slot-clause-stands g c =
    standing_set g.D.Device (g.T.Taker.left c.loop-k.space) (g.T.Taker.left c.close_slot.new.space) c.loop-k.disk c.close_slot.new.disk c.loop-k.slots c.loop-k.k c.close_slot.new.slot
    c.close_slot.ensures.put c.loop-k.invariant.stands c.close_slot.ensures.stands

pub loop-k-preserved : goal.loop-k-preserved
loop-k-preserved g c =
    let before = g.T.Taker.left c.loop-k.space in
    let after = g.T.Taker.left c.close_slot.new.space in
    let slots = c.loop-k.slots in
    let within : c.loop-k.k < length slots = search rules in
    let s = slice_index_or slots c.loop-k.k c.index-slots-k.result in
    let t = c.close_slot.new.slot in
    record {
      put = put_then _ _ _ _ _ _ _ c.loop-k.invariant.put c.close_slot.ensures.put;
      spare = c.close_slot.ensures.spare;
      stands = standing_set g.D.Device before after c.loop-k.disk c.close_slot.new.disk slots c.loop-k.k t c.close_slot.ensures.put c.loop-k.invariant.stands c.close_slot.ensures.stands;
      pages = same_pages_set c.args.slots.now slots c.loop-k.k s t c.loop-k.invariant.pages within (get_or_default slots c.loop-k.k c.index-slots-k.result s within) c.close_slot.ensures.pages;
      closed = closed_next g.D.Device before after c.loop-k.disk c.close_slot.new.disk slots c.loop-k.k t c.close_slot.ensures.put within c.loop-k.invariant.closed
          (record { size = c.in_ok-close_slot.ensures.size; settled = c.in_ok-close_slot.ensures.settled; is_in = c.in_ok-close_slot.ensures.is_in });
    }
