use Rattle.std.proofs.Common.{ap, refl, inl, inr, arith}
use Rattle.iq_block_store.specs.Frames.{framed, gate_kind, body_kind}
use Rattle.iq_root.specs.Roots.{gate_place, body_place}
use Rattle.iq_root.specs.Publishing.{slot_of}
use Rattle.iq_root.proofs.SlotLemmas.{slot_refl}
use Rattle.iq_root.proofs.StepLemmas.{stored_long}
use Rattle.iq_root.proofs.PublishSteps.{kept_as, kept_others, left_first, left_second, left_third, any_first, any_second, any_third, halted_first, halted_second, halted_third, ends, comes}
use Rattle.iq_root.proofs.publishing.publish.Goals as goal

-- the number of blocks stays
pub keep-requires-2 : goal.keep-requires-2
keep-requires-2 g c =
    let closes = kept_as _ _ _ _ _ _ _ (ap (framed gate_kind (gate_place (slot_of c.args.root.now)) 0) c.gate_page.ensures) c.in_ok-keep.ensures.kept in
    λ after told. omega (arith, stored_long _ _ _ _ _ closes.content c.requires after told)

pub keep-requires-3 : goal.keep-requires-3
keep-requires-3 g c =
    let closes = kept_as _ _ _ _ _ _ _ (ap (framed gate_kind (gate_place (slot_of c.args.root.now)) 0) c.gate_page.ensures) c.in_ok-keep.ensures.kept in
    let writes = kept_as _ _ _ _ _ _ _ (ap (framed body_kind (body_place (slot_of c.args.root.now)) 0) c.body_page-body.ensures.page) c.in_ok-keep-2.ensures.kept in
    λ after told. omega (arith, stored_long _ _ _ _ _ writes.content (stored_long _ _ _ _ _ closes.content c.requires) after told)

-- outside the slot, a stop leaves what one before could have left
pub returns-in_err-keep-clause-left : goal.returns-in_err-keep-clause-left
returns-in_err-keep-clause-left g c =
    let closes = kept_as _ _ _ _ _ _ _ (ap (framed gate_kind (gate_place (slot_of c.args.root.now)) 0) c.gate_page.ensures) c.keep.ensures.kept in
    left_first _ c.args.root.now c.body_page-body.ensures.fits _ _ _ closes

pub returns-in_err-keep-2-clause-left : goal.returns-in_err-keep-2-clause-left
returns-in_err-keep-2-clause-left g c =
    let closes = kept_as _ _ _ _ _ _ _ (ap (framed gate_kind (gate_place (slot_of c.args.root.now)) 0) c.gate_page.ensures) c.in_ok-keep.ensures.kept in
    let writes = kept_as _ _ _ _ _ _ _ (ap (framed body_kind (body_place (slot_of c.args.root.now)) 0) c.body_page-body.ensures.page) c.keep-2.ensures.kept in
    left_second _ c.args.root.now c.body_page-body.ensures.fits _ _ _ _ _ closes writes

pub returns-clause-left : goal.returns-clause-left
returns-clause-left g c =
    let closes = kept_as _ _ _ _ _ _ _ (ap (framed gate_kind (gate_place (slot_of c.args.root.now)) 0) c.gate_page.ensures) c.in_ok-keep.ensures.kept in
    let writes = kept_as _ _ _ _ _ _ _ (ap (framed body_kind (body_place (slot_of c.args.root.now)) 0) c.body_page-body.ensures.page) c.in_ok-keep-2.ensures.kept in
    let opens = kept_as _ _ _ _ _ _ _ (ap (framed gate_kind (gate_place (slot_of c.args.root.now)) 0) c.gate_page-2.ensures) c.keep-3.ensures.kept in
    left_third _ c.args.root.now c.body_page-body.ensures.fits _ _ _ _ _ _ _ closes writes opens

-- what is told outside the slot stays
pub returns-in_err-keep-2-clause-others : goal.returns-in_err-keep-2-clause-others
returns-in_err-keep-2-clause-others g c =
    let closes = kept_as _ _ _ _ _ _ _ (ap (framed gate_kind (gate_place (slot_of c.args.root.now)) 0) c.gate_page.ensures) c.in_ok-keep.ensures.kept in
    let writes = kept_as _ _ _ _ _ _ _ (ap (framed body_kind (body_place (slot_of c.args.root.now)) 0) c.body_page-body.ensures.page) c.keep-2.ensures.kept in
    let slot = slot_of c.args.root.now in
    λ all told. kept_others _ slot _ _ _ _ _ all (inl refl) writes
    (kept_others _ slot _ _ _ _ _ all (inr refl) closes (all, told, slot_refl slot all))

pub returns-clause-others : goal.returns-clause-others
returns-clause-others g c =
    let closes = kept_as _ _ _ _ _ _ _ (ap (framed gate_kind (gate_place (slot_of c.args.root.now)) 0) c.gate_page.ensures) c.in_ok-keep.ensures.kept in
    let writes = kept_as _ _ _ _ _ _ _ (ap (framed body_kind (body_place (slot_of c.args.root.now)) 0) c.body_page-body.ensures.page) c.in_ok-keep-2.ensures.kept in
    let opens = kept_as _ _ _ _ _ _ _ (ap (framed gate_kind (gate_place (slot_of c.args.root.now)) 0) c.gate_page-2.ensures) c.keep-3.ensures.kept in
    let slot = slot_of c.args.root.now in
    λ all told. kept_others _ slot _ _ _ _ _ all (inr refl) opens
    (kept_others _ slot _ _ _ _ _ all (inl refl) writes
    (kept_others _ slot _ _ _ _ _ all (inr refl) closes (all, told, slot_refl slot all)))

-- a stop leaves the last root or the new one
pub returns-in_err-keep-clause-any_moment : goal.returns-in_err-keep-clause-any_moment
returns-in_err-keep-clause-any_moment g c =
    let closes = kept_as _ _ _ _ _ _ _ (ap (framed gate_kind (gate_place (slot_of c.args.root.now)) 0) c.gate_page.ensures) c.keep.ensures.kept in
    λ all last told follows safe. any_first g.D.Device c.args.root.now c.body_page-body.ensures.fits all last follows (c.requires all told) _ _ _ (g.met.D.Device.stays_whole c.args.disk.now) told closes safe

pub returns-in_err-keep-2-clause-any_moment : goal.returns-in_err-keep-2-clause-any_moment
returns-in_err-keep-2-clause-any_moment g c =
    let closes = kept_as _ _ _ _ _ _ _ (ap (framed gate_kind (gate_place (slot_of c.args.root.now)) 0) c.gate_page.ensures) c.in_ok-keep.ensures.kept in
    let writes = kept_as _ _ _ _ _ _ _ (ap (framed body_kind (body_place (slot_of c.args.root.now)) 0) c.body_page-body.ensures.page) c.keep-2.ensures.kept in
    λ all last told follows safe. any_second g.D.Device c.args.root.now c.body_page-body.ensures.fits all last follows (c.requires all told) _ _ _ _ _ (g.met.D.Device.stays_whole c.args.disk.now) told closes writes safe

pub returns-clause-any_moment : goal.returns-clause-any_moment
returns-clause-any_moment g c =
    let closes = kept_as _ _ _ _ _ _ _ (ap (framed gate_kind (gate_place (slot_of c.args.root.now)) 0) c.gate_page.ensures) c.in_ok-keep.ensures.kept in
    let writes = kept_as _ _ _ _ _ _ _ (ap (framed body_kind (body_place (slot_of c.args.root.now)) 0) c.body_page-body.ensures.page) c.in_ok-keep-2.ensures.kept in
    let opens = kept_as _ _ _ _ _ _ _ (ap (framed gate_kind (gate_place (slot_of c.args.root.now)) 0) c.gate_page-2.ensures) c.keep-3.ensures.kept in
    λ all last told follows safe. any_third g.D.Device c.args.root.now c.body_page-body.ensures.fits all last follows (c.requires all told) _ _ _ _ _ _ _ (g.met.D.Device.stays_whole c.args.disk.now) told closes writes opens safe

-- so does an error
pub returns-in_err-keep-clause-halted : goal.returns-in_err-keep-clause-halted
returns-in_err-keep-clause-halted g c =
    let closes = kept_as _ _ _ _ _ _ _ (ap (framed gate_kind (gate_place (slot_of c.args.root.now)) 0) c.gate_page.ensures) c.in_err-keep.ensures.kept in
    λ all after last told follows now safe. halted_first _ c.args.root.now c.body_page-body.ensures.fits all last follows (c.requires all told) _ _ _ after told closes now safe

pub returns-in_err-keep-2-clause-halted : goal.returns-in_err-keep-2-clause-halted
returns-in_err-keep-2-clause-halted g c =
    let closes = kept_as _ _ _ _ _ _ _ (ap (framed gate_kind (gate_place (slot_of c.args.root.now)) 0) c.gate_page.ensures) c.in_ok-keep.ensures.kept in
    let writes = kept_as _ _ _ _ _ _ _ (ap (framed body_kind (body_place (slot_of c.args.root.now)) 0) c.body_page-body.ensures.page) c.in_err-keep-2.ensures.kept in
    λ all after last told follows now safe. halted_second _ c.args.root.now c.body_page-body.ensures.fits all last follows (c.requires all told) _ _ _ _ _ after told closes writes now

pub returns-clause-halted : goal.returns-clause-halted
returns-clause-halted g c =
    let closes = kept_as _ _ _ _ _ _ _ (ap (framed gate_kind (gate_place (slot_of c.args.root.now)) 0) c.gate_page.ensures) c.in_ok-keep.ensures.kept in
    let writes = kept_as _ _ _ _ _ _ _ (ap (framed body_kind (body_place (slot_of c.args.root.now)) 0) c.body_page-body.ensures.page) c.in_ok-keep-2.ensures.kept in
    let opens = kept_as _ _ _ _ _ _ _ (ap (framed gate_kind (gate_place (slot_of c.args.root.now)) 0) c.gate_page-2.ensures) c.keep-3.ensures.kept in
    λ all after last told follows now safe. halted_third _ c.args.root.now c.body_page-body.ensures.fits all last follows (c.requires all told) _ _ _ _ _ _ _ after told closes writes opens now

-- the new root is there
pub returns-clause-ok : goal.returns-clause-ok
returns-clause-ok g c =
    let closes = kept_as _ _ _ _ _ _ _ (ap (framed gate_kind (gate_place (slot_of c.args.root.now)) 0) c.gate_page.ensures) c.in_ok-keep.ensures.kept in
    let writes = kept_as _ _ _ _ _ _ _ (ap (framed body_kind (body_place (slot_of c.args.root.now)) 0) c.body_page-body.ensures.page) c.in_ok-keep-2.ensures.kept in
    let opens = kept_as _ _ _ _ _ _ _ (ap (framed gate_kind (gate_place (slot_of c.args.root.now)) 0) c.gate_page-2.ensures) c.keep-3.ensures.kept in
    ends _ c.args.root.now c.body_page-body.ensures.fits _ _ _ _ _ _ _ closes writes opens

pub returns-clause-newest : goal.returns-clause-newest
returns-clause-newest g c =
    comes g.D.Device c.args.root.now c.body_page-body.ensures.fits c.keep-3.result c.args.disk.now c.requires
