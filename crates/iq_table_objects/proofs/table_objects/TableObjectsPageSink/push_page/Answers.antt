use Rattle.std.proofs.Common.{rules, arith, refl, sym, ap, subst, ◌∙◌, ◌≡◌, ◌≤◌, ◌<◌, ◌+◌, ◌⊎◌, inl, inr, ℕ, None, Ok, Err, length, is_err, List, [], ◌∷◌, ◌++◌, slice_index_or, slice_set, IfErr, Option}
use Rattle.iq_pages.specs.Pages.{Pages, NamesPage}
use Rattle.iq_block_map.specs.Causes.{NoneLeft}
use Rattle.iq_table_objects.specs.Tables.{IsFailure, IsAnswer, fault_count, told_at, slot_of}
use Rattle.iq_table_objects.specs.declared.table_objects.Slot.{Slot}
use Rattle.iq_table_objects.proofs.TableLemmas.{slot_past, err_failure, err_names}
use Rattle.iq_table_objects.proofs.CallLemmas.{stands_at, count_here, writes_nothing, writes_is, sound_call, lack_after, lack_clear, push_size, set_size, lost_same, clear_size, clear_same, clear_content, clear_failure}
use Rattle.iq_table_objects.proofs.table_objects.TableObjectsPageSink.push_page.Goals as goal

pub returns-in_default : goal.returns-in_default
returns-in_default g c =
    let past : slot_of c.args.self.now.slots.items c.args.self.now.first c.args.object ≡ None
    = slot_past c.args.self.now.slots.items c.args.self.now.first c.args.object (λ place is. search (rules, c.in_default.ensures.missing place is)) in
    writes_nothing c.args.object _ _ _ 0 _ (ap (told_at (g.D.Device.blocks c.args.self.now.disk)) past)

pub push_page-outcome-requires-clause-most : goal.push_page-outcome-requires-clause-most
push_page-outcome-requires-clause-most g c =
    let same = count_here c.args.self.now.slots.items c.args.self.now.first c.args.object c.in-Some.place c.index_mut-slot.result.now c.in-Some.ensures.found.0
    (omega (arith, c.in-Some.ensures.found.1)) c.index_mut-slot.ensures.value in
    omega (arith, same, c.requires)

pub push_page-outcome-requires-clause-stands : goal.push_page-outcome-requires-clause-stands
push_page-outcome-requires-clause-stands g c =
    stands_at (g.D.Device.blocks c.args.self.now.disk) (g.T.Taker.left c.args.self.now.space) c.args.self.now.slots.items c.in-Some.place c.index_mut-slot.result.now
    c.args.self.now.sound (omega (arith, c.in-Some.ensures.found.1)) c.index_mut-slot.ensures.value

pub invariant_of-self : goal.invariant_of-self
invariant_of-self g c =
    let before = g.T.Taker.left c.args.self.now.space in
    let after = g.T.Taker.left c.push_page-outcome.new.space in
    let old = c.args.self.now.disk in
    let new = c.push_page-outcome.new.disk in
    let slots = c.args.self.now.slots.items in
    let s = c.index_mut-slot.result.now in
    let o = c.push_page-outcome.new.self in
    let result = c.push_page-outcome.result in
    let within : c.in-Some.place < length slots = omega (arith, c.in-Some.ensures.found.1) in
    record {
      spare = c.push_page-outcome.ensures.spare;
      sound = sound_call g.D.Device before after old new slots c.in-Some.place s o (λ (ps : Pages). ps ++ c.args.from.now ∷ []) result c.push_page-outcome.ensures.put c.args.self.now.sound within
          c.index_mut-slot.ensures.value c.push_page-outcome.ensures.content (lost_same result before after s.object o c.push_page-outcome.ensures.err) c.push_page-outcome.ensures.stands;
      lack = lack_after before after c.args.self.now.refused c.answer.new.refused (g.D.Device.faults old) (g.D.Device.faults new) result c.push_page-outcome.ensures.put.left
          c.args.self.now.lack c.answer.ensures.lack c.push_page-outcome.ensures.cause;
    }

pub returns : goal.returns
returns g c =
    let before = g.T.Taker.left c.args.self.now.space in
    let after = g.T.Taker.left c.push_page-outcome.new.space in
    let old = c.args.self.now.disk in
    let new = c.push_page-outcome.new.disk in
    let slots = c.args.self.now.slots.items in
    let s = c.index_mut-slot.result.now in
    let o = c.push_page-outcome.new.self in
    let result = c.push_page-outcome.result in
    let within : c.in-Some.place < length slots = omega (arith, c.in-Some.ensures.found.1) in
    let count = count_here slots c.args.self.now.first c.args.object c.in-Some.place s c.in-Some.ensures.found.0 within c.index_mut-slot.ensures.value in
    let cause : IfErr c.answer.result (λ e. IsAnswer e (fault_count (g.D.Device.faults old) c.args.self.now.refused) (fault_count (g.D.Device.faults new) c.answer.new.refused))
    = subst (λ (n : ℕ). IfErr c.answer.result (λ e. IsAnswer e n (fault_count (g.D.Device.faults new) c.answer.new.refused))) c.faults-before.ensures
    (c.answer.ensures.cause (g.D.Device.faults old) c.push_page-outcome.ensures.put.later c.faults-before.ensures
    (err_failure (NoneLeft before after) result (g.D.Device.faults old) (g.D.Device.faults new) c.push_page-outcome.ensures.cause)) in
    writes_is g.D.Device before after old new slots c.args.self.now.first c.args.object c.in-Some.place s o (λ (ps : Pages). ps ++ c.args.from.now ∷ []) (_) 1 c.args.self.now.refused c.answer.new.refused
    c.answer.result result c.push_page-outcome.ensures.put c.args.self.now.sound c.in-Some.ensures.found.0 within c.index_mut-slot.ensures.value c.answer.ensures.variant
    c.push_page-outcome.ensures.content (push_size result before s.object o _ count c.push_page-outcome.ensures.ok) (lost_same result before after s.object o c.push_page-outcome.ensures.err) c.answer.ensures.later cause
