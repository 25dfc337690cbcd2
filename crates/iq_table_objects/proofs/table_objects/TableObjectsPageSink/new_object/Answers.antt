use Rattle.std.proofs.Common.{rules, arith, refl, sym, ap, subst, ◌∙◌, ◌≡◌, ◌≤◌, ◌<◌, ◌+◌, ◌⊎◌, inl, inr, ℕ, None, Ok, Err, length, is_err, List, [], ◌∷◌, ◌++◌, slice_index_or, slice_set, IfErr, Option}
use Rattle.iq_pages.specs.Pages.{Pages, NamesPage}
use Rattle.iq_block_map.specs.Causes.{NoneLeft}
use Rattle.iq_block_map.proofs.PutLemmas.{put_none, looked_same}
use Rattle.iq_objects.proofs.StandLemmas.{zero_free}
use Rattle.iq_table_objects.specs.Tables.{IsFailure, IsAnswer, fault_count, told_at, slot_of}
use Rattle.iq_table_objects.specs.declared.table_objects.Slot.{Slot}
use Rattle.iq_table_objects.proofs.TableLemmas.{slot_past, err_failure, err_names}
use Rattle.iq_table_objects.proofs.CallLemmas.{stands_at, count_here, writes_nothing, writes_is, sound_call, lack_after, lack_clear, push_size, set_size, lost_same, clear_size, clear_same, clear_content, clear_failure}
use Rattle.iq_table_objects.proofs.table_objects.TableObjectsPageSink.new_object.Goals as goal

pub returns-in_default : goal.returns-in_default
returns-in_default g c =
    let past : slot_of c.args.self.now.slots.items c.args.self.now.first c.args.object ≡ None
    = slot_past c.args.self.now.slots.items c.args.self.now.first c.args.object (λ place is. search (rules, c.in_default.ensures.missing place is)) in
    writes_nothing c.args.object _ _ _ 0 _ (ap (told_at (g.D.Device.blocks c.args.self.now.disk)) past)

pub invariant_of-self : goal.invariant_of-self
invariant_of-self g c =
    let left = g.T.Taker.left c.args.self.now.space in
    let disk = c.args.self.now.disk in
    let slots = c.args.self.now.slots.items in
    let s = c.index_mut-slot.result.now in
    let o = c.clear-outcome.new.self in
    let result = c.clear-outcome.result in
    let within : c.in-Some.place < length slots = omega (arith, c.in-Some.ensures.found.1) in
    record {
      spare = c.args.self.now.spare;
      sound = sound_call g.D.Device left left disk disk slots c.in-Some.place s o (λ (ps : Pages). []) result (put_none g.D.Device left disk disk (looked_same g.D.Device disk))
          c.args.self.now.sound within c.index_mut-slot.ensures.value (clear_content result (g.D.Device.blocks disk) s.object o c.clear-outcome.ensures.ok)
          (clear_same result s.object o c.clear-outcome.ensures.err)
          (λ all told. c.clear-outcome.ensures.stands left all (zero_free left c.args.self.now.spare.above)
          (stands_at (g.D.Device.blocks disk) left slots c.in-Some.place s c.args.self.now.sound within c.index_mut-slot.ensures.value all told));
      lack = lack_clear left c.args.self.now.refused c.answer.new.refused result c.args.self.now.lack c.answer.ensures.lack c.clear-outcome.ensures.cause;
    }

pub returns : goal.returns
returns g c =
    let left = g.T.Taker.left c.args.self.now.space in
    let disk = c.args.self.now.disk in
    let slots = c.args.self.now.slots.items in
    let s = c.index_mut-slot.result.now in
    let o = c.clear-outcome.new.self in
    let result = c.clear-outcome.result in
    let within : c.in-Some.place < length slots = omega (arith, c.in-Some.ensures.found.1) in
    let same : g.D.Device.faults disk ≤ g.D.Device.faults disk = omega arith in
    let cause : IfErr c.answer.result (λ e. IsAnswer e (fault_count (g.D.Device.faults disk) c.args.self.now.refused) (fault_count (g.D.Device.faults disk) c.answer.new.refused))
    = subst (λ (n : ℕ). IfErr c.answer.result (λ e. IsAnswer e n (fault_count (g.D.Device.faults disk) c.answer.new.refused))) c.faults-before.ensures
    (c.answer.ensures.cause (g.D.Device.faults disk) same c.faults-before.ensures
    (clear_failure result (g.D.Device.faults disk) (g.D.Device.faults disk) c.clear-outcome.ensures.cause)) in
    writes_is g.D.Device left left disk disk slots c.args.self.now.first c.args.object c.in-Some.place s o (λ (ps : Pages). []) 0 0 c.args.self.now.refused c.answer.new.refused
    c.answer.result result (put_none g.D.Device left disk disk (looked_same g.D.Device disk)) c.args.self.now.sound c.in-Some.ensures.found.0 within
    c.index_mut-slot.ensures.value c.answer.ensures.variant (clear_content result (g.D.Device.blocks disk) s.object o c.clear-outcome.ensures.ok)
    (clear_size result s.object o c.clear-outcome.ensures.ok) (clear_same result s.object o c.clear-outcome.ensures.err) c.answer.ensures.later cause
