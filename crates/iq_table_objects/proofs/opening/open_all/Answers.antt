use Rattle.std.proofs.Common.{rules, arith, refl, sym, ap, subst, ◌∙◌, ◌≡◌, ◌<◌, ◌≤◌, ℕ, length, slice_index_or}
use Rattle.std.proofs.lemmas.Result.{err_from_is_err_and}
use Rattle.iq_block_map.proofs.PutLemmas.{looked_then}
use Rattle.iq_table_objects.proofs.OpeningLemmas.{open_fault, references_push, opened_push}
use Rattle.iq_table_objects.proofs.opening.open_all.Goals as goal

pub returns-in_err-object-clause-cause : goal.returns-in_err-object-clause-cause
returns-in_err-object-clause-cause g c =
    let p = err_from_is_err_and c.from_residual-in_err-object.result c.from_residual-in_err-object.ensures.1 in
    let within : c.loop-reference.reference-index < length c.args.references.now = search rules in
    rw (p.1, p.2) (open_fault c.args.references.now c.loop-reference.reference-index c.in_err-object.field-0.0 _ _ (g.D.Device.blocks c.args.disk.now) (g.D.Device.blocks c.loop-reference.disk)
    (g.D.Device.faults c.args.disk.now) (g.D.Device.faults c.loop-reference.disk) _ c.loop-reference.invariant.looked.unchanged c.loop-reference.invariant.looked.later within refl
    c.in_err-object.ensures.cause)

pub loop-reference-preserved : goal.loop-reference-preserved
loop-reference-preserved g c =
    let within : c.loop-reference.reference-index < length c.args.references.now = search rules in
    record {
      looked = looked_then g.D.Device c.args.disk.now c.loop-reference.disk c.open.new.disk c.loop-reference.invariant.looked c.open.ensures.looked;
      each = references_push c.loop-reference.slots.items c.push.new.self.items _ c.args.references.now c.loop-reference.reference-index _ c.in_ok-push.ensures.items
          c.loop-reference.invariant.each refl within;
      opened = opened_push (g.D.Device.blocks c.args.disk.now) (g.D.Device.blocks c.loop-reference.disk) c.loop-reference.slots.items c.push.new.self.items _ c.in_ok-object.object
          c.loop-reference.invariant.looked.unchanged c.in_ok-push.ensures.items c.loop-reference.invariant.opened c.in_ok-object.ensures.size c.in_ok-object.ensures.lost
          c.in_ok-object.ensures.ok;
    }
