use Rattle.std.proofs.Common.{sym, ◌∙◌, ap, subst, Some, None, ℕ, append-nil, Vec, Global}
use Rattle.iq_query.specs.Calls.{AreWithin}
use Rattle.iq_query.proofs.Walks.{own_next, within_more}
use Rattle.iq_query.proofs.columns.all_places.Goals.{in-Some+in_ok-push, in_default}
use Rattle.iq_query.proofs.columns.all_places.Goals as goal

pub loop-column-preserved : goal.loop-column-preserved
loop-column-preserved c =
    let columns = c.args.columns.now in
    let i = c.loop-column.column-index in
    let column = c.column-item.result in
    elim c.match-column_place.branch [
      | in-Some+in_ok-push w ↦
          let more = ap (λ (v : Vec ℕ Global). v.items) w.places-is ∙ w.in_ok-push.ensures.items in (
            more ∙ sym (own_next columns columns i column (Some w.in-Some.place) c.loop-column.places.items c.loop-column-test.true c.column-item.is (sym c.column_place.ensures.place ∙ w.in-Some.is) c.loop-column.invariant.0),
            subst (AreWithin _) (sym more) (within_more _ c.loop-column.places.items w.in-Some.place (rw w.in-Some.is at c.column_place.ensures.within) c.loop-column.invariant.1),
          )
      | in_default w ↦
          let same = ap (λ (v : Vec ℕ Global). v.items) w.places-is in (
            same ∙ sym (append-nil c.loop-column.places.items) ∙ sym (own_next columns columns i column None c.loop-column.places.items c.loop-column-test.true c.column-item.is (sym c.column_place.ensures.place ∙ w.in_default.is) c.loop-column.invariant.0),
            subst (AreWithin _) (sym same) c.loop-column.invariant.1,
          )
    ]
