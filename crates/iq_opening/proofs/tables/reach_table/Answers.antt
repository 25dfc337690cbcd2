use Rattle.std.proofs.Common.{refl, sym, ◌∙◌, ◌++◌, [], ◌∷◌, true, false, append-nil}
use Rattle.iq_descriptors.specs.Parts.{blocks_at, table_at}
use Rattle.iq_opening.specs.Tables.{coded}
use Rattle.iq_opening.specs.Steps.{table, block_steps, objects_steps, table_steps}
use Rattle.iq_opening.proofs.Ways.{err_exit, lead_start, lead_on, lead_last, lead_stop}
use Rattle.iq_opening.proofs.Wholes.{table_begins, test_told, table_goes, table_stops, table_there, objects_told}
use Rattle.iq_opening.proofs.tables.reach_table.Goals as goal

pub returns-in_err-found-clause-err : goal.returns-in_err-found-clause-err
returns-in_err-found-clause-err g c =
    err_exit _ c.from_residual.result c.in_err-found.field-0.0 c.from_residual.ensures.1
    (lead_stop g.D.Device (λ all. table_steps all coded c.args.body c.args.before.now c.args.head) (λ all. table_steps all coded c.args.body c.args.before.now c.args.head) (λ all. block_steps all c.args.body c.args.head) (λ all. (table coded c.args.head c.args.before.now ∷ []) ++ objects_steps all (blocks_at all c.args.head) (table_at all c.args.head)) _ _ _ _ _ _
    (lead_start g.D.Device (λ all. table_steps all coded c.args.body c.args.before.now c.args.head) c.args.disk.now c.args.reached.now) c.in_err-found.ensures.err (λ all told. table_begins all c.args.body c.args.before.now c.args.head))

pub returns-in_default-clause-err : goal.returns-in_default-clause-err
returns-in_default-clause-err g c =
    rw c.bad.ensures
    (lead_stop g.D.Device (λ all. table_steps all coded c.args.body c.args.before.now c.args.head) (λ all. (table coded c.args.head c.args.before.now ∷ []) ++ objects_steps all (blocks_at all c.args.head) (table_at all c.args.head)) (λ all. table coded c.args.head c.args.before.now ∷ []) (λ all. objects_steps all (blocks_at all c.args.head) (table_at all c.args.head)) _ _ _ _ _ _
    (lead_on g.D.Device (λ all. table_steps all coded c.args.body c.args.before.now c.args.head) (λ all. table_steps all coded c.args.body c.args.before.now c.args.head) (λ all. block_steps all c.args.body c.args.head) (λ all. (table coded c.args.head c.args.before.now ∷ []) ++ objects_steps all (blocks_at all c.args.head) (table_at all c.args.head)) _ _ _ _ _ _
    (lead_start g.D.Device (λ all. table_steps all coded c.args.body c.args.before.now c.args.head) c.args.disk.now c.args.reached.now) c.in_ok-found.ensures.ok (λ all told. table_begins all c.args.body c.args.before.now c.args.head))
    (table_stops g.D.Device c.reach_descriptor.new.disk c.reach_descriptor.new.reached c.args.head c.args.before.now
    (λ all told.
    test_told all c.args.head c.args.before.now c.in_ok-found.found.block_numbers _ _ false (c.in_ok-found.ensures.numbers all (sym c.in_ok-found.ensures.ok.looked.unchanged ∙ told))
    (c.deref.ensures.value ∙ c.in_ok-found.ensures.pages all (sym c.in_ok-found.ensures.ok.looked.unchanged ∙ told)) c.split_at.ensures.back (c.in_ok-table.ensures.none c.in_default.is)))
    (λ all told. refl))

pub returns-in_err-reach_objects-clause-err : goal.returns-in_err-reach_objects-clause-err
returns-in_err-reach_objects-clause-err g c =
    let some = (rw c.in-Some.is at c.in_ok-table.ensures.some) in
    err_exit _ c.from_residual-in_err-reach_objects.result c.in_err-reach_objects.field-0.0 c.from_residual-in_err-reach_objects.ensures.1
    (lead_stop g.D.Device (λ all. table_steps all coded c.args.body c.args.before.now c.args.head) (λ all. objects_steps all (blocks_at all c.args.head) (table_at all c.args.head)) (λ all. objects_steps all c.in_ok-found.found.block_numbers c.in-Some.table) (λ all. []) _ _ _ _ _ _
    (lead_on g.D.Device (λ all. table_steps all coded c.args.body c.args.before.now c.args.head) (λ all. (table coded c.args.head c.args.before.now ∷ []) ++ objects_steps all (blocks_at all c.args.head) (table_at all c.args.head)) (λ all. table coded c.args.head c.args.before.now ∷ []) (λ all. objects_steps all (blocks_at all c.args.head) (table_at all c.args.head)) _ _ _ _ _ _
    (lead_on g.D.Device (λ all. table_steps all coded c.args.body c.args.before.now c.args.head) (λ all. table_steps all coded c.args.body c.args.before.now c.args.head) (λ all. block_steps all c.args.body c.args.head) (λ all. (table coded c.args.head c.args.before.now ∷ []) ++ objects_steps all (blocks_at all c.args.head) (table_at all c.args.head)) _ _ _ _ _ _
    (lead_start g.D.Device (λ all. table_steps all coded c.args.body c.args.before.now c.args.head) c.args.disk.now c.args.reached.now) c.in_ok-found.ensures.ok (λ all told. table_begins all c.args.body c.args.before.now c.args.head))
    (table_goes g.D.Device c.reach_descriptor.new.disk c.reach_descriptor.new.reached c.args.head c.args.before.now
    (λ all told.
    test_told all c.args.head c.args.before.now c.in_ok-found.found.block_numbers _ _ true (c.in_ok-found.ensures.numbers all (sym c.in_ok-found.ensures.ok.looked.unchanged ∙ told))
    (c.deref.ensures.value ∙ c.in_ok-found.ensures.pages all (sym c.in_ok-found.ensures.ok.looked.unchanged ∙ told)) c.split_at.ensures.back some.0))
    (λ all told. refl))
    c.in_err-reach_objects.ensures.err
    (λ all told. objects_told all c.args.head c.in-Some.table c.in_ok-found.found.block_numbers (c.in_ok-found.ensures.numbers all told)
    (table_there all c.args.head c.in-Some.table _ some.1 (c.deref.ensures.value ∙ c.in_ok-found.ensures.pages all told)) ∙ sym (append-nil _)))

pub returns-clause-ok : goal.returns-clause-ok
returns-clause-ok g c =
    let some = (rw c.in-Some.is at c.in_ok-table.ensures.some) in
    lead_last g.D.Device (λ all. table_steps all coded c.args.body c.args.before.now c.args.head) (λ all. objects_steps all (blocks_at all c.args.head) (table_at all c.args.head)) (λ all. objects_steps all c.in_ok-found.found.block_numbers c.in-Some.table) _ _ _ _ _ _
    (lead_on g.D.Device (λ all. table_steps all coded c.args.body c.args.before.now c.args.head) (λ all. (table coded c.args.head c.args.before.now ∷ []) ++ objects_steps all (blocks_at all c.args.head) (table_at all c.args.head)) (λ all. table coded c.args.head c.args.before.now ∷ []) (λ all. objects_steps all (blocks_at all c.args.head) (table_at all c.args.head)) _ _ _ _ _ _
    (lead_on g.D.Device (λ all. table_steps all coded c.args.body c.args.before.now c.args.head) (λ all. table_steps all coded c.args.body c.args.before.now c.args.head) (λ all. block_steps all c.args.body c.args.head) (λ all. (table coded c.args.head c.args.before.now ∷ []) ++ objects_steps all (blocks_at all c.args.head) (table_at all c.args.head)) _ _ _ _ _ _
    (lead_start g.D.Device (λ all. table_steps all coded c.args.body c.args.before.now c.args.head) c.args.disk.now c.args.reached.now) c.in_ok-found.ensures.ok (λ all told. table_begins all c.args.body c.args.before.now c.args.head))
    (table_goes g.D.Device c.reach_descriptor.new.disk c.reach_descriptor.new.reached c.args.head c.args.before.now
    (λ all told.
    test_told all c.args.head c.args.before.now c.in_ok-found.found.block_numbers _ _ true (c.in_ok-found.ensures.numbers all (sym c.in_ok-found.ensures.ok.looked.unchanged ∙ told))
    (c.deref.ensures.value ∙ c.in_ok-found.ensures.pages all (sym c.in_ok-found.ensures.ok.looked.unchanged ∙ told)) c.split_at.ensures.back some.0))
    (λ all told. refl))
    c.in_ok-reach_objects.ensures.ok
    (λ all told. objects_told all c.args.head c.in-Some.table c.in_ok-found.found.block_numbers (c.in_ok-found.ensures.numbers all told)
    (table_there all c.args.head c.in-Some.table _ some.1 (c.deref.ensures.value ∙ c.in_ok-found.ensures.pages all told)))

pub returns-clause-table : goal.returns-clause-table
returns-clause-table g c =
    let some = (rw c.in-Some.is at c.in_ok-table.ensures.some) in
    λ all told. (table_there all c.args.head c.in-Some.table _ some.1 (c.deref.ensures.value ∙ c.in_ok-found.ensures.pages all told))
