use Rattle.std.proofs.Common.{◌≡◌, List, Some, None, ap, sym, ◌∙◌, subst, refl}
use Rattle.iq_base.specs.declared.descriptors.Descriptor.{Descriptor}
use Rattle.iq_database.specs.LookUps.{place_from}
use Rattle.iq_database.specs.Standing.{Stand}
use Rattle.iq_memory.specs.Told.{told_in}
use Rattle.iq_memory.proofs.Running.{removed, written_ok, written_err, held_on, write_cause, no_place, remove_missing}
use Rattle.iq_memory.proofs.tables.MemoryTables.remove.Goals as goal

pub returns-in_default : goal.returns-in_default
returns-in_default c =
    let none = ap (place_from 0 c.args.name.now) (sym c.as_slice.ensures.value) ∙ sym c.place_of.ensures.place ∙ c.in_default.is in
    rw c.again.ensures (written_err c.args.statement.now c.args.self.now c.args.self.now _ (λ db h. h) (λ n. tt) (remove_missing c.args.self.now c.args.statement.now c.args.name.now c.requires.is none))

pub returns-in-Ok : goal.returns-in-Ok
returns-in-Ok c =
    let old = c.args.self.now in
    let there = ap (place_from 0 c.args.name.now) (sym c.as_slice.ensures.value) ∙ sym c.place_of.ensures.place ∙ c.in-Some.is in
    written_ok c.args.statement.now old _ c.in-Ok.written.rows c.in-Ok.ensures.ok.granted
    (removed c.args.statement.now c.args.name.now old.parts.items c.write.new.tables.items old.pages.tables.items c.write.new.sink.tables.items c.go.new.self.tables.items c.in-Some.place c.requires.is c.in-Ok.ensures.ok there old.plain.tables.few c.go.ensures)
    c.in-Ok.ensures.rows

pub returns-in-Err : goal.returns-in-Err
returns-in-Err c =
    let old = c.args.self.now in
    written_err c.args.statement.now old _ c.sure.result
    (λ db h. subst (λ (ds : List Descriptor). Stand (told_in c.write.new.sink.tables.items) ds db) (sym c.in-Err.ensures.unchanged)
    (held_on old.pages.tables.items c.write.new.sink.tables.items old.parts.items db (λ object. c.in-Err.ensures.others.told object (no_place c.args.statement.now c.args.name.now old.parts.items _ c.requires.is)) h))
    (c.sure.ensures.placed c.in-Err.ensures.placed)
    (write_cause old old.parts.items c.args.statement.now _ _ c.in-Err.cause c.sure.result refl (record { same = c.sure.ensures.same; fault = c.sure.ensures.fault; page = c.sure.ensures.page }) c.in-Err.ensures.cause)
