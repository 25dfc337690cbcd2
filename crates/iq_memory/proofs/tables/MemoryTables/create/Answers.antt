use Rattle.std.proofs.Common.{◌≡◌, List, ap, sym, ◌∙◌, subst, refl}
use Rattle.iq_base.specs.declared.descriptors.Descriptor.{Descriptor}
use Rattle.iq_database.specs.LookUps.{before_from}
use Rattle.iq_database.specs.Standing.{Stand}
use Rattle.iq_memory.specs.Told.{told_in}
use Rattle.iq_memory.proofs.Running.{created, written_ok, written_err, held_on, write_cause, no_place_made}
use Rattle.iq_memory.proofs.tables.MemoryTables.create.Goals as goal

pub returns-in-Ok : goal.returns-in-Ok
returns-in-Ok c =
    let old = c.args.self.now in
    let place : c.before-place.result ≡ before_from 0 c.args.name.now old.parts.items = c.before-place.ensures.place ∙ ap (before_from 0 c.args.name.now) c.as_slice.ensures.value in
    written_ok c.args.statement.now old _ c.in-Ok.written.rows c.in-Ok.ensures.ok.granted
    (created c.args.statement.now c.args.name.now c.args.schema.now old.parts.items c.write.new.tables.items old.pages.tables.items c.write.new.sink.tables.items c.come.new.self.tables.items c.before-place.result c.requires.is c.in-Ok.ensures.ok place c.in-Ok.ensures.few.tables.few c.come.ensures)
    c.in-Ok.ensures.rows

pub returns-in-Err : goal.returns-in-Err
returns-in-Err c =
    let old = c.args.self.now in
    written_err c.args.statement.now old _ c.sure.result
    (λ db h. subst (λ (ds : List Descriptor). Stand (told_in c.write.new.sink.tables.items) ds db) (sym c.in-Err.ensures.unchanged)
    (held_on old.pages.tables.items c.write.new.sink.tables.items old.parts.items db (λ object. c.in-Err.ensures.others.told object (no_place_made c.args.statement.now c.args.name.now c.args.schema.now old.parts.items _ c.requires.is)) h))
    (c.sure.ensures.placed c.in-Err.ensures.placed)
    (write_cause old old.parts.items c.args.statement.now _ _ c.in-Err.cause c.sure.result refl (record { same = c.sure.ensures.same; fault = c.sure.ensures.fault; page = c.sure.ensures.page }) c.in-Err.ensures.cause)
