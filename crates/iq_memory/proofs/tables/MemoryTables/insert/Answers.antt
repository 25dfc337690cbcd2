use Rattle.std.proofs.Common.{◌≡◌, ◌<◌, List, length, Some, None, ap, sym, ◌∙◌, subst, refl, arith, slice_set}
use Rattle.iq_base.specs.declared.descriptors.Descriptor.{Descriptor}
use Rattle.iq_database.specs.LookUps.{place_from}
use Rattle.iq_database.specs.Standing.{Stand}
use Rattle.iq_memory.specs.Told.{told_in}
use Rattle.iq_memory.proofs.Running.{inserted, written_ok, written_err, held_on, write_cause, insert_missing, put_back, other_place}
use Rattle.iq_memory.proofs.tables.MemoryTables.insert.Goals as goal

pub returns-in_default : goal.returns-in_default
returns-in_default c =
    let none = ap (place_from 0 c.args.name.now) (sym c.as_slice.ensures.value) ∙ sym c.place_of.ensures.place ∙ c.in_default.is in
    rw c.again.ensures (written_err c.args.statement.now c.args.self.now c.args.self.now _ (λ db h. h) (λ n. tt) (insert_missing c.args.self.now c.args.statement.now c.args.name.now c.args.rows.now c.requires.is none))

pub returns-in-Ok : goal.returns-in-Ok
returns-in-Ok c =
    let old = c.args.self.now in
    written_ok c.args.statement.now old _ c.in-Ok.written.rows c.in-Ok.ensures.ok.granted
    (inserted c.args.statement.now c.args.name.now c.args.rows.now old.parts.items c.write.new.tables.items old.pages.tables.items c.write.new.sink.tables.items c.requires.is c.in-Ok.ensures.ok)
    c.in-Ok.ensures.rows

pub returns-in-Err : goal.returns-in-Err
returns-in-Err c =
    let old = c.args.self.now in
    let ts = old.pages.tables.items in
    let us = c.write.new.sink.tables.items in
    let place = c.in-Some.place in
    let there = ap (place_from 0 c.args.name.now) (sym c.as_slice.ensures.value) ∙ sym c.place_of.ensures.place ∙ c.in-Some.is in
    let within : place < length old.parts.items = subst (λ (xs : List Descriptor). place < length xs) c.as_slice.ensures.value (rw c.in-Some.is at c.place_of.ensures.within) in
    let few = old.plain.tables.few in
    let here : place < length ts = omega (arith, old.pages.full, within, few) in
    let here' : place < length us = omega (arith, c.write.new.sink.full, within, few) in
    written_err c.args.statement.now old _ c.sure.result
    (λ db h. subst (λ (ds : List Descriptor). Stand (told_in (slice_set us place c.in_ok-kept.kept)) ds db) (sym c.in-Err.ensures.unchanged)
    (held_on ts (slice_set us place c.in_ok-kept.kept) old.parts.items db (put_back ts us place c.index.result.now c.in_ok-kept.kept here here' c.index.ensures c.in_ok-kept.ensures
    (λ object other. c.in-Err.ensures.others.told object (other_place c.args.statement.now c.args.name.now c.args.rows.now old.parts.items place _ c.requires.is there other))) h))
    (c.sure.ensures.placed c.in-Err.ensures.placed)
    (write_cause old old.parts.items c.args.statement.now _ _ c.in-Err.cause c.sure.result refl (record { same = c.sure.ensures.same; fault = c.sure.ensures.fault; page = c.sure.ensures.page }) c.in-Err.ensures.cause)
