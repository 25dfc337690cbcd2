use Rattle.std.proofs.Common.{rules, arith, sym, ap, ◌≡◌, ◌∙◌, ◌+◌, ◌≤◌, ℕ, length, Option, None}
use Rattle.iq_table_objects.specs.Tables.{count_at, told_at, slot_of}
use Rattle.iq_table_objects.specs.declared.table_objects.Slot.{Slot}
use Rattle.iq_table_objects.proofs.TableLemmas.{slot_past}
use Rattle.iq_table_objects.proofs.table_objects.TableObjectsPageSource.pages.Goals as goal

pub returns-in-None-clause-count : goal.returns-in-None-clause-count
returns-in-None-clause-count g c =
    let past : slot_of c.args.self.now.slots.items c.args.self.now.first c.args.object ≡ None
    = slot_past c.args.self.now.slots.items c.args.self.now.first c.args.object (λ place is. search (rules, c.in-None.ensures.missing place is)) in
    sym (ap count_at past)

pub returns-in-None-clause-told : goal.returns-in-None-clause-told
returns-in-None-clause-told g c =
    let past : slot_of c.args.self.now.slots.items c.args.self.now.first c.args.object ≡ None
    = slot_past c.args.self.now.slots.items c.args.self.now.first c.args.object (λ place is. search (rules, c.in-None.ensures.missing place is)) in
    rw past tt
