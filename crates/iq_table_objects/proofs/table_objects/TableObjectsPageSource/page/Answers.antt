use Rattle.std.proofs.Common.{rules, arith, ap, sym, subst, ◌≡◌, ◌<◌, ℕ, None, Ok, Err, Option, List, length, is_err, IfErr}
use Rattle.iq_block_map.specs.Takers.{AreSpare}
use Rattle.iq_block_map.specs.declared.faults.MapFault.{MapFault}
use Rattle.iq_table_objects.specs.Tables.{AreSound, ReadsFault, fault_count, count_at, slot_of}
use Rattle.iq_table_objects.proofs.TableLemmas.{slot_past}
use Rattle.iq_table_objects.proofs.CallLemmas.{stands_at, count_here}
use Rattle.iq_table_objects.proofs.ReadLemmas.{reads_is, inside_at}
use Rattle.iq_table_objects.proofs.table_objects.TableObjectsPageSource.page.Goals as goal

pub unreachable-requires : goal.unreachable-requires
unreachable-requires g c =
    let past : slot_of c.args.self.now.slots.items c.args.self.now.first c.args.object ≡ None
    = slot_past c.args.self.now.slots.items c.args.self.now.first c.args.object (λ place is. search (rules, c.in_default.ensures.missing place is)) in
    let none = ap count_at past in
    omega (arith, none, c.requires)

pub page-outcome-requires-clause-inside : goal.page-outcome-requires-clause-inside
page-outcome-requires-clause-inside g c =
    inside_at (g.D.Device.blocks c.args.self.now.disk) (g.T.Taker.left c.args.self.now.space) c.index.result.now
    (stands_at (g.D.Device.blocks c.args.self.now.disk) (g.T.Taker.left c.args.self.now.space) c.args.self.now.slots.items c.in-Some.place c.index.result.now
    c.args.self.now.sound (omega (arith, c.in-Some.ensures.found.1)) c.index.ensures)

pub invariant_of-self : goal.invariant_of-self
invariant_of-self g c =
    let left = g.T.Taker.left c.args.self.now.space in
    let same = c.page-outcome.ensures.looked.unchanged in
    record {
      spare = subst (λ (told : Option (List (List ℕ))). AreSpare told left) (sym same) c.args.self.now.spare;
      sound = subst (λ (told : Option (List (List ℕ))). AreSound told left c.args.self.now.slots.items) (sym same) c.args.self.now.sound;
      lack = c.args.self.now.lack;
    }

pub returns : goal.returns
returns g c =
    let old = c.args.self.now.disk in
    let new = c.page-outcome.new.disk in
    let slots = c.args.self.now.slots.items in
    let s = c.index.result.now in
    let within : c.in-Some.place < length slots = omega (arith, c.in-Some.ensures.found.1) in
    let count = count_here slots c.args.self.now.first c.args.object c.in-Some.place s c.in-Some.ensures.found.0 within c.index.ensures in
    let inner : c.args.n < length s.object.pages = omega (arith, count, c.requires) in
    let answers : IfErr c.page-outcome.result (λ e. ReadsFault (fault_count (g.D.Device.faults old) c.args.self.now.refused) (fault_count (g.D.Device.faults new) c.args.self.now.refused) c.args.object c.args.n e c.read_answer.result)
    = subst (λ (n : ℕ). IfErr c.page-outcome.result (λ (e : MapFault). ReadsFault n (fault_count (g.D.Device.faults new) c.args.self.now.refused) c.args.object c.args.n e c.read_answer.result))
    c.faults-before.ensures c.read_answer.ensures.cause in
    reads_is g.D.Device old new slots c.args.self.now.first c.args.object c.in-Some.place c.args.n s c.page-outcome.new.into c.args.self.now.refused c.read_answer.result
    c.page-outcome.result c.page-outcome.ensures.looked c.in-Some.ensures.found.0 within c.index.ensures inner c.read_answer.ensures.variant c.page-outcome.ensures.ok
    c.page-outcome.ensures.cause answers
