use Rattle.std.proofs.Common.{rules, arith, refl, sym, ap, subst, ◌∙◌, ◌≡◌, ◌≤◌, ◌<◌, ℕ, List, length, take, drop, ◌++◌}
use Rattle.iq_table_objects.specs.declared.table_objects.Slot.{Slot}
use Rattle.iq_table_objects.specs.Opening.{AreStanding, SamePages, AreSettled}
use Rattle.iq_table_objects.specs.Views.{ReadAsTold, seen_by}
use Rattle.iq_table_objects.proofs.TableLemmas.{ok_map}
use Rattle.iq_table_objects.proofs.ClosingLemmas.{standing_is, closed_are, whole_again}
use Rattle.iq_table_objects.proofs.table_objects.TableObjects.close.Goals as goal

pub close_all-outcome-requires-clause-stands : goal.close_all-outcome-requires-clause-stands
close_all-outcome-requires-clause-stands g c =
    subst (AreStanding (g.D.Device.blocks c.args.self.disk) (g.T.Taker.left c.args.self.space)) (sym c.deref_mut.ensures.value)
    (standing_is (g.D.Device.blocks c.args.self.disk) (g.T.Taker.left c.args.self.space) c.args.self.slots.items c.args.self.sound)

pub returns-clause-told : goal.returns-clause-told
returns-clause-told g c =
    let before = g.T.Taker.left c.args.self.space in
    let after = g.T.Taker.left c.close_all-outcome.new.space in
    let slots = c.args.self.slots.items in
    let now = c.close_all-outcome.new.slots in
    let same : SamePages slots now = subst (λ (ss : List Slot). SamePages ss now) c.deref_mut.ensures.value c.close_all-outcome.ensures.pages in
    let whole : take c.args.self.slots.len (now ++ drop (length now) slots) ≡ now = whole_again slots now c.args.self.slots.len same.size (search rules) in
    ok_map (AreSettled (g.D.Device.blocks c.close_all-outcome.new.disk) after now) _ c.close_all-outcome.result
    (λ settled. subst (λ (ss : List Slot). ReadAsTold (g.D.Device.blocks c.close_all-outcome.new.disk) c.args.self.first ss (seen_by g.D.Device c.args.self)) (sym whole)
    (closed_are g.D.Device before after c.args.self.disk c.close_all-outcome.new.disk slots now c.args.self.first (g.D.Device.faults c.args.self.disk) c.args.self.refused
    c.close_all-outcome.ensures.put (standing_is (g.D.Device.blocks c.args.self.disk) before slots c.args.self.sound) same settled))
    c.close_all-outcome.ensures.settled

pub returns-clause-stands : goal.returns-clause-stands
returns-clause-stands g c =
    let after = g.T.Taker.left c.close_all-outcome.new.space in
    let slots = c.args.self.slots.items in
    let now = c.close_all-outcome.new.slots in
    let same : SamePages slots now = subst (λ (ss : List Slot). SamePages ss now) c.deref_mut.ensures.value c.close_all-outcome.ensures.pages in
    let whole : take c.args.self.slots.len (now ++ drop (length now) slots) ≡ now = whole_again slots now c.args.self.slots.len same.size (search rules) in
    subst (AreStanding (g.D.Device.blocks c.close_all-outcome.new.disk) after) (sym whole) c.close_all-outcome.ensures.stands
