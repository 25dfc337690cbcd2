use Rattle.std.proofs.Common.{arith, sym, subst, ◌≡◌, ◌≤◌, List, [], ℕ, Option}
use Rattle.iq_block_map.specs.Takers.{AreSpare}
use Rattle.iq_table_objects.specs.Tables.{AreSound}
use Rattle.iq_table_objects.proofs.OpeningLemmas.{sound_open, opened_are}
use Rattle.iq_table_objects.proofs.table_objects.TableObjects.open.Goals as goal

pub invariant_of-result : goal.invariant_of-result
invariant_of-result g c =
    let told = g.D.Device.blocks c.args.disk in
    let left = g.T.Taker.left c.args.space in
    let same = c.in-Ok.ensures.looked.unchanged in
    record {
      spare = subst (λ (t : Option (List (List ℕ))). AreSpare t left) (sym same) c.requires.spare;
      sound = subst (λ (t : Option (List (List ℕ))). AreSound t left c.in-Ok.slots.items) (sym same)
          (sound_open told left c.in-Ok.slots.items c.args.references.now c.requires.spare c.requires.each c.in-Ok.ensures.each c.in-Ok.ensures.opened);
      lack = λ some. absurd (omega (arith, some));
    }

pub returns-in-Ok-clause-opened : goal.returns-in-Ok-clause-opened
returns-in-Ok-clause-opened g c =
    opened_are (g.D.Device.blocks c.args.disk) (g.D.Device.blocks c.open_all.new.disk) c.in-Ok.slots.items c.args.first (g.D.Device.faults c.open_all.new.disk)
    c.args.references.now (record { reference = record { root = 0; pages = 0 }; object = record { pages = []; leaves = []; top = 0; lost = [] } })
    c.in-Ok.ensures.looked.unchanged c.in-Ok.ensures.each c.in-Ok.ensures.opened
