use Rattle.std.proofs.Common.{◌≡◌, take}
use Rattle.std.specs.List.{All}
use Rattle.iq_block_store.specs.Looks.{HasLooked}
use Rattle.iq_table_objects.specs.Opening.{IsSlotOpened, references_of}
use Rattle.iq_table_objects.proofs.opening.open_all.Given as goal

abbrev pub invariant-loop-reference : goal.invariant-loop-reference
invariant-loop-reference g l = record {
  looked : HasLooked g.D.Device l.fn.disk l.disk;
  each : references_of l.slots.items ≡ take l.reference-index l.references;
  opened : All (IsSlotOpened (g.D.Device.blocks l.fn.disk)) l.slots.items;
}
