use Rattle.std.proofs.Common.{◌≡◌, drop}
use Rattle.iq_block_store.specs.Looks.{HasLooked}
use Rattle.iq_block_map.specs.Refs.{WhereTold}
use Rattle.iq_descriptors.specs.Stored.{tables_ahead, tables_behind, tables_of}
use Rattle.iq_descriptors.proofs.reading.tables.Given as goal

abbrev pub invariant-loop-head : goal.invariant-loop-head
invariant-loop-head g l = record {
  looked : HasLooked g.D.Device l.fn.disk l.disk;
  so_far : WhereTold (g.D.Device.blocks l.fn.disk)
      (λ all. tables_ahead l.tables.items (tables_behind all l.before (drop l.head-index l.heads)) ≡ tables_of all l.heads);
}
