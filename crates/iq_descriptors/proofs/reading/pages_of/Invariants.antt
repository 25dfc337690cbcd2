use Rattle.std.proofs.Common.{◌≡◌, ◌∷◌, [], drop}
use Rattle.iq_block_store.specs.Looks.{HasLooked}
use Rattle.iq_block_map.specs.Refs.{WhereTold}
use Rattle.iq_descriptors.specs.Stored.{pages_behind, pages_in}
use Rattle.iq_descriptors.proofs.reading.pages_of.Given as goal

abbrev pub invariant-loop-at : goal.invariant-loop-at
invariant-loop-at g l = record {
  looked : HasLooked g.D.Device l.fn.disk l.disk;
  so_far : WhereTold (g.D.Device.blocks l.fn.disk)
      (λ all. pages_behind l.pages.items (pages_in all (drop l.at-index l.others)) ≡ pages_behind (l.page ∷ []) (pages_in all l.others));
}
