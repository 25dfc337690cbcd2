use Rattle.std.proofs.Common.{drop, ◌≡◌, ◌+◌, ◌*◌, true}
use Rattle.iq_catalog.specs.Storable.{are_indexes}
use Rattle.iq_opening.specs.Steps.{indexes_steps}
use Rattle.iq_opening.specs.Calls.{Leads}
use Rattle.iq_opening.proofs.objects.reach_indexes.Given as goal

abbrev pub invariant-loop-index : goal.invariant-loop-index
invariant-loop-index g l = record {
  byte : l.byte ≡ 57 + 55 * l.fn.columns + 62 * l.index-index;
  storable : are_indexes l.fn.columns (drop l.index-index l.indexes) ≡ true;
  leads : Leads g.D.Device (λ all. indexes_steps all l.blocks (57 + 55 * l.fn.columns) l.indexes)
      (λ all. indexes_steps all l.blocks l.byte (drop l.index-index l.indexes)) l.fn.disk l.disk l.fn.reached l.reached;
}
