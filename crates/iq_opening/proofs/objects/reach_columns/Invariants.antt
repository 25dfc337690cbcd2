use Rattle.std.proofs.Common.{drop, ◌≡◌, ◌+◌, ◌*◌, true}
use Rattle.iq_catalog.specs.Storable.{are_columns}
use Rattle.iq_opening.specs.Steps.{columns_steps}
use Rattle.iq_opening.specs.Calls.{Leads}
use Rattle.iq_opening.proofs.objects.reach_columns.Given as goal

abbrev pub invariant-loop-column : goal.invariant-loop-column
invariant-loop-column g l = record {
  byte : l.byte ≡ 57 + 55 * l.column-index;
  storable : are_columns (drop l.column-index l.columns) ≡ true;
  leads : Leads g.D.Device (λ all. columns_steps all l.blocks 57 l.columns) (λ all. columns_steps all l.blocks l.byte (drop l.column-index l.columns))
      l.fn.disk l.disk l.fn.reached l.reached;
}
