use Rattle.std.proofs.Common.{◌≡◌, drop, take, []}
use Rattle.iq_block_map.specs.Refs.{WhereTold}
use Rattle.iq_opening.specs.Tables.{coded}
use Rattle.iq_opening.specs.Steps.{tables_steps}
use Rattle.iq_opening.specs.Opening.{tables_at}
use Rattle.iq_opening.specs.Calls.{Leads}
use Rattle.iq_opening.proofs.tables.reach_tables.Given as goal

abbrev pub invariant-loop-head : goal.invariant-loop-head
invariant-loop-head g l = record {
  leads : Leads g.D.Device (λ all. tables_steps all coded l.fn.body [] l.heads) (λ all. tables_steps all coded l.fn.body l.before (drop l.head-index l.heads))
      l.fn.disk l.disk l.fn.reached l.reached;
  tables : WhereTold (g.D.Device.blocks l.fn.disk) (λ all. l.tables ≡ tables_at all (take l.head-index l.heads));
}
