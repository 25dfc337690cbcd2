use Rattle.std.proofs.Common.{arith, ◌+◌, ◌*◌}
use Rattle.iq_opening.specs.Steps.{index_steps, indexes_steps}
use Rattle.iq_opening.proofs.Ways.{err_exit, lead_on, lead_end, lead_stop}
use Rattle.iq_opening.proofs.Parts.{indexes_go_on, indexes_end}
use Rattle.iq_opening.proofs.Refs.{next_index}
use Rattle.iq_opening.proofs.objects.reach_indexes.Goals as goal

pub reach_index-requires-clause-first : goal.reach_index-requires-clause-first
reach_index-requires-clause-first g c =
    (next_index c.args.columns c.args.indexes.now c.loop-index.index-index c.index-item.result c.loop-index-test.true c.index-item.is
    c.loop-index.invariant.storable).first

pub reach_index-requires-clause-second : goal.reach_index-requires-clause-second
reach_index-requires-clause-second g c =
    (next_index c.args.columns c.args.indexes.now c.loop-index.index-index c.index-item.result c.loop-index-test.true c.index-item.is
    c.loop-index.invariant.storable).second

pub reach_index-requires-clause-third : goal.reach_index-requires-clause-third
reach_index-requires-clause-third g c =
    (next_index c.args.columns c.args.indexes.now c.loop-index.index-index c.index-item.result c.loop-index-test.true c.index-item.is
    c.loop-index.invariant.storable).third

pub returns-in_err-reach_index-clause-err : goal.returns-in_err-reach_index-clause-err
returns-in_err-reach_index-clause-err g c =
    err_exit _ c.from_residual.result c.in_err-reach_index.field-0.0 c.from_residual.ensures.1
    (lead_stop g.D.Device (λ all. indexes_steps all c.args.blocks.now (57 + 55 * c.args.columns) c.args.indexes.now) _
    (λ all. index_steps all c.args.blocks.now c.loop-index.byte c.index-item.result) _ _ _ _ _ _ _
    c.loop-index.invariant.leads c.in_err-reach_index.ensures.err
    (λ all told. indexes_go_on all c.args.blocks.now c.loop-index.byte c.loop-index.index-index c.args.indexes.now c.index-item.result c.loop-index-test.true c.index-item.is))

pub loop-index-preserved : goal.loop-index-preserved
loop-index-preserved g c = record {
  byte = omega (arith, c.loop-index.invariant.byte);
  storable = (next_index c.args.columns c.args.indexes.now c.loop-index.index-index c.index-item.result c.loop-index-test.true c.index-item.is
      c.loop-index.invariant.storable).rest;
  leads = lead_on g.D.Device (λ all. indexes_steps all c.args.blocks.now (57 + 55 * c.args.columns) c.args.indexes.now) _
      (λ all. index_steps all c.args.blocks.now c.loop-index.byte c.index-item.result) _ _ _ _ _ _ _
      c.loop-index.invariant.leads c.in_ok-reach_index.ensures.ok
      (λ all told. indexes_go_on all c.args.blocks.now c.loop-index.byte c.loop-index.index-index c.args.indexes.now c.index-item.result c.loop-index-test.true c.index-item.is);
}

pub returns-clause-ok : goal.returns-clause-ok
returns-clause-ok g c =
    lead_end g.D.Device (λ all. indexes_steps all c.args.blocks.now (57 + 55 * c.args.columns) c.args.indexes.now) _ _ _ _ _
    c.loop-index.invariant.leads
    (λ all told. indexes_end all c.args.blocks.now c.loop-index.byte c.loop-index.index-index c.args.indexes.now c.loop-index-test.false)
