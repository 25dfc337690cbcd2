use Rattle.std.proofs.Common.{arith, ◌∙◌}
use Rattle.iq_bitmap.proofs.Lanes.{lanes_more}
use Rattle.iq_bitmap.proofs.operations.apply.Goals as goal

pub lanes-preserved : goal.lanes-preserved
lanes-preserved g c = record {
  within = omega arith;
  done = lanes_more g.O.WordOperation.on_words c.lanes.at 4 c.lanes.words c.args.others.now c.apply_lanes.new.words (omega arith) (omega arith) c.apply_lanes.ensures ∙ c.lanes.invariant.done;
}
