use Rattle.iq_script.proofs.Loading.{one_passed}
use Rattle.iq_script.proofs.loads.data_len.Goals as goal

pub loop-i-preserved : goal.loop-i-preserved
loop-i-preserved c =
    one_passed c.args.bytes.now c.loop-i.rest.now c.first_line.result.0.now c.first_line.result.1.now c.loop-i.i c.first_line.ensures.cut c.first_line.ensures.whole c.loop-i.invariant
