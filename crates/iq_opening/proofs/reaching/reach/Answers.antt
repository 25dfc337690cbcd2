use Rattle.std.proofs.Common.{ap, ◌∙◌, sym, true, length, length-set, ◌∷◌, []}
use Rattle.iq_block_store.specs.Frames.{has_header}
use Rattle.iq_opening.specs.Steps.{visit}
use Rattle.iq_opening.proofs.Ways.{err_exit, stop_unreachable}
use Rattle.iq_opening.proofs.OneStep.{visit_unreachable, visit_wrong, visit_right}
use Rattle.iq_opening.proofs.reaching.reach.Goals as goal

pub returns-in_err-may_reach-clause-err : goal.returns-in_err-may_reach-clause-err
returns-in_err-may_reach-clause-err g c =
    err_exit _ c.from_residual.result c.in_err-may_reach.field-0.0 c.from_residual.ensures.1
    (stop_unreachable g.D.Device (λ all. visit c.args.holder c.args.at c.args.kind ∷ []) c.args.disk.now c.args.reached.now _ _ c.in_err-may_reach.ensures.err
    (λ all f told found. visit_unreachable all c.args.reached.now c.args.holder c.args.at c.args.kind f (c.requires all told) found))

pub returns-in-Ok-clause-ok : goal.returns-in-Ok-clause-ok
returns-in-Ok-clause-ok g c = record {
  looked = c.read.ensures.looked;
  size = ap length c.set.ensures ∙ length-set c.args.reached.now c.args.at true;
  walked = λ all told.
      rw c.set.ensures
      (visit_right all c.args.reached.now c.args.holder c.args.at c.args.kind (c.requires all told) c.in_ok-may_reach.ensures.ok
      (ap (has_header c.args.kind c.args.at) (sym (c.in-Ok.ensures.block all told)) ∙ c.in-Ok.ensures.header));
}

pub returns-in-Err-BadHeader-clause-err : goal.returns-in-Err-BadHeader-clause-err
returns-in-Err-BadHeader-clause-err g c =
    let cause = rw c.in-Err-BadHeader.field-0-is at c.in-Err-BadHeader.ensures.cause in
    let came = rw c.in-Err-BadHeader.field-0-is at c.in-Err-BadHeader.ensures.came in
    rw c.bad.ensures record {
      looked = c.read.ensures.looked;
      cause = λ all told.
          visit_wrong all c.args.reached.now c.args.holder c.args.at c.args.kind (c.requires all told) c.in_ok-may_reach.ensures.ok
          (ap (has_header c.args.kind c.args.at) (sym (came all told)) ∙ cause.1);
    }
