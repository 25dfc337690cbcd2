use Rattle.std.proofs.Common.{ap, ◌∙◌, sym, true, length, length-set, ◌∷◌, [], nat_eq}
use Rattle.std.specs.List.{list_all}
use Rattle.iq_opening.specs.Steps.{visit_map}
use Rattle.iq_opening.proofs.Ways.{err_exit, stop_unreachable}
use Rattle.iq_opening.proofs.OneStep.{map_unreachable, map_no_header, map_level_wrong, map_spare_wrong, map_right}
use Rattle.iq_opening.proofs.reaching.reach_map.Goals as goal

pub returns-in_err-may_reach-clause-err : goal.returns-in_err-may_reach-clause-err
returns-in_err-may_reach-clause-err g c =
    err_exit _ c.from_residual.result c.in_err-may_reach.field-0.0 c.from_residual.ensures.1
    (stop_unreachable g.D.Device (λ all. visit_map c.args.holder c.args.at c.args.level c.args.used ∷ []) c.args.disk.now c.args.reached.now _ _ c.in_err-may_reach.ensures.err
    (λ all f told found. map_unreachable all c.args.reached.now c.args.holder c.args.at c.args.level c.args.used f (c.requires.bits all told) found))

pub returns-in-Err-BadHeader-clause-err : goal.returns-in-Err-BadHeader-clause-err
returns-in-Err-BadHeader-clause-err g c =
    let cause = rw c.in-Err-BadHeader.field-0-is at c.in-Err-BadHeader.ensures.cause in
    rw c.bad.ensures record {
      looked = c.read_raw_map.ensures.looked;
      cause = λ all told.
          map_no_header all c.args.reached.now c.args.holder c.args.at c.args.level c.args.used (c.requires.bits all told) c.in_ok-may_reach.ensures.ok
          (cause.1 all told);
    }

pub returns-then-raw-level-clause-err : goal.returns-then-raw-level-clause-err
returns-then-raw-level-clause-err g c =
    rw c.bad-then-raw-level.ensures record {
      looked = c.read_raw_map.ensures.looked;
      cause = λ all told.
          map_level_wrong all c.args.reached.now c.args.holder c.args.at c.args.level c.args.used c.in-Ok.raw (c.requires.bits all told)
          c.in_ok-may_reach.ensures.ok (c.in-Ok.ensures.ok all told) c.if-raw-level.true;
    }

pub returns-then-not-is_zero-clause-err : goal.returns-then-not-is_zero-clause-err
returns-then-not-is_zero-clause-err g c =
    rw c.bad-then-not-is_zero.ensures record {
      looked = c.read_raw_map.ensures.looked;
      cause = λ all told.
          map_spare_wrong all c.args.reached.now c.args.holder c.args.at c.args.level c.args.used c.in-Ok.raw (c.requires.bits all told)
          c.in_ok-may_reach.ensures.ok (c.in-Ok.ensures.ok all told) c.if-raw-level.false
          (ap (list_all (nat_eq 0)) (sym c.split_at.ensures.back) ∙ (sym c.is_zero.ensures ∙ c.if-not-is_zero.true));
    }

pub returns-clause-ok : goal.returns-clause-ok
returns-clause-ok g c = record {
  looked = c.read_raw_map.ensures.looked;
  size = ap length c.set.ensures ∙ length-set c.args.reached.now c.args.at true;
  walked = λ all told.
      rw c.set.ensures
      (map_right all c.args.reached.now c.args.holder c.args.at c.args.level c.args.used c.in-Ok.raw (c.requires.bits all told)
      c.in_ok-may_reach.ensures.ok (c.in-Ok.ensures.ok all told) c.if-raw-level.false
      (ap (list_all (nat_eq 0)) (sym c.split_at.ensures.back) ∙ (sym c.is_zero.ensures ∙ c.if-not-is_zero.false)));
}
