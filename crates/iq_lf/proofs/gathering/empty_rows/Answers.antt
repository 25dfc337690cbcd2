use Rattle.std.proofs.Common.{ℕ, false, replicate, ap, ◌∙◌, arith}
use Rattle.iq_lf.proofs.GatherLaws.{empty_next, empty_all}
use Rattle.iq_lf.proofs.gathering.empty_rows.Goals as goal

pub loop-c-preserved : goal.loop-c-preserved
loop-c-preserved c =
    rw c.in_ok-push.ensures.items (empty_next c.loop-c.c c.args.used.now c.loop-c.rows.items c.in_ok-empty.field-0
    (λ on. c.in_ok-empty.ensures ∙ ap (λ (n : ℕ). replicate n false) (c.rows_where.ensures on)) c.loop-c.invariant)

pub returns-clause-rows : goal.returns-clause-rows
returns-clause-rows c = empty_all c.loop-c.c c.args.used.now c.loop-c.rows.items (omega arith) c.loop-c.invariant
