use Rattle.std.proofs.Common.{◌∙◌, arith, []}
use Rattle.iq_block_map.proofs.PutLemmas.{looked_then}
use Rattle.iq_opening.specs.Tables.{coded}
use Rattle.iq_opening.specs.Steps.{tables_steps}
use Rattle.iq_opening.specs.Walk.{walked}
use Rattle.iq_opening.specs.Opening.{none_reached, root_opened}
use Rattle.iq_opening.proofs.Ways.{err_exit, open_fault_on}
use Rattle.iq_opening.proofs.Wholes.{root_walked}
use Rattle.iq_opening.proofs.opening.open_root.Goals as goal

pub returns-in_err-tables-clause-cause : goal.returns-in_err-tables-clause-cause
returns-in_err-tables-clause-cause g c =
    err_exit _ c.from_residual-in_err-tables.result c.in_err-tables.field-0.0 c.from_residual-in_err-tables.ensures.1
    (open_fault_on (λ all. walked all (none_reached c.in_ok-count.count) (tables_steps all coded c.body_of-body.result [] c.args.root.tables))
    (λ all. root_opened all c.args.root) c.in_err-tables.field-0.0
    (g.D.Device.blocks c.args.disk.now) _ _ _ _ _ c.in_ok-count.ensures.looked.unchanged c.in_ok-count.ensures.looked.later (omega arith)
    (λ all b told bad.
    root_walked all c.args.root c.in_ok-count.count c.body_of-body.result _ c.if-root-eq1.false c.if-count-lt4.false
    (c.in_ok-count.ensures.count all told) c.if-count-root.false c.body_of-body.ensures bad)
    c.in_err-tables.ensures.cause)

pub returns-clause-looked : goal.returns-clause-looked
returns-clause-looked g c = looked_then g.D.Device c.args.disk.now _ _ c.in_ok-count.ensures.looked c.in_ok-tables.ensures.looked

pub returns-clause-ok : goal.returns-clause-ok
returns-clause-ok g c = λ all told.
    root_walked all c.args.root c.in_ok-count.count c.body_of-body.result _ c.if-root-eq1.false c.if-count-lt4.false
    (c.in_ok-count.ensures.count all told) c.if-count-root.false c.body_of-body.ensures
    (c.in_ok-tables.ensures.ok all (c.in_ok-count.ensures.looked.unchanged ∙ told))
