use Rattle.std.proofs.Common.{◌∙◌, [], arith, refl}
use Rattle.iq_opening.specs.Tables.{coded}
use Rattle.iq_opening.specs.Steps.{tables_steps}
use Rattle.iq_opening.specs.Walk.{walked}
use Rattle.iq_opening.specs.Opening.{none_reached}
use Rattle.iq_opening.proofs.Ways.{err_exit, open_fault_on}
use Rattle.iq_opening.proofs.Wholes.{from_none, none_size, same_tables}
use Rattle.iq_opening.proofs.opening.reach_root.Goals as goal

pub reach_tables-requires : goal.reach_tables-requires
reach_tables-requires g c = λ all told. none_size c.args.count c.in_ok-reached.reached c.in_ok-reached.ensures ∙ c.requires all told

pub returns-in_err-tables-clause-cause : goal.returns-in_err-tables-clause-cause
returns-in_err-tables-clause-cause g c =
    err_exit _ c.from_residual-in_err-tables.result c.in_err-tables.field-0.0 c.from_residual-in_err-tables.ensures.1
    (open_fault_on (λ all. walked all c.in_ok-reached.reached (tables_steps all coded c.args.body [] c.as_slice.result.now))
    (λ all. walked all (none_reached c.args.count) (tables_steps all coded c.args.body [] c.args.root.now.tables)) c.in_err-tables.field-0.0
    (g.D.Device.blocks c.args.disk.now) (g.D.Device.blocks c.args.disk.now) _ _ _ _ refl (omega arith) (omega arith)
    (λ all b told bad. from_none all c.args.count c.args.body c.in_ok-reached.reached _ _ _ c.in_ok-reached.ensures c.as_slice.ensures.value bad)
    c.in_err-tables.ensures.err.cause)

pub returns-clause-tables : goal.returns-clause-tables
returns-clause-tables g c = λ all told. same_tables all _ _ c.in_ok-tables.tables c.as_slice.ensures.value (c.in_ok-tables.ensures.tables all told)

pub returns-clause-count : goal.returns-clause-count
returns-clause-count g c = c.in_ok-tables.ensures.ok.size ∙ none_size c.args.count c.in_ok-reached.reached c.in_ok-reached.ensures

pub returns-clause-ok : goal.returns-clause-ok
returns-clause-ok g c = λ all told.
    from_none all c.args.count c.args.body c.in_ok-reached.reached _ _ _ c.in_ok-reached.ensures c.as_slice.ensures.value
    (c.in_ok-tables.ensures.ok.walked all told)
