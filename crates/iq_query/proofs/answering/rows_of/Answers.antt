use Rattle.std.proofs.Common.{rules, ◌∷◌, [], ◌∙◌, ap, ℕ, List, map, pos}
use Rattle.iq_base.specs.declared.values.Value.{Value}
use Rattle.iq_model.specs.declared.answers.Out.TheVariants.{Int}
use Rattle.iq_model.specs.Outs.{outs_of}
use Rattle.iq_pages.specs.PageCalls.{view}
use Rattle.std.specs.Option.{option_copied}
use Rattle.iq_query.proofs.Reading.{rows_counted, rows_read, columns_cause}
use Rattle.iq_query.proofs.answering.rows_of.Goals as goal

pub returns-in-CountAll-clause-counted : goal.returns-in-CountAll-clause-counted
returns-in-CountAll-clause-counted g c = λ counts t stands.
    c.in_ok-counted-in-CountAll.ensures
    ∙ ap (λ (n : ℕ). (Int (pos n) ∷ []) ∷ []) (c.count.ensures ∙ rows_counted (option_copied c.args.test) t c.in_ok-rows.rows (c.in_ok-rows.ensures.rows t stands))

pub returns-in_err-rows_of-in_default-clause-cause :
    goal.returns-in_err-rows_of-in_default-clause-cause
returns-in_err-rows_of-in_default-clause-cause g c =
    let cause = columns_cause c.args.table.now c.args.places.now (view g.S.PageSource c.args.source.now) (view g.S.PageSource c.chosen_rows.new.source) (view g.S.PageSource c.rows_of.new.source) c.in_err-rows_of-in_default.field-0.0
    c.requires.within c.chosen_rows.ensures.reads.kept c.chosen_rows.ensures.reads.later c.in_err-rows_of-in_default.ensures.cause in
    search (rules, cause)

pub returns-clause-listed : goal.returns-clause-listed
returns-clause-listed g c = λ listed t stands.
    c.of_columns.ensures
    ∙ ap (λ (rows : List (List Value)). map outs_of rows)
    (rows_read c.args.table.now (g.S.PageSource.told c.args.source.now) (g.S.PageSource.told c.chosen_rows.new.source) (option_copied c.args.test) t c.args.places.now c.in_ok-rows.rows c.in_ok-rows_of-in_default.field-0.rows
    (λ object. c.chosen_rows.ensures.reads.kept.told object) (c.in_ok-rows.ensures.rows t stands) c.in_ok-rows_of-in_default.ensures.rows stands)
