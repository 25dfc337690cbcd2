use Rattle.std.proofs.Common.{◌≡◌, ◌<◌, [], length, map, slice_index_or, sym, ap, ◌∙◌, subst, ℕ, List, arith}
use Rattle.iq_model.specs.declared.answers.Out.{Out}
use Rattle.iq_model.specs.declared.answers.Out.TheVariants as outs
use Rattle.iq_model.specs.AnswerForms.{answered}
use Rattle.iq_model.specs.Outs.{outs_of, out_of}
use Rattle.iq_cells.specs.Tables.{row_at}
use Rattle.iq_model.proofs.AnswerLaws.{length-outs, out_at, rows_there, column_there}
use Rattle.iq_model.proofs.answer_rows.AnswerRows.get.Goals as goal

pub get-requires-clause-row : goal.get-requires-clause-row
get-requires-clause-row c =
    rows_there c.args.self.now c.in-Columns.rows.rows c.args.r (sym c.self.view_is ∙ ap answered c.in-Columns.is) c.requires.row

pub get-requires-clause-column : goal.get-requires-clause-column
get-requires-clause-column c =
    let are : c.args.self.now ≡ map outs_of c.in-Columns.rows.rows = sym c.self.view_is ∙ ap answered c.in-Columns.is in
    let there = rows_there c.args.self.now c.in-Columns.rows.rows c.args.r are c.requires.row in
    omega (arith, column_there c.args.self.now c.in-Columns.rows.rows c.args.r c.args.c are there c.requires.column, c.width-width.ensures.each c.args.r there, c.width-width.ensures.kinds)

pub returns-in-Columns : goal.returns-in-Columns
returns-in-Columns c =
    let are : c.args.self.now ≡ map outs_of c.in-Columns.rows.rows = sym c.self.view_is ∙ ap answered c.in-Columns.is in
    let there = rows_there c.args.self.now c.in-Columns.rows.rows c.args.r are c.requires.row in
    let column = column_there c.args.self.now c.in-Columns.rows.rows c.args.r c.args.c are there c.requires.column in
    c.out_of.ensures ∙ ap out_of c.get.ensures ∙ sym (out_at c.in-Columns.rows.rows c.args.r there c.args.c column)
    ∙ ap (λ (rows : List (List Out)). slice_index_or (slice_index_or rows c.args.r []) c.args.c outs.Null) (sym are)
