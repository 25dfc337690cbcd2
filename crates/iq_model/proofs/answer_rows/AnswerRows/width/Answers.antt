use Rattle.std.proofs.Common.{◌≡◌, ◌<◌, [], length, map, slice_index_or, sym, ap, ◌∙◌, subst, ℕ, List}
use Rattle.iq_model.specs.declared.answers.Out.{Out}
use Rattle.iq_model.specs.AnswerForms.{answered}
use Rattle.iq_model.specs.Outs.{outs_of}
use Rattle.iq_model.proofs.AnswerLaws.{length-outs, rows_there}
use Rattle.iq_model.proofs.answer_rows.AnswerRows.width.Goals as goal

pub returns-in-Columns : goal.returns-in-Columns
returns-in-Columns c =
    let are : c.args.self.now ≡ map outs_of c.in-Columns.rows.rows = sym c.self.view_is ∙ ap answered c.in-Columns.is in
    let there = rows_there c.args.self.now c.in-Columns.rows.rows c.args.r are c.requires in
    sym (c.width.ensures.each c.args.r there) ∙ sym (length-outs c.in-Columns.rows.rows c.args.r there)
    ∙ ap (λ (rows : List (List Out)). length (slice_index_or rows c.args.r [])) (sym are)
