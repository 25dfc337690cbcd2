-- What the rows of an answer are, however they lie in memory.
use Rattle.std.specs.Prelude.{List, map}
use Rattle.iq_model.specs.declared.answers.Out.{Out}
use Rattle.iq_model.specs.declared.answer_rows.AnswerForm.{AnswerForm}
use Rattle.iq_model.specs.declared.answer_rows.AnswerForm.TheVariants.{Columns, Values}
use Rattle.iq_model.specs.Outs.{outs_of}

-- the rows of columns, or the rows that were made value by value
abbrev pub answered : AnswerForm → List (List Out)
answered (Columns rows) = map outs_of rows.rows
answered (Values rows) = rows
