use Rattle.std.proofs.Common.{◌≡◌, ap, ap₂, ◌∙◌, List}
use Rattle.iq_base.specs.declared.descriptors.ColumnPart.{ColumnPart}
use Rattle.iq_base.specs.declared.descriptors.IndexPart.{IndexPart}
use Rattle.iq_base.specs.Limits.{longest, rows_within}
use Rattle.iq_table.specs.Limits.{as_columns, has_low_fast}
use Rattle.iq_table.proofs.Room.{finds_room}
use Rattle.iq_table.proofs.limits.limit_of.Goals as goal

pub returns-clause-room : goal.returns-clause-room
returns-clause-room c = λ rows k few within.
    let parts = c.args.parts.now.columns in
    let low_fast = has_low_fast c.args.parts.now.indexes in
    let text : c.longest_text.result ≡ longest (as_columns parts) = c.longest_text.ensures ∙ ap (λ (ps : List ColumnPart). longest (as_columns ps)) c.as_slice.ensures in
    let low : c.has_low_fast.result ≡ low_fast = c.has_low_fast.ensures ∙ ap (λ (is : List IndexPart). has_low_fast is) c.as_slice-2.ensures in
    let limit : c.limit_within.result ≡ rows_within (longest (as_columns parts)) low_fast = c.limit_within.ensures.value ∙ ap₂ rows_within text low in
    finds_room parts low_fast rows k (rw text at c.limit_within.ensures.short) (rw limit at few) within
