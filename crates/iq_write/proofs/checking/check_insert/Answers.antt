use Rattle.std.proofs.Common.{sym, ◌∙◌, inr}
use Rattle.iq_write.proofs.Tests.{insert_missing, insert_found}
use Rattle.iq_write.proofs.checking.check_insert.Goals as goal

pub returns-in_default-clause-cause : goal.returns-in_default-clause-cause
returns-in_default-clause-cause c = inr (rw c.again.ensures (insert_missing c.args.name.now c.args.rows.now c.args.tables.now (sym c.place_of.ensures.place ∙ c.in_default.is)))

pub returns-in-None-clause-granted : goal.returns-in-None-clause-granted
returns-in-None-clause-granted c =
    insert_found c.args.name.now c.args.rows.now c.args.tables.now c.in-Some.place c.index-tables-place.result c.as_slice.result.now _ (sym c.place_of.ensures.place ∙ c.in-Some.is) c.index-tables-place.is
    (c.as_slice.ensures ∙ c.in_ok-columns.ensures) (sym c.first_bad_row.ensures.found ∙ c.in-None.is)

pub returns-clause-cause : goal.returns-clause-cause
returns-clause-cause c =
    inr
    (insert_found c.args.name.now c.args.rows.now c.args.tables.now c.in-Some.place c.index-tables-place.result c.as_slice.result.now _ (sym c.place_of.ensures.place ∙ c.in-Some.is) c.index-tables-place.is
    (c.as_slice.ensures ∙ c.in_ok-columns.ensures) (sym c.first_bad_row.ensures.found ∙ c.in-Some-first_bad_row.is))
