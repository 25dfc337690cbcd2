use Rattle.std.proofs.Common.{sym, ◌∙◌, subst, ℕ}
use Rattle.iq_pages.specs.PageCalls.{view}
use Rattle.iq_pieces.specs.Counts.{OnlyReads}
use Rattle.iq_query.proofs.Reading.{if_err}
use Rattle.iq_query.proofs.Selects.{none_there, granted_there, answered_there, needed_there, refused_there, if_ok, on_ok}
use Rattle.iq_query.proofs.answering.select.Goals as goal

pub returns-in-None-clause-cause : goal.returns-in-None-clause-cause
returns-in-None-clause-cause g c =
    rw c.again.ensures (none_there c.args.statement.now c.args.tables.now (view g.S.PageSource c.args.source.now) (view g.S.PageSource c.args.source.now) (sym c.place_of.ensures.place ∙ c.in-None.is))

pub returns-in-Some-clause-granted : goal.returns-in-Some-clause-granted
returns-in-Some-clause-granted g c =
    let place = sym c.place_of.ensures.place ∙ c.in-Some.is in
    on_ok _ _ c.answer_of.result (λ h. granted_there c.args.statement.now c.args.tables.now c.in-Some.place c.index-tables-place.result place c.index-tables-place.is h) c.answer_of.ensures.granted

pub returns-in-Some-clause-answer : goal.returns-in-Some-clause-answer
returns-in-Some-clause-answer g c =
    let place = sym c.place_of.ensures.place ∙ c.in-Some.is in
    if_ok _ _ c.answer_of.result (λ a h. answered_there c.args.statement.now (g.S.PageSource.told c.args.source.now) c.args.tables.now c.in-Some.place c.index-tables-place.result a place c.index-tables-place.is h) c.answer_of.ensures.answer

pub returns-in-Some-clause-reads : goal.returns-in-Some-clause-reads
returns-in-Some-clause-reads g c =
    let place = sym c.place_of.ensures.place ∙ c.in-Some.is in
    subst (λ (n : ℕ). OnlyReads n (view g.S.PageSource c.args.source.now) (view g.S.PageSource c.answer_of.new.source))
    (needed_there c.args.statement.now c.args.tables.now c.in-Some.place c.index-tables-place.result place (rw c.in-Some.is at c.place_of.ensures.within) c.index-tables-place.is) c.answer_of.ensures.reads

pub returns-in-Some-clause-cause : goal.returns-in-Some-clause-cause
returns-in-Some-clause-cause g c =
    let place = sym c.place_of.ensures.place ∙ c.in-Some.is in
    if_err _ _ c.answer_of.result
    (λ cause h. refused_there c.args.statement.now c.args.tables.now c.in-Some.place c.index-tables-place.result (view g.S.PageSource c.args.source.now) (view g.S.PageSource c.answer_of.new.source) cause place (rw c.in-Some.is at c.place_of.ensures.within) c.index-tables-place.is h)
    c.answer_of.ensures.cause
