use Rattle.iq_grammar.proofs.Laws.{told_found, told_only, told_place}
use Rattle.iq_grammar.proofs.reader.read.Goals as goal

pub returns-clause-found : goal.returns-clause-found
returns-clause-found c = told_found _ _ _ c.reading.ensures

pub returns-clause-only : goal.returns-clause-only
returns-clause-only c = told_only _ _ _ c.reading.ensures

pub returns-clause-place : goal.returns-clause-place
returns-clause-place c = told_place _ _ _ c.reading.ensures
