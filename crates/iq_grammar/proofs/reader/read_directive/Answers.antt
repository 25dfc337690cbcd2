use Rattle.iq_grammar.proofs.Laws.{directive_found, directive_told, directive_place}
use Rattle.iq_grammar.proofs.reader.read_directive.Goals as goal

pub returns-clause-found : goal.returns-clause-found
returns-clause-found c = directive_found _ _ _ c.reading.ensures

pub returns-clause-only : goal.returns-clause-only
returns-clause-only c = directive_told _ _ _ c.reading.ensures

pub returns-clause-place : goal.returns-clause-place
returns-clause-place c = directive_place _ _ _ c.reading.ensures
