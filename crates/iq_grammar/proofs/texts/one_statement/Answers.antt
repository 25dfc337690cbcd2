use Rattle.std.proofs.Common.{sym, ap, ◌∙◌}
use Rattle.iq_grammar.specs.Statements.{statement_of}
use Rattle.iq_grammar.proofs.Laws.{spells_one}
use Rattle.iq_grammar.proofs.texts.one_statement.Goals as goal

pub returns : goal.returns
returns c = λ text s t p q. sym p.is ∙ ap statement_of (spells_one _ p.draft q.draft p.spelled q.spelled) ∙ q.is
