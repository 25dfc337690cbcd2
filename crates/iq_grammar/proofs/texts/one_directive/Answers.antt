use Rattle.std.proofs.Common.{sym, ap, ◌∙◌}
use Rattle.iq_grammar.specs.Directives.{directive_of}
use Rattle.iq_grammar.proofs.Laws.{directive_one}
use Rattle.iq_grammar.proofs.texts.one_directive.Goals as goal

pub returns : goal.returns
returns c = λ text s t p q. sym p.is ∙ ap directive_of (directive_one _ p.draft q.draft p.spelled q.spelled) ∙ q.is
