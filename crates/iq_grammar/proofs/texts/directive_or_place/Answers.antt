use Rattle.iq_grammar.proofs.Laws.{directive_or_faulty, directive_one_faulty}
use Rattle.iq_grammar.proofs.texts.directive_or_place.Goals as goal

pub returns-clause-not_both : goal.returns-clause-not_both
returns-clause-not_both c = λ text s place p f. directive_or_faulty _ _ p.draft place p.spelled f

pub returns-clause-one_place : goal.returns-clause-one_place
returns-clause-one_place c = λ text m n f g. directive_one_faulty _ _ m n f g
