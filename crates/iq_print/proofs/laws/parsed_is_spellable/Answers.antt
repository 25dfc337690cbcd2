use Rattle.iq_print.proofs.ReadTokens.{read_can, read_again}
use Rattle.iq_print.proofs.laws.parsed_is_spellable.Goals as goal

pub returns-clause-spellable : goal.returns-clause-spellable
returns-clause-spellable c = read_can

pub returns-clause-again : goal.returns-clause-again
returns-clause-again c = read_again
