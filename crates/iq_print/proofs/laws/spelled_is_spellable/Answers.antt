use Rattle.iq_print.proofs.StatementsSpelled.{text_can}
use Rattle.iq_print.proofs.laws.spelled_is_spellable.Goals as goal

pub returns : goal.returns
returns c = text_can
