use Rattle.iq_print.proofs.StatementForms.{text_is, text_is_read}
use Rattle.iq_print.proofs.laws.printed_is_read.Goals as goal

pub returns-clause-cases : goal.returns-clause-cases
returns-clause-cases c = text_is

pub returns-clause-read : goal.returns-clause-read
returns-clause-read c = text_is_read
