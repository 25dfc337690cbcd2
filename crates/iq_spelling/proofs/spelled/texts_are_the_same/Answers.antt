use Rattle.iq_spelling.proofs.Whole.{text_reads}
use Rattle.iq_spelling.proofs.ApartStatements.{text_told, one_told}
use Rattle.iq_spelling.proofs.spelled.texts_are_the_same.Goals as goal

pub returns : goal.returns
returns c = record { read = text_reads; only = text_told; one = one_told }
