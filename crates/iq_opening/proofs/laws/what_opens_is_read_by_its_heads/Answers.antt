use Rattle.iq_opening.proofs.Described.{tables_passed}
use Rattle.iq_opening.proofs.laws.what_opens_is_read_by_its_heads.Goals as goal

pub returns : goal.returns
returns c = λ all format body before heads first reached size is. tables_passed all format body before heads first reached size is
