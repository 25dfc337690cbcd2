use Rattle.iq_opening.proofs.Stands.{tables_stand}
use Rattle.iq_opening.proofs.laws.tables_stand_on_what_they_reach.Goals as goal

pub returns : goal.returns
returns c = λ all now format body before heads first reached size is same. tables_stand all now format body before heads first reached size is same
