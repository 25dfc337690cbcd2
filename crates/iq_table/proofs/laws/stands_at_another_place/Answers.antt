use Rattle.iq_table.proofs.Moves.{table_moved}
use Rattle.iq_table.proofs.laws.stands_at_another_place.Goals as goal

pub returns : goal.returns
returns c = table_moved
