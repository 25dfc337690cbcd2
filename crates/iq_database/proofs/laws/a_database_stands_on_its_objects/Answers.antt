use Rattle.iq_database.proofs.Frames.{stands_on}
use Rattle.iq_database.proofs.laws.a_database_stands_on_its_objects.Goals as goal

pub returns : goal.returns
returns c = stands_on
