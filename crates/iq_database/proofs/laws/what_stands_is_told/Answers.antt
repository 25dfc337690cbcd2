use Rattle.iq_database.proofs.Frames.{described}
use Rattle.iq_database.proofs.laws.what_stands_is_told.Goals as goal

pub returns : goal.returns
returns c = described
