use Rattle.iq_plain_opening.proofs.More.{stored_same}
use Rattle.iq_plain_opening.proofs.tables.may_be_stored.Goals as goal

pub returns : goal.returns
returns c = stored_same c.is_storable.result c.args.table.now c.is_storable.ensures
