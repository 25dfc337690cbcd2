use Rattle.std.proofs.Common.{sym, ◌∙◌}
use Rattle.iq_descriptors.proofs.SaidLemmas.{storable_of}
use Rattle.iq_plain_opening.proofs.tables.is_descriptor.Goals as goal

pub put-requires : goal.put-requires
put-requires c = storable_of c.in_ok-table.table (sym c.may_be_stored.ensures ∙ c.if-not-may_be_stored.false)
