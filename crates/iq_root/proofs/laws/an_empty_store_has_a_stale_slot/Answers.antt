use Rattle.iq_root.proofs.RootLaws.{formatted_stale}
use Rattle.iq_root.proofs.laws.an_empty_store_has_a_stale_slot.Goals as goal

pub returns : goal.returns
returns c = formatted_stale
