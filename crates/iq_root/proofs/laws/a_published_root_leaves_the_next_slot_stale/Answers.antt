use Rattle.iq_root.proofs.RootLaws.{published_stale}
use Rattle.iq_root.proofs.laws.a_published_root_leaves_the_next_slot_stale.Goals as goal

pub returns : goal.returns
returns c = published_stale
