use Rattle.iq_root.proofs.RootLaws.{same_newest, same_stale}
use Rattle.iq_root.proofs.laws.roots_stand_on_four_blocks.Goals as goal

pub returns-clause-newest : goal.returns-clause-newest
returns-clause-newest c = same_newest

pub returns-clause-stale : goal.returns-clause-stale
returns-clause-stale c = same_stale
