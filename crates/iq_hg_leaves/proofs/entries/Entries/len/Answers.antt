use Rattle.std.proofs.Common.{arith}
use Rattle.iq_hg_leaves.proofs.Joined.{list_long}
use Rattle.iq_hg_leaves.proofs.entries.Entries.len.Goals as goal

pub returns-clause-count : goal.returns-clause-count
returns-clause-count c = omega (arith, c.len.ensures, list_long _ _ _ c.self.invariant c.self.view_is)
