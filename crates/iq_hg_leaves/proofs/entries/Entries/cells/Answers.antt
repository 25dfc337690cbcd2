use Rattle.std.proofs.Common.{sym, ap}
use Rattle.iq_hg_leaves.specs.declared.entries.Entry.{Entry}
use Rattle.iq_hg_leaves.proofs.Joined.{list_values, list_at}
use Rattle.iq_hg_leaves.proofs.entries.Entries.cells.Goals as goal

pub returns-clause-long : goal.returns-clause-long
returns-clause-long c = list_values _ _ _ c.self.invariant c.self.view_is

pub returns-clause-each : goal.returns-clause-each
returns-clause-each c = λ i h. sym (ap (λ (e : Entry). e.value) (list_at _ _ _ c.self.invariant c.self.view_is i h))
