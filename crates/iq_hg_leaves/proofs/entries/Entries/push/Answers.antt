use Rattle.iq_hg_leaves.proofs.Joined.{list_push}
use Rattle.iq_hg_leaves.proofs.entries.Entries.push.Goals as goal

pub invariant_of-self-in-Ok : goal.invariant_of-self-in-Ok
invariant_of-self-in-Ok c = (list_push _ _ _ c.self.invariant c.self.view_is c.args.entry.now.value c.args.entry.now.row _ _ c.requires c.in-Ok.ensures.ok c.in_ok-push.ensures.items).0

pub returns-in-Ok : goal.returns-in-Ok
returns-in-Ok c = (list_push _ _ _ c.self.invariant c.self.view_is c.args.entry.now.value c.args.entry.now.row _ _ c.requires c.in-Ok.ensures.ok c.in_ok-push.ensures.items).1
