use Rattle.iq_control.proofs.Early.{early_found}
use Rattle.iq_control.proofs.control.Control.early_refusal.Goals as goal

pub returns : goal.returns
returns c = rw (← c.self.view_is) (early_found c.self.inside.nodes.items c.self.inside.table.sessions c.args.s c.session-session.result.now c.index-node.result.now c.args.statement.now c.first.result c.session-session.ensures c.self.invariant.nodes_are (rw c.node.ensures at c.index-node.ensures) (rw c.transaction.ensures at c.first.ensures))
