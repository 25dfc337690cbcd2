use Rattle.std.proofs.Common.{sym, subst}
use Rattle.iq_model.specs.declared.scripts.Script.{Script}
use Rattle.iq_control.specs.Opened.{HasNames}
use Rattle.iq_control.proofs.Opened.{opened_control}
use Rattle.iq_control.proofs.control.Control.opened.Goals as goal

pub invariant_of-result : goal.invariant_of-result
invariant_of-result c = (subst (λ (s : Script). HasNames s c.in_ok-history.history) (sym c.of.ensures) (record { nodes = c.in_ok-history.ensures.node_names; sessions = c.in_ok-history.ensures.session_names }), tt)

pub invariant_of-result-2 : goal.invariant_of-result-2
invariant_of-result-2 c = opened_control c.args.script.now _ _ _ c.requires c.in_ok-history.ensures (rw c.as_slice.ensures at c.in_ok-nodes.ensures) c.in_ok-table.ensures
