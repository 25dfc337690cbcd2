use Rattle.std.proofs.Common.{◌≡◌, map, take}
use Rattle.iq_base.specs.declared.nodes.SessionSpec.{SessionSpec}
use Rattle.iq_control.proofs.opening.session_names.Given as goal

-- the names of those so far
abbrev pub invariant-loop-session : goal.invariant-loop-session
invariant-loop-session l = l.names.items ≡ map (λ (n : SessionSpec). n.name) (take l.session-index l.sessions)
