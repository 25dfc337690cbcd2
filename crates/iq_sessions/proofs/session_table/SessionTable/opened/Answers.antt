use Rattle.std.proofs.Common.{◌≡◌, [], length}
use Rattle.std.specs.Prelude.{replicate}
use Rattle.iq_sessions.specs.Table.{fresh_kepts}
use Rattle.iq_sessions.proofs.Fresh.{fresh_table, fresh_view}
use Rattle.iq_sessions.proofs.session_table.SessionTable.opened.Goals as goal

pub invariant_of-result : goal.invariant_of-result
invariant_of-result c =
    let sessions : c.in_ok-sessions.sessions.items ≡ fresh_kepts c.args.script.now 0 c.args.script.now.sessions = rw c.as_slice-specs.ensures at c.in_ok-sessions.ensures in
    let held : c.in_ok-locks.locks.held ≡ replicate (length c.args.script.now.sessions) [] = rw c.as_slice-specs.ensures at c.in_ok-locks.ensures.held in
    fresh_table c.args.script.now c.in_ok-locks.locks c.in_ok-sessions.sessions.items sessions held c.requires.few

pub returns : goal.returns
returns c =
    let sessions : c.in_ok-sessions.sessions.items ≡ fresh_kepts c.args.script.now 0 c.args.script.now.sessions = rw c.as_slice-specs.ensures at c.in_ok-sessions.ensures in
    let held : c.in_ok-locks.locks.held ≡ replicate (length c.args.script.now.sessions) [] = rw c.as_slice-specs.ensures at c.in_ok-locks.ensures.held in
    fresh_view c.args.script.now c.in_ok-locks.locks c.in_ok-sessions.sessions.items sessions held c.in_ok-locks.ensures.wrote
