use Rattle.std.proofs.Common.{rules, ◌≡◌, sym, ◌∙◌, length}
use Rattle.iq_sessions.proofs.Turns.{as_many}
use Rattle.iq_sessions.proofs.session_table.SessionTable.len.Goals as goal

pub returns : goal.returns
returns c =
    let kept : c.len.result ≡ length c.self.inside.sessions.items = search rules in
    rw (← c.self.view_is) (kept ∙ sym (as_many c.self.inside.sessions.items c.self.inside.locks.held))
