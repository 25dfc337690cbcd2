use Rattle.std.proofs.Common.{rules, ◌≡◌, Some, ◌∙◌, sym}
use Rattle.std.specs.List.{slice_get}
use Rattle.iq_replay.specs.Changes.{statement_of}
use Rattle.iq_plain_state.proofs.Changed.{change_done}
use Rattle.iq_plain_state.proofs.state.PlainState.done_here.Goals as goal

pub returns : goal.returns
returns c =
    let found : slice_get c.args.self.now.sessions c.args.s ≡ Some c.in-Some.session.now = search rules in
    let head : statement_of c.in-Some.session.now.left ≡ Some c.in-Some-statement.statement.now = search rules in
    c.in_ok-done.ensures ∙ sym (change_done c.args.self.now c.args.s c.args.l c.in-Some.session.now c.in-Some-statement.statement.now found head)
