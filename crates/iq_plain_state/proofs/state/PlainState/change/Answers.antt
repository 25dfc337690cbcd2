use Rattle.std.proofs.Common.{◌∙◌, sym}
use Rattle.iq_plain_state.proofs.Changed.{change_begin, change_savepoint, change_back, change_release}
use Rattle.iq_plain_state.proofs.state.PlainState.change.Goals as goal

pub returns-in_ok-begin-in-Begin : goal.returns-in_ok-begin-in-Begin
returns-in_ok-begin-in-Begin c =
    rw c.in-Begin.is (c.in_ok-begin-in-Begin.ensures ∙ sym (change_begin c.args.self.now c.in-Begin.s c.in-Begin.l c.in-Begin.c))

pub returns-in_ok-save-in-Savepoint : goal.returns-in_ok-save-in-Savepoint
returns-in_ok-save-in-Savepoint c =
    rw c.in-Savepoint.is (c.in_ok-save-in-Savepoint.ensures ∙ sym (change_savepoint c.args.self.now c.in-Savepoint.s c.in-Savepoint.l c.in-Savepoint.name))

pub returns-in_ok-go_back-in-Back : goal.returns-in_ok-go_back-in-Back
returns-in_ok-go_back-in-Back c =
    rw c.in-Back.is (c.in_ok-go_back-in-Back.ensures ∙ sym (change_back c.args.self.now c.in-Back.s c.in-Back.l c.in-Back.name))

pub returns-in_ok-release-in-Release : goal.returns-in_ok-release-in-Release
returns-in_ok-release-in-Release c =
    rw c.in-Release.is (c.in_ok-release-in-Release.ensures ∙ sym (change_release c.args.self.now c.in-Release.s c.in-Release.l c.in-Release.name))
