use Rattle.std.proofs.Common.{rules, ◌≡◌, ◌+◌, true, false, None}
use Rattle.iq_replay.specs.State.{has_some}
use Rattle.iq_plain_runs.proofs.Next.{commit_next, end_next}
use Rattle.iq_plain_runs.proofs.following.end_of.Goals as goal

pub returns-then-not-holds_some : goal.returns-then-not-holds_some
returns-then-not-holds_some c =
    let none : has_some c.args.run.now.now.held ≡ false = search rules in
    end_next _ _ _ c.args.session.now c.args.statement.now c.args.run.now c.requires.at c.requires.runs c.requires.ending none

pub returns : goal.returns
returns c =
    let some : has_some c.args.run.now.now.held ≡ true = search rules in
    let halted : c.args.state.now.halted ≡ None = search rules in
    let number : c.in_ok-c.c ≡ c.args.state.now.latest + 1 = search rules in
    rw number (commit_next _ _ _ c.args.session.now c.args.statement.now c.args.run.now c.requires.at c.requires.runs c.requires.ending some halted)
