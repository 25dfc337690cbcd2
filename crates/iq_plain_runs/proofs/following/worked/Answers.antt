use Rattle.std.proofs.Common.{rules, ◌≡◌, true, []}
use Rattle.iq_replay.specs.State.{has_some}
use Rattle.iq_replay.specs.Asked.{IsUnlocked}
use Rattle.iq_replay.specs.Refusals.{wanted}
use Rattle.iq_plain_runs.proofs.Next.{lock_next, done_next}
use Rattle.iq_plain_runs.proofs.following.worked.Goals as goal

pub returns-then-is_empty : goal.returns-then-is_empty
returns-then-is_empty c =
    let held : wanted c.args.statement.now c.args.run.now ≡ [] = search rules in
    done_next _ _ _ c.args.session.now c.args.statement.now c.args.run.now c.requires.at c.requires.tables c.requires.meaning c.requires.open_still c.requires.runs held c.requires.granted

pub returns-then-is_unlocked : goal.returns-then-is_unlocked
returns-then-is_unlocked c =
    let stage : IsUnlocked c.args.session.now.stage = search rules in
    let some : has_some (wanted c.args.statement.now c.args.run.now) ≡ true = search rules in
    rw c.wanted-names.ensures (lock_next _ _ _ c.args.session.now c.args.statement.now c.args.run.now c.requires.at stage c.requires.runs some c.requires.granted)
