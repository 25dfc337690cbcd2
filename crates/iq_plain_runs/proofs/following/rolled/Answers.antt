use Rattle.std.proofs.Common.{rules, ◌≡◌, false, nat_eq}
use Rattle.iq_plain_runs.proofs.Next.{rollback_next}
use Rattle.iq_plain_runs.proofs.following.rolled.Goals as goal

pub returns : goal.returns
returns c =
    let some : nat_eq c.args.l 0 ≡ false = search rules in
    rollback_next _ _ _ c.args.session.now c.args.statement.now c.requires.at c.requires.same c.requires.granted some
