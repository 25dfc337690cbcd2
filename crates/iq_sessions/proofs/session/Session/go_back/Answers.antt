use Rattle.std.proofs.Common.{rules, ◌≡◌, None}
use Rattle.iq_sessions.specs.declared.session.TransactionState.TheVariants as transactions
use Rattle.iq_sessions.proofs.Saves.{back_turns}
use Rattle.iq_sessions.proofs.session.Session.go_back.Goals as goal

pub returns-in-Running : goal.returns-in-Running
returns-in-Running c =
    let is : c.args.self.now.transaction ≡ transactions.Running c.in-Running.transaction = search rules in
    let clear : c.in-Running.transaction.created ≡ None = rw is at c.has_not_created.ensures in
    λ names fits same. back_turns _ c.in-Running.transaction names c.args.name.now c.args.held is clear same _ (search rules)
