use Rattle.std.proofs.Common.{rules, ◌≡◌}
use Rattle.iq_ast.specs.declared.statements.Statement.TheVariants as statements
use Rattle.iq_plain_runs.proofs.Next.{save_next, back_next, release_next, sync_next}
use Rattle.iq_plain_runs.proofs.following.granted.Goals as goal

pub returns-in-Savepoint : goal.returns-in-Savepoint
returns-in-Savepoint c =
    let same : c.args.statement.now ≡ statements.Savepoint c.again.result = search rules in
    save_next _ _ _ c.args.session.now c.args.statement.now c.again.result c.requires.at same c.requires.granted

pub returns-in-BackTo : goal.returns-in-BackTo
returns-in-BackTo c =
    let same : c.args.statement.now ≡ statements.BackTo c.again-in-BackTo.result = search rules in
    back_next _ _ _ c.args.session.now c.args.statement.now c.again-in-BackTo.result c.requires.at same c.requires.granted

pub returns-in-Release : goal.returns-in-Release
returns-in-Release c =
    let same : c.args.statement.now ≡ statements.Release c.again-in-Release.result = search rules in
    release_next _ _ _ c.args.session.now c.args.statement.now c.again-in-Release.result c.requires.at same c.requires.granted

pub returns-in-Sync : goal.returns-in-Sync
returns-in-Sync c =
    let same : c.args.statement.now ≡ statements.Sync = search rules in
    let latest : c.latest.result ≡ c.args.state.now.latest = search rules in
    rw latest (sync_next _ _ _ c.args.session.now c.args.statement.now c.requires.at same c.requires.granted)
