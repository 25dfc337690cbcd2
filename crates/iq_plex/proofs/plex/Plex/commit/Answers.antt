use Rattle.std.specs.Prelude.{None}
use Rattle.iq_plex.proofs.Asking.{asks_commit}
use Rattle.iq_plex.proofs.Stepping.{told_of, commit_asks, commit_ends}
use Rattle.iq_plex.proofs.plex.Plex.commit.Goals as goal

pub commit-commit-requires-clause-at : goal.commit-commit-requires-clause-at
commit-commit-requires-clause-at c =
    let told = told_of c.args.write.now c.args.rows None c.requires.run in
    asks_commit c.args.self.now c.args.line c.args.write.now told.what (c.requires.done told.what told.is)

pub commit-commit-requires-clause-room : goal.commit-commit-requires-clause-room
commit-commit-requires-clause-room c =
    let told = told_of c.args.write.now c.args.rows None c.requires.run in
    commit_asks c.args.self.now c.args.line c.args.write.now told.what (c.requires.done told.what told.is)

pub returns-clause-line : goal.returns-clause-line
returns-clause-line c =
    let told = told_of c.args.write.now c.args.rows None c.requires.run in
    rw c.commit-commit.ensures.committed
    (commit_ends c.args.self.now c.args.line c.args.rows c.args.write.now told.what c.told_by.result c.commit-commit.new.self.table (c.requires.done told.what told.is) told.is (rw (← c.commit-commit.ensures.number) c.told_by.ensures) c.commit-commit.ensures.table)
