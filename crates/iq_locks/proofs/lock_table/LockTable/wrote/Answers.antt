use Rattle.std.proofs.Common.{rules, arith, ap, length}
use Rattle.iq_locks.proofs.Tables.{latest-with_latest, length-with_latest}
use Rattle.iq_locks.proofs.lock_table.LockTable.wrote.Goals as goal

pub returns-clause-written : goal.returns-clause-written
returns-clause-written c = record {
  latest = λ n. rw (c.put_latest.ensures.items, c.again.ensures, ← c.self.view_is) (latest-with_latest n c.args.name.now c.args.commit c.self.inside.wrote.items);
  held = search rules;
}

pub returns-clause-room : goal.returns-clause-room
returns-clause-room c = rw (← c.self.view_is) (omega (arith, c.put_latest.ensures.holds, ap length c.put_latest.ensures.items, length-with_latest c.again.result c.args.commit c.self.inside.wrote.items))
