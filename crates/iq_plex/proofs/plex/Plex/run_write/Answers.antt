use Rattle.iq_plex.proofs.Goes.{goes_twice, goes_ends}
use Rattle.iq_plex.proofs.plex.Plex.run_write.Goals as goal

pub returns-in-Err-clause-line : goal.returns-in-Err-clause-line
returns-in-Err-clause-line c = goes_ends c.args.self.now c.begin.new.self c.refuse.new.self c.refuse.result c.begin.ensures.on c.refuse.ensures.line

pub returns-in-Err-check-clause-line : goal.returns-in-Err-check-clause-line
returns-in-Err-check-clause-line c = goes_ends c.args.self.now c.begin.new.self c.refuse-in-Err-check.new.self c.refuse-in-Err-check.result c.begin.ensures.on c.refuse-in-Err-check.ensures.line

pub returns-in-Err-lock-clause-line : goal.returns-in-Err-lock-clause-line
returns-in-Err-lock-clause-line c =
    goes_ends c.args.self.now c.lock.new.self c.refuse-in-Err-lock.new.self c.refuse-in-Err-lock.result
    (goes_twice c.args.self.now c.begin.new.self c.lock.new.self c.begin.ensures.on c.lock.ensures.on) c.refuse-in-Err-lock.ensures.line

pub returns-in-Err-write-clause-line : goal.returns-in-Err-write-clause-line
returns-in-Err-write-clause-line c =
    goes_ends c.args.self.now c.write.new.self c.refuse-in-Err-write.new.self c.refuse-in-Err-write.result
    (goes_twice c.args.self.now c.lock.new.self c.write.new.self (goes_twice c.args.self.now c.begin.new.self c.lock.new.self c.begin.ensures.on c.lock.ensures.on) c.write.ensures.on) c.refuse-in-Err-write.ensures.line

pub returns-in-Ok-clause-line : goal.returns-in-Ok-clause-line
returns-in-Ok-clause-line c =
    goes_ends c.args.self.now c.write.new.self c.commit.new.self c.commit.result
    (goes_twice c.args.self.now c.lock.new.self c.write.new.self (goes_twice c.args.self.now c.begin.new.self c.lock.new.self c.begin.ensures.on c.lock.ensures.on) c.write.ensures.on) c.commit.ensures.line
