use Rattle.iq_plex.proofs.Goes.{goes_twice, goes_ends}
use Rattle.iq_plex.proofs.plex.Plex.run_select.Goals as goal

pub returns-in-Err-clause-line : goal.returns-in-Err-clause-line
returns-in-Err-clause-line c = goes_ends c.args.self.now c.begin.new.self c.refuse.new.self c.refuse.result c.begin.ensures.on c.refuse.ensures.line

pub returns-in-Err-select-clause-line : goal.returns-in-Err-select-clause-line
returns-in-Err-select-clause-line c =
    goes_ends c.args.self.now c.select.new.self c.refuse-in-Err-select.new.self c.refuse-in-Err-select.result
    (goes_twice c.args.self.now c.begin.new.self c.select.new.self c.begin.ensures.on c.select.ensures.on) c.refuse-in-Err-select.ensures.line

pub returns-in-Ok-clause-line : goal.returns-in-Ok-clause-line
returns-in-Ok-clause-line c =
    goes_ends c.args.self.now c.select.new.self c.end.new.self c.end.result
    (goes_twice c.args.self.now c.begin.new.self c.select.new.self c.begin.ensures.on c.select.ensures.on) c.end.ensures.line
