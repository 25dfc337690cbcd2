use Rattle.iq_plex.proofs.Goes.{ends_line}
use Rattle.iq_plex.proofs.Starts.{can_run, simple}
use Rattle.iq_plex.proofs.plex.Plex.run_line.Goals as goal

pub run_write-requires-clause-run : goal.run_write-requires-clause-run
run_write-requires-clause-run c = can_run c.in-Write.write (rw (c.in-Statement.is, c.in-Write.is) at c.requires.runnable.deed) (rw (c.in-Statement.is, c.in-Write.is) at c.requires.runnable.tuples)

pub run_select-requires-clause-simple : goal.run_select-requires-clause-simple
run_select-requires-clause-simple c = simple c.in-Select.select (rw (c.in-Statement.is, c.in-Select.is) at c.requires.runnable.deed)

pub returns-in-Write-clause-line : goal.returns-in-Write-clause-line
returns-in-Write-clause-line c = ends_line c.args.self.now c.run_write.new.self c.run_write.result c.run_write.ensures.line

pub returns-in-Select-clause-line : goal.returns-in-Select-clause-line
returns-in-Select-clause-line c = ends_line c.args.self.now c.run_select.new.self c.run_select.result c.run_select.ensures.line
