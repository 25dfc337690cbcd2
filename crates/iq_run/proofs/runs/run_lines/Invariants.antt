use Rattle.std.proofs.Common.{drop}
use Rattle.std.specs.List.{AllByRecursion}
use Rattle.iq_model.specs.Scripts.{IsRunnableLine}
use Rattle.iq_run.specs.Runs.{RunsLines}
use Rattle.iq_run.proofs.runs.run_lines.Given as goal

-- the lines so far were run, and those that are left are run
abbrev pub invariant-loop-line : goal.invariant-loop-line
invariant-loop-line l = record {
  so_far : RunsLines l.initial.plex l.lines (drop l.line-index l.lines) l.replies.items l.plex;
  runnable : AllByRecursion IsRunnableLine (drop l.line-index l.lines);
}
