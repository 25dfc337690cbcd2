use Rattle.std.proofs.Common.{◌≡◌}
use Rattle.iq_replay.specs.Start.{start}
use Rattle.iq_plain_runs.proofs.runs.plain_run.Given as goal

abbrev pub invariant-loop-line : goal.invariant-loop-line
invariant-loop-line l = l.course.first ≡ start l.fn.blocks l.fn.told l.fn.script l.fn.opening
