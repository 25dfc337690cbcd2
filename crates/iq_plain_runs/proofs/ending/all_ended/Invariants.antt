use Rattle.std.proofs.Common.{drop}
use Rattle.iq_replay.specs.Histories.{AllEnded}
use Rattle.iq_plain_runs.proofs.ending.all_ended.Given as goal

abbrev pub invariant-loop-session : goal.invariant-loop-session
invariant-loop-session l = AllEnded (drop l.session-index l.sessions) → AllEnded l.sessions
