use Rattle.std.proofs.Common.{◌≡◌, take, map}
use Rattle.iq_replay.specs.Commits.{written_at}
use Rattle.iq_plain_state.proofs.commits.written_at.Given as goal

abbrev pub invariant-loop-name : goal.invariant-loop-name
invariant-loop-name l = l.wrote.items ≡ map (written_at l.c) (take l.name-index l.names)
