use Rattle.std.proofs.Common.{◌≡◌, ◌++◌, take}
use Rattle.iq_plain_state.proofs.commits.written_names.Given as goal

abbrev pub invariant-loop-name : goal.invariant-loop-name
invariant-loop-name l = l.names ≡ l.work.held ++ take l.name-index l.name-items
