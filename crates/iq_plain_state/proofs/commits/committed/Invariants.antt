use Rattle.std.proofs.Common.{◌≡◌, drop, fold}
use Rattle.iq_replay.specs.Commits.{with_seen, table_names}
use Rattle.iq_plain_state.proofs.commits.committed.Given as goal

abbrev pub invariant-loop-name : goal.invariant-loop-name
invariant-loop-name l = fold (with_seen l.seen) l.put (table_names (drop l.name-index l.names)) ≡ fold (with_seen l.seen) l.fn.tables (table_names l.names)
