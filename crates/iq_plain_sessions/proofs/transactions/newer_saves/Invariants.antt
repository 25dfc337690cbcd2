use Rattle.std.proofs.Common.{◌≡◌, drop}
use Rattle.iq_replay.specs.Changes.{saves_from}
use Rattle.iq_plain_sessions.proofs.transactions.newer_saves.Given as goal

abbrev pub invariant-loop-i : goal.invariant-loop-i
invariant-loop-i l = saves_from l.name (drop l.i l.saves) ≡ saves_from l.name l.saves
