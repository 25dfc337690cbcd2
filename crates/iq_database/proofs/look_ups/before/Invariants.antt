use Rattle.std.proofs.Common.{◌≡◌, drop}
use Rattle.iq_database.specs.LookUps.{before_from}
use Rattle.iq_database.proofs.look_ups.before.Given as goal

-- what is left gives what all tables give
abbrev pub invariant-loop-i : goal.invariant-loop-i
invariant-loop-i l = before_from l.i l.name (drop l.i l.tables) ≡ before_from 0 l.name l.tables
