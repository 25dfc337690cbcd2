use Rattle.std.proofs.Common.{◌≡◌, ◌++◌, ◌-◌}
use Rattle.iq_catalog.specs.Reading.{indexes_of}
use Rattle.iq_plain_opening.proofs.texts.indexes_of.Given as goal

abbrev pub invariant-loop : goal.invariant-loop
invariant-loop l = l.indexes ++ indexes_of (l.count - l.counter) l.rest ≡ indexes_of l.count l.bytes
