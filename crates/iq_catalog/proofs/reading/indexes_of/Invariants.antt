use Rattle.std.proofs.Common.{◌≡◌, ◌≤◌, ◌++◌, ◌*◌, ◌-◌, length}
use Rattle.iq_catalog.specs.Reading.{indexes_of}
use Rattle.iq_catalog.proofs.reading.indexes_of.Given as goal

abbrev pub invariant-loop : goal.invariant-loop
invariant-loop l = record {
  made : l.indexes ++ indexes_of (l.count - l.counter) l.rest ≡ indexes_of l.count l.bytes;
  left : 62 * (l.count - l.counter) ≤ length l.rest;
}
