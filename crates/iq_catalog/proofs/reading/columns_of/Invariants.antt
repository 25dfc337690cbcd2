use Rattle.std.proofs.Common.{◌≡◌, ◌≤◌, ◌++◌, ◌*◌, ◌-◌, length}
use Rattle.iq_catalog.specs.Reading.{columns_of}
use Rattle.iq_catalog.proofs.reading.columns_of.Given as goal

abbrev pub invariant-loop : goal.invariant-loop
invariant-loop l = record {
  made : l.columns ++ columns_of (l.count - l.counter) l.rest ≡ columns_of l.count l.bytes;
  left : 55 * (l.count - l.counter) ≤ length l.rest;
}
