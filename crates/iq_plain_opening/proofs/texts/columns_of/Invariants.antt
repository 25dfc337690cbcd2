use Rattle.std.proofs.Common.{◌≡◌, ◌++◌, ◌-◌}
use Rattle.iq_catalog.specs.Reading.{columns_of}
use Rattle.iq_plain_opening.proofs.texts.columns_of.Given as goal

abbrev pub invariant-loop : goal.invariant-loop
invariant-loop l = l.columns ++ columns_of (l.count - l.counter) l.rest ≡ columns_of l.count l.bytes
