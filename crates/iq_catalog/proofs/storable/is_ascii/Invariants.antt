use Rattle.std.proofs.Common.{◌≡◌, drop}
use Rattle.iq_catalog.specs.Storable.{is_ascii}
use Rattle.iq_catalog.proofs.storable.is_ascii.Given as goal

abbrev pub invariant-loop-byte : goal.invariant-loop-byte
invariant-loop-byte l = is_ascii (drop l.byte-index l.bytes) ≡ is_ascii l.bytes
