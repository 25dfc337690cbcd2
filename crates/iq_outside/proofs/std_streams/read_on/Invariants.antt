use Rattle.std.proofs.Common.{◌≡◌, length}
use Rattle.std.specs.Io.KnownBytes.{Keeps}
use Rattle.iq_outside.proofs.std_streams.read_on.Given as goal

abbrev pub invariant-loop : goal.invariant-loop
invariant-loop g l = record {
  same_length : length l.into ≡ length l.initial.into;
  kept : Keeps (g.R.Read.remaining l.initial.stream) (g.R.Read.remaining l.stream);
}
