use Rattle.std.specs.Io.KnownBytes.{Keeps}
use Rattle.iq_outside.proofs.std_streams.write_on.Given as goal

abbrev pub invariant-loop : goal.invariant-loop
invariant-loop g l = Keeps (g.W.Write.contents l.initial.stream) (g.W.Write.contents l.stream)
