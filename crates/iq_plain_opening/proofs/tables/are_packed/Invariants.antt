use Rattle.std.proofs.Common.{◌≡◌, drop}
use Rattle.iq_descriptors.specs.Parts.{are_packed}
use Rattle.iq_plain_opening.proofs.tables.are_packed.Given as goal

abbrev pub invariant-loop-k : goal.invariant-loop-k
invariant-loop-k l = are_packed (drop l.k l.more) ≡ are_packed l.more
