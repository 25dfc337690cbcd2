use Rattle.std.proofs.Common.{◌≡◌, ◌≤◌, ◌+◌, ◌∷◌, ◌++◌, drop, length}
use Rattle.iq_descriptors.specs.Parts.{named}
use Rattle.iq_descriptors.proofs.parts.parts_of.Given as goal

abbrev pub invariant-loop-at : goal.invariant-loop-at
invariant-loop-at l = record {
  size : length l.blocks ≤ l.at-index + 1;
  goes_on : l.blocks ++ named (drop l.at-index l.more) ≡ l.head ∷ named l.more;
}
