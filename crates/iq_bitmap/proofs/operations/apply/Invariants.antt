-- The words before `at` are done: with the rest done too, they are the whole answer.
use Rattle.std.proofs.Common.{length, take, drop, ◌-◌, ◌≡◌, ◌≤◌, ◌++◌}
use Rattle.std.specs.Simd.Lanes.{zip2}
use Rattle.iq_bitmap.proofs.operations.apply.Given as goal

abbrev pub invariant-lanes : goal.invariant-lanes
invariant-lanes g l = record {
  within : l.at ≤ length l.words;
  done : take l.at l.words ++ zip2 g.O.WordOperation.on_words (drop l.at l.words) (drop l.at l.others) ≡ zip2 g.O.WordOperation.on_words l.fn.words l.fn.others;
}

abbrev pub decreases-lanes : goal.decreases-lanes
decreases-lanes g l = length l.initial.words - l.at

abbrev pub invariant-rest : goal.invariant-rest
invariant-rest g l = record {
  within : l.at ≤ length l.words;
  done : take l.at l.words ++ zip2 g.O.WordOperation.on_words (drop l.at l.words) (drop l.at l.others) ≡ zip2 g.O.WordOperation.on_words l.fn.words l.fn.others;
}

abbrev pub decreases-rest : goal.decreases-rest
decreases-rest g l = length l.initial.words - l.at
