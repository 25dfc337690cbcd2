-- The words from `at` to k are the page's, the others as before.
use Rattle.std.proofs.Common.{◌≡◌, ◌<◌, ◌≤◌, ℕ, ◌-◌, ◌*◌, w64, get_or}
use Rattle.std.specs.Int.{to_le_bytes}
use Rattle.std.specs.Simd.Lanes.{chunk}
use Rattle.iq_bitmap.proofs.page_words.load_words.Given as goal

abbrev pub invariant-loop-k : goal.invariant-loop-k
invariant-loop-k l = record {
  inside : (j : ℕ) → l.at ≤ j → j < l.k → to_le_bytes w64 (get_or l.words j 0) ≡ chunk ((j - l.at) * 8) 8 l.page;
  before : (j : ℕ) → j < l.at → get_or l.words j 0 ≡ get_or l.fn.words j 0;
  after : (j : ℕ) → l.k ≤ j → get_or l.words j 0 ≡ get_or l.fn.words j 0;
}
