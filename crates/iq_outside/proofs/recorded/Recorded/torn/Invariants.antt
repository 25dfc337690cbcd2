use Rattle.std.proofs.Common.{◌≡◌, ◌<◌, ◌^◌, ℕ, false, vec_len, nat_eq, reverse}
use Rattle.std.specs.List.{list_any}
use Rattle.iq_outside.specs.Changes.{IsTorn, waiting, stopped}
use Rattle.iq_outside.proofs.recorded.Recorded.torn.Given as goal

abbrev pub invariant-undoing : goal.invariant-undoing
invariant-undoing l = record {
  few : vec_len l.blocks < 2 ^ 32;
  torn : IsTorn l.fn.self.blocks (waiting l.fn.self.changes) l.blocks.items;
  left : stopped l.pick (reverse l.changes.items) l.blocks.items ≡ stopped l.pick (reverse l.fn.self.changes) l.fn.self.blocks;
  waits : (i : ℕ) → list_any (nat_eq i) (waiting l.fn.self.changes) ≡ false → list_any (nat_eq i) (waiting l.changes.items) ≡ false;
}

abbrev pub decreases-undoing : goal.decreases-undoing
decreases-undoing l = vec_len l.changes
