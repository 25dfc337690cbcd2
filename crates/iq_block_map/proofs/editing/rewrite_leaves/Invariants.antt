use Rattle.std.proofs.Common.{◌≡◌, ◌≤◌, ◌+◌, ◌*◌, ◌++◌, ℕ, List, Some, length, drop, slice_index}
use Rattle.iq_block_map.specs.Refs.{IsPlace, WhereTold}
use Rattle.iq_block_map.specs.Writing.{HasPut}
use Rattle.iq_block_map.specs.Editing.{AreChanges, AreBlocks, edited, replaced_from, touches}
use Rattle.iq_block_map.specs.Leaves.{IsOpened, AreOpened, ReadsLeaves}
use Rattle.iq_block_map.proofs.StepLemmas.{IsSoFar}
use Rattle.iq_block_map.proofs.editing.rewrite_leaves.Given as goal

abbrev pub invariant-loop-k : goal.invariant-loop-k
invariant-loop-k g l = record {
  put : HasPut g.D.Device (g.T.Taker.left l.fn.space) (g.T.Taker.left l.space) l.fn.disk l.disk;
  changes : AreChanges (252 * l.k) l.old.pages l.to_change;
  added : AreBlocks (g.D.Device.blocks l.fn.disk) l.to_add;
  long : length l.leaves ≡ 252;
  untouched : drop l.k l.leaves ≡ drop l.k l.before;
  most : length (g.T.Taker.left l.fn.space) ≤ length (g.T.Taker.left l.space) + l.k;
  first : 1 ≤ l.k → IsPlace (g.D.Device.blocks l.fn.disk) (slice_index l.leaves 0);
  touch : (j : ℕ) → l.k ≤ j → touches j l.to_change ≡ touches j l.changed;
  reads : (all : List (List ℕ)) → g.D.Device.blocks l.fn.disk ≡ Some all → AreOpened all l.old l.before (g.T.Taker.left l.fn.space)
      → ReadsLeaves all l.old l.before l.changed l.added l.k;
  so_far : (all : List (List ℕ)) (xs : List ℕ) → g.D.Device.blocks l.fn.disk ≡ Some all → IsOpened all l.old l.before xs (g.T.Taker.left l.fn.space)
      → WhereTold (g.D.Device.blocks l.disk)
      (λ now. IsSoFar all now xs (edited xs l.changed l.added) l.before l.leaves (g.T.Taker.left l.fn.space) (g.T.Taker.left l.space) l.k);
  rest : (xs : List ℕ) → length xs ≡ l.old.pages
      → drop (252 * l.k) (edited xs l.changed l.added) ≡ replaced_from (252 * l.k) (drop (252 * l.k) xs) l.to_change ++ l.to_add;
}
