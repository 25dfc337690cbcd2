use Rattle.std.proofs.Common.{◌+◌, ◌*◌, ◌++◌, ℕ, List, take}
use Rattle.std.specs.Prelude.{flat_map}
use Rattle.iq_block_store.specs.Frames.{bytes_of}
use Rattle.iq_root.specs.Pages.{IsDone}
use Rattle.iq_root.proofs.pages.put_all.Given as goal

abbrev pub invariant-loop-k : goal.invariant-loop-k
invariant-loop-k l = (done : List ℕ) → IsDone 20 done l.fn.page
    → IsDone (20 + 4 * l.k) (done ++ flat_map bytes_of (take l.k l.tables)) l.page
