use Rattle.std.proofs.Common.{◌≡◌, false, take, length}
use Rattle.std.specs.List.{All}
use Rattle.iq_hg_leaves.specs.declared.entries.Entry.{Entry}
use Rattle.iq_hg.specs.Bounds.{is_past}
use Rattle.iq_hg.specs.Stands.{marked}
use Rattle.iq_hg.proofs.marking.mark.Given as goal

abbrev pub invariant-loop-i : goal.invariant-loop-i
invariant-loop-i l = record {
  long : length l.bits ≡ length l.fn.bits;
  marked_are : l.bits ≡ marked l.wanted l.fn.bits (take l.i l.entries.entries);
  live : All (λ (entry : Entry). is_past l.wanted entry.value ≡ false) (take l.i l.entries.entries);
}
