use Rattle.std.proofs.Common.{◌≡◌, ◌≤◌, List, length}
use Rattle.iq_base.specs.declared.values.Value.{Value}
use Rattle.iq_numbering.specs.Numbers.{IsNumbered}
use Rattle.iq_numbering.proofs.Numbering.{AreFirst}
use Rattle.iq_numbering.proofs.first_uses.new_values.Given as goal

abbrev pub invariant-loop-i : goal.invariant-loop-i
invariant-loop-i l = record {
  first : (before new : List Value) → length before ≡ l.known → IsNumbered before l.cells.values new l.codes → AreFirst (length before) l.cells.values l.codes l.i l.found.values new;
  kind : l.found.kind ≡ l.cells.kind;
  few : length l.found.values ≤ l.i;
}
