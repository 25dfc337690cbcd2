use Rattle.std.proofs.Common.{◌≡◌, ◌+◌, drop}
use Rattle.iq_cells.specs.Fields.{first_bad_value}
use Rattle.iq_cells.proofs.fields.first_bad_value.Given as goal

abbrev pub invariant-loop-i : goal.invariant-loop-i
invariant-loop-i l =
    first_bad_value (l.i + 1) (drop l.i l.columns) (drop l.i l.values) ≡ first_bad_value 1 l.fn.columns l.fn.values
