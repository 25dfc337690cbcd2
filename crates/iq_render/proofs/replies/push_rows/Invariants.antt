use Rattle.std.proofs.Common.{◌≡◌, ◌++◌, drop}
use Rattle.std.specs.Prelude.{flat_map}
use Rattle.std.specs.String.{string_bytes}
use Rattle.iq_render.specs.Values.{row_line}
use Rattle.iq_render.proofs.replies.push_rows.Given as goal

abbrev pub invariant-loop-r : goal.invariant-loop-r
invariant-loop-r l = string_bytes l.out ++ flat_map row_line (drop l.r l.rows) ≡ string_bytes l.fn.out ++ flat_map row_line l.rows
