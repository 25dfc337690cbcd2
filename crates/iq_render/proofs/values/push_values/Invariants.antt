use Rattle.std.proofs.Common.{◌≡◌, ◌++◌, [], drop, slice_index_or}
use Rattle.std.specs.Prelude.{flat_map}
use Rattle.std.specs.String.{string_bytes}
use Rattle.iq_render.specs.Values.{next_value, values_text}
use Rattle.iq_render.proofs.values.push_values.Given as goal

abbrev pub invariant-loop-c : goal.invariant-loop-c
invariant-loop-c l =
    let row = slice_index_or l.rows l.fn.r [] in
    string_bytes l.out ++ flat_map next_value (drop l.c row) ≡ string_bytes l.fn.out ++ values_text row
