use Rattle.std.proofs.Common.{◌≡◌, ◌+◌, ◌++◌, drop}
use Rattle.std.specs.String.{string_bytes}
use Rattle.iq_render.specs.Entries.{numbered_lines}
use Rattle.iq_render.proofs.entries.push_entries.Given as goal

abbrev pub invariant-loop-i : goal.invariant-loop-i
invariant-loop-i l = string_bytes l.out ++ numbered_lines l.nodes l.sessions (l.i + 1) (drop l.i l.entries) ≡ string_bytes l.fn.out ++ numbered_lines l.nodes l.sessions 1 l.entries
