use Rattle.std.proofs.Common.{◌≡◌, ◌≤◌, length}
use Rattle.iq_sessions.specs.Saves.{names_from}
use Rattle.iq_sessions.proofs.save_names.SaveNames.keep_from.Given as goal

abbrev pub invariant-newer : goal.invariant-newer
invariant-newer l = (names_from l.name l.self-inside.names.items ≡ names_from l.name l.fn.self) × (length l.self-inside.names.items ≤ 16)

abbrev pub decreases-newer : goal.decreases-newer
decreases-newer l = length l.self-inside.names.items
