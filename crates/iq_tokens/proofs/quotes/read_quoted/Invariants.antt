use Rattle.std.proofs.Common.{◌≡◌, ◌-◌, ◌≤◌, length, drop}
use Rattle.iq_tokens.specs.Quotes.{quoted}
use Rattle.iq_tokens.proofs.Quoting.{behind}
use Rattle.iq_tokens.proofs.quotes.read_quoted.Given as goal

abbrev pub invariant-bytes : goal.invariant-bytes
invariant-bytes l = (behind l.value.items l.at (quoted (drop l.at l.text)) ≡ quoted l.text) × (l.at ≤ length l.text)

abbrev pub decreases-bytes : goal.decreases-bytes
decreases-bytes l = length l.text - l.at
