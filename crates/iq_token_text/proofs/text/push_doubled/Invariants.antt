use Rattle.std.proofs.Common.{◌≡◌, ◌++◌, length}
use denote.Text.{Utf8}
use denote.Shadow.{shadow}
use Rattle.std.specs.Prelude.{flat_map}
use Rattle.std.specs.String.{string_bytes}
use Rattle.iq_token_text.specs.Texts.{quoted_byte}
use Rattle.iq_token_text.proofs.text.push_doubled.Given as goal

abbrev pub invariant-quotes : goal.invariant-quotes
invariant-quotes l = shadow (Utf8 l.rest) × (string_bytes l.out ++ flat_map quoted_byte l.rest ≡ string_bytes l.fn.out ++ flat_map quoted_byte l.fn.value)

abbrev pub decreases-quotes : goal.decreases-quotes
decreases-quotes l = length l.rest
