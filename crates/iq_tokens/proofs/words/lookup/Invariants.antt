use Rattle.std.proofs.Common.{◌≡◌, length, map}
use Rattle.iq_tokens.specs.Tokens.{lookup}
use Rattle.iq_tokens.proofs.words.lookup.Given as goal

abbrev pub invariant-entries : goal.invariant-entries
invariant-entries l = lookup (map (λ k. (k.0.now, k.1)) l.table) l.word ≡ lookup (map (λ k. (k.0.now, k.1)) l.initial.table) l.word

abbrev pub decreases-entries : goal.decreases-entries
decreases-entries l = length l.table
