use Rattle.std.proofs.Common.{◌≡◌, ℕ, ◌+◌, drop, not, nat_eq}
use Rattle.std.specs.List.{prefix_len}
use Rattle.iq_script.proofs.lines.text_len.Given as goal

abbrev pub invariant-loop-at : goal.invariant-loop-at
invariant-loop-at l = l.at + prefix_len (λ (b : ℕ). not (nat_eq b 10)) (drop l.at l.bytes) ≡ prefix_len (λ (b : ℕ). not (nat_eq b 10)) l.bytes
