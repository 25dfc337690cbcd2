use Rattle.std.proofs.Common.{◌≡◌, ◌∷◌, drop, flat_map, map}
use Rattle.iq_ast.specs.declared.conditions.Cond.{Cond}
use Rattle.iq_spelling.specs.Lists.{word}
use Rattle.iq_token_text.specs.Texts.{with_tokens}
use Rattle.iq_print.specs.Conditions.{spelled, words_in, joined}
use Rattle.iq_print.proofs.conditions.+conditions.Given as goal

abbrev pub invariant-push_joined-loop-member : goal.invariant-push_joined-loop-member
invariant-push_joined-loop-member l =
    with_tokens l.out (flat_map (λ (c : Cond). word l.mark ∷ words_in l.most (spelled c)) (drop l.member-index l.rest)) ≡ with_tokens l.fn.out (joined l.fn.mark l.fn.most (map spelled l.fn.members))
