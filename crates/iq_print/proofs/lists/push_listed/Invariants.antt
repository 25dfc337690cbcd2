use Rattle.std.proofs.Common.{◌≡◌, ◌∷◌, drop, flat_map}
use Rattle.iq_tokens.specs.declared.tokens.Mark.TheVariants.{Comma}
use Rattle.iq_spelling.specs.Lists.{word}
use Rattle.iq_token_text.specs.Texts.{with_tokens}
use Rattle.iq_print.specs.Conditions.{listed}
use Rattle.iq_print.proofs.lists.push_listed.Given as goal

abbrev pub invariant-loop-member : goal.invariant-loop-member
invariant-loop-member g l = with_tokens l.out (flat_map (λ y. word Comma ∷ g.T.Spelled.words y) (drop l.member-index l.rest)) ≡ with_tokens l.fn.out (listed g.T.Spelled.words l.fn.members)
