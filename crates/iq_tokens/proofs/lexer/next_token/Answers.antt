use Rattle.std.proofs.Common.{◌≡◌, ◌+◌, ◌<◌, ◌∙◌, sym, ap, subst, drop, ◌∷◌, arith}
use Rattle.std.proofs.lemmas.List.{length-drop}
use Rattle.iq_tokens.specs.declared.lexer.Front.{Front}
use Rattle.iq_tokens.specs.Tokens.{front_of, token, tokens_from}
use Rattle.iq_tokens.proofs.Cutting.{turn_space, turn_token, turn_end}
use Rattle.iq_tokens.proofs.lexer.next_token.Goals as goal

pub spaces-preserved : goal.spaces-preserved
spaces-preserved c =
    (turn_space c.spaces.at c.args.text.now c.spaces-test.true (sym c.is_space.ensures ∙ c.if-is_space.true) ∙ c.spaces.invariant.0, omega (arith, c.spaces.invariant.1))

pub returns-in-spaces : goal.returns-in-spaces
returns-in-spaces c =
    let first : c.first_token-lexeme.result ≡ front_of (drop c.spaces.at c.args.text.now) = c.first_token-lexeme.ensures.value ∙ ap front_of c.split_at.ensures.back in
    let moves : 0 < (front_of (drop c.spaces.at c.args.text.now)).bytes = subst (λ (f : Front). 0 < f.bytes) first c.first_token-lexeme.ensures.moves in
    let turn = turn_token c.spaces.at c.args.text.now c.spaces-test.true (sym c.is_space.ensures ∙ c.if-is_space.false) moves in (
      sym c.spaces.invariant.0 ∙ subst (λ (f : Front). tokens_from c.args.text.now c.spaces.at ≡ token (c.spaces.at + 1) f.lexeme ∷ tokens_from c.args.text.now (c.spaces.at + f.bytes)) (sym first) turn,
      omega (arith, c.first_token-lexeme.ensures.moves, c.spaces.invariant.1),
      omega (arith, c.first_token-lexeme.ensures.within, c.spaces-test.true, length-drop c.spaces.at c.args.text.now),
    )

pub returns : goal.returns
returns c = sym c.spaces.invariant.0 ∙ turn_end c.spaces.at c.args.text.now c.spaces-test.false
