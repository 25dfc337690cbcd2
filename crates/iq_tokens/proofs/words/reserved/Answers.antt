use Rattle.std.proofs.Common.{◌≡◌, ◌↔◌, Option, None, false, sym, subst}
use Rattle.iq_ast.specs.Words.{is_reserved}
use Rattle.iq_tokens.specs.declared.tokens.Mark.{Mark}
use Rattle.iq_tokens.specs.Tokens.{reserved}
use Rattle.iq_tokens.proofs.Reserved.{no_mark}
use Rattle.iq_tokens.proofs.words.reserved.Goals as goal

pub returns-clause-none : goal.returns-clause-none
unfolding reserved
returns-clause-none c =
    let is : c.lookup.result ≡ reserved c.args.word.now = c.lookup.ensures in
    subst (λ (o : Option Mark). (o ≡ None) ↔ (is_reserved c.args.word.now ≡ false)) (sym is) (no_mark c.args.word.now)
