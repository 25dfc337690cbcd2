use Rattle.std.proofs.Common.{◌≡◌, Result, Ok, Err, sym, ap, subst, ◌∙◌}
use Rattle.std.specs.Result.{IsErr, IsErrAnd}
use Rattle.iq_ast.specs.declared.statements.Statement.{Statement}
use Rattle.iq_grammar.specs.declared.draft.Draft.{Draft}
use Rattle.iq_grammar.specs.declared.faults.ParseFault.{ParseFault}
use Rattle.iq_grammar.specs.declared.faults.ParseFault.TheVariants.{Syntax, NoMemory}
use Rattle.iq_grammar.specs.Reading.{Gives}
use Rattle.iq_grammar.specs.Statements.{statement_of, Is}
use Rattle.iq_grammar.proofs.texts.parse_bytes.Goals as goal

only_err : (e : ParseFault) (s : Statement) (d : Draft) → Gives (Err e) (Ok d) → Is s (Err e)
only_err (Syntax place) s d h = absurd cc
only_err NoMemory s d h = tt

err_told : (r : Result Statement ParseFault) (e : ParseFault) (s : Statement) (d : Draft) → IsErr r → IsErrAnd r (λ (f : ParseFault). f ≡ e) → Gives (Err e) (Ok d) → Is s r
err_told (Ok t) e s d bad is h = absurd cc
err_told (Err f) e s d bad is h = subst (λ (x : ParseFault). Is s (Err x)) (sym is) (only_err e s d h)

only_ok : (e d : Draft) → Gives (Ok e) (Ok d) → e ≡ d
only_ok e d h = cc

pub returns-in_err-draft-clause-only : goal.returns-in_err-draft-clause-only
returns-in_err-draft-clause-only c =
    λ s sp.
    let h = c.in_err-draft.ensures.only sp.draft sp.spelled in
    err_told c.from_residual.result _ s sp.draft c.from_residual.ensures.0 c.from_residual.ensures.1 h

pub returns-clause-only : goal.returns-clause-only
returns-clause-only c =
    λ s sp.
    let same = only_ok _ _ (c.in_ok-draft.ensures.only sp.draft sp.spelled) in
    c.in_ok-finish.ensures ∙ ap statement_of same ∙ sp.is
