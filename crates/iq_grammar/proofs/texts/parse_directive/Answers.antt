use Rattle.std.proofs.Common.{◌≡◌, Result, Ok, Err, sym, ap, subst, ◌∙◌}
use Rattle.std.specs.Result.{IsErr, IsErrAnd}
use Rattle.iq_grammar.specs.declared.directives.Directive.{Directive}
use Rattle.iq_grammar.specs.declared.draft.Draft.{Draft}
use Rattle.iq_grammar.specs.declared.faults.ParseFault.{ParseFault}
use Rattle.iq_grammar.specs.declared.faults.ParseFault.TheVariants.{Syntax, NoMemory}
use Rattle.iq_grammar.specs.Reading.{Gives}
use Rattle.iq_grammar.specs.Directives.{directive_of, Directs}
use Rattle.iq_grammar.proofs.texts.parse_directive.Goals as goal

only_err : (e : ParseFault) (s : Directive) (d : Draft) → Gives (Err e) (Ok d) → Directs s (Err e)
only_err (Syntax place) s d h = absurd cc
only_err NoMemory s d h = tt

err_told : (r : Result Directive ParseFault) (e : ParseFault) (s : Directive) (d : Draft) → IsErr r → IsErrAnd r (λ (f : ParseFault). f ≡ e) → Gives (Err e) (Ok d) → Directs s r
err_told (Ok t) e s d bad is h = absurd cc
err_told (Err f) e s d bad is h = subst (λ (x : ParseFault). Directs s (Err x)) (sym is) (only_err e s d h)

only_ok : (e d : Draft) → Gives (Ok e) (Ok d) → e ≡ d
only_ok e d h = cc

pub returns-in_err-draft-clause-only : goal.returns-in_err-draft-clause-only
returns-in_err-draft-clause-only c =
    λ s sp.
    let h = c.in_err-draft.ensures.only sp.draft sp.spelled in
    err_told c.from_residual.result _ s sp.draft c.from_residual.ensures.0 c.from_residual.ensures.1 h

pub returns-clause-only : goal.returns-clause-only
returns-clause-only c =
    λ s sp.
    let same = only_ok _ _ (c.in_ok-draft.ensures.only sp.draft sp.spelled) in
    c.direct.ensures ∙ ap directive_of same ∙ sp.is
