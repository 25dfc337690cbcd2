-- The form: one step from left to right, in both directions.
use Rattle.std.proofs.Common.{◌≡◌, Bool, true, false, cond, List, [], ◌∷◌, ◌++◌, Option, Some, None, refl, sym, subst, inl, inr}
use Rattle.iq_tokens.specs.declared.tokens.Kind.{Kind}
use Rattle.iq_tokens.specs.declared.tokens.Lexeme.{Lexeme}
use Rattle.iq_tokens.specs.Kinds.{same, kind_of}
use Rattle.iq_grammar.specs.declared.grammar.Part.{Part}
use Rattle.iq_grammar.specs.declared.grammar.Symbol.{Symbol}
use Rattle.iq_grammar.specs.declared.grammar.Symbol.TheVariants.{Word, Go}
use Rattle.iq_grammar.specs.Grammar.{Line, line_of, lines, may_lack, IsAmong, Sign, sign, Fits, done, taken, chosen, lacking, beginning, begun, after, can_end}
use Rattle.iq_grammar.proofs.Steps.{and_true, some_is, chosen_some}

-- the line that begins with a kind is one of them, and begins so
begins_case : (k : Kind) (x : Line) (xs : List Line) (l : Line) (b : Bool) → same k x.kind ≡ b
    → (beginning k xs ≡ Some l → IsAmong xs l × (same k l.kind ≡ true))
    → cond b (Some x) (beginning k xs) ≡ Some l → IsAmong (x ∷ xs) l × (same k l.kind ≡ true)
begins_case k x xs l true h others e = (inl (some_is x l e), subst (λ (y : Line). same k y.kind ≡ true) (some_is x l e) h)
begins_case k x xs l false h others e = let r = others e in (inr r.0, r.1)

pub beginning_among : (k : Kind) (ls : List Line) (l : Line) → beginning k ls ≡ Some l → IsAmong ls l × (same k l.kind ≡ true)
beginning_among k [] l e = absurd cc
beginning_among k (x ∷ xs) l e = begins_case k x xs l (same k x.kind) refl (beginning_among k xs l) e

-- what a step leaves: what fits behind it fits with its token before

after_go : (p : Part) (ss : List Symbol) (t : Lexeme) (l : Line) (ms : List Sign) (o : Option Line) (b : Bool) → beginning (kind_of t) (lines p) ≡ o → may_lack p ≡ b
    → (after ss (kind_of t) ≡ Some l → Fits ss (sign l.role t ∷ ms)) → begun o b ss (after ss (kind_of t)) ≡ Some l → Fits l.rest ms → Fits (Go p ∷ ss) (sign l.role t ∷ ms)
after_go p ss t l ms (Some x) b found lack others e fit =
    let is : line_of x.kind x.role (x.rest ++ ss) ≡ l = some_is _ _ e in
    let among = beginning_among (kind_of t) (lines p) x found in
    let rest : Fits (x.rest ++ ss) ms = subst (λ (y : Line). Fits y.rest ms) (sym is) fit in
    subst (λ (y : Line). Fits (Go p ∷ ss) (sign y.role t ∷ ms)) is (chosen p x ss (sign x.role t ∷ ms) among.0 (taken x.kind x.role t (x.rest ++ ss) ms among.1 rest))
after_go p ss t l ms None true found lack others e fit = lacking p ss (sign l.role t ∷ ms) lack (others e)
after_go p ss t l ms None false found lack others e fit = absurd cc

pub after_fits : (ss : List Symbol) (t : Lexeme) (l : Line) (ms : List Sign) → after ss (kind_of t) ≡ Some l → Fits l.rest ms → Fits ss (sign l.role t ∷ ms)
unfolding after
after_fits [] t l ms e fit = absurd cc
after_fits (Word j r ∷ ss) t l ms e fit =
    let c = chosen_some (same (kind_of t) j) (line_of j r ss) l e in
    subst (λ (y : Line). Fits (Word j r ∷ ss) (sign y.role t ∷ ms)) c.1 (taken j r t ss ms c.0 (subst (λ (y : Line). Fits y.rest ms) (sym c.1) fit))
after_fits (Go p ∷ ss) t l ms e fit = after_go p ss t l ms (beginning (kind_of t) (lines p)) (may_lack p) refl refl (λ again. after_fits ss t l ms again fit) e fit

-- where nothing need follow, nothing fits too, and only there
pub end_fits : (ss : List Symbol) → can_end ss ≡ true → Fits ss []
unfolding can_end
end_fits [] e = done
end_fits (Word k r ∷ ss) e = absurd cc
end_fits (Go p ∷ ss) e = let both = and_true (may_lack p) (can_end ss) e in lacking p ss [] both.0 (end_fits ss both.1)

-- nothing fits only where nothing need follow
pub fits_end : (ss : List Symbol) (ms : List Sign) → Fits ss ms → ms ≡ [] → can_end ss ≡ true
unfolding can_end
fits_end _ _ done none = refl
fits_end _ _ (taken k r t ss ms is fit) none = absurd cc
fits_end _ _ (chosen p l ss ms among fit) none = let no : false ≡ true = fits_end _ _ fit none in absurd cc
fits_end _ _ (lacking p ss ms lack fit) none = rw (lack, fits_end _ _ fit none) refl
