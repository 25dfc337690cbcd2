-- Each part has a text.
use Rattle.std.proofs.Common.{◌≡◌, ℕ, zero, suc, Bool, true, false, not, ◌&&◌, ◌||◌, List, [], ◌∷◌, ◌++◌, refl, sym, subst, inl, inr, ⊎_elim, append_assoc, pos, arith, ◌<◌, ◌^◌}
use Rattle.std.proofs.lemmas.List.{append-nil}
use Rattle.std.specs.Prelude.{FitsSigned}
use Rattle.std.specs.Int.{w64}
use Rattle.std.proofs.lemmas.Int.{ints}
use Rattle.std.proofs.lemmas.Str.{IsUtf8-nil}
use Rattle.iq_ast.specs.Words.{IsName, is_reserved, reserved}
use Rattle.iq_tokens.specs.declared.tokens.Mark.{Mark}
use Rattle.iq_tokens.specs.declared.tokens.Mark.TheVariants as mark
use Rattle.iq_tokens.specs.declared.tokens.Kind.{Kind}
use Rattle.iq_tokens.specs.declared.tokens.Kind.TheVariants as kind
use Rattle.iq_tokens.specs.declared.tokens.Lexeme.{Lexeme}
use Rattle.iq_tokens.specs.declared.tokens.Lexeme.TheVariants as lexeme
use Rattle.iq_tokens.specs.Kinds.{same, kind_of, same_mark}
use Rattle.iq_tokens.specs.Tokens.{IsLexeme}
use Rattle.iq_grammar.specs.Reading.{AreReal}
use Rattle.iq_grammar.specs.declared.grammar.Role.{Role}
use Rattle.iq_grammar.specs.declared.grammar.Part.{Part}
use Rattle.iq_grammar.specs.declared.grammar.Part.TheVariants as part
use Rattle.iq_grammar.specs.declared.grammar.Symbol.{Symbol}
use Rattle.iq_grammar.specs.declared.grammar.Symbol.TheVariants.{Word, Go}
use Rattle.iq_grammar.specs.Grammar.{Line, lines, may_lack, IsAmong, Sign, sign, Fits, done, taken, chosen, lacking}
use Rattle.iq_grammar.proofs.Steps.{and_true, or_true, is_same}
use Rattle.iq_tokens.proofs.OneKind.{is_same_mark}
use Rattle.iq_grammar.proofs.Sound.{is_real, Apart}

abbrev all_end : (Part → Bool) → List Symbol → Bool
all_end f [] = true
all_end f (Word k r ∷ ss) = is_real k && all_end f ss
all_end f (Go p ∷ ss) = f p && all_end f ss

abbrev one_ends : (Part → Bool) → List Line → Bool
one_ends f [] = false
one_ends f (l ∷ ls) = (is_real l.kind && all_end f l.rest) || one_ends f ls

-- whether the part has a text that is at most so deep
unfoldable ends : ℕ → Part → Bool
ends zero p = may_lack p
ends (suc n) p = may_lack p || one_ends (ends n) (lines p)

each_ends : (p : Part) → ends 6 p ≡ true
unfolding ends lines may_lack same_mark
each_ends part.Statement = refl
each_ends _ = refl

abbrev pub HasText : List Symbol → Type 0
HasText ss = (ms : List Sign) × Fits ss ms × AreReal ms

fits_append : (xs ys : List Symbol) (ms ns : List Sign) → Fits xs ms → Fits ys ns → Fits (xs ++ ys) (ms ++ ns)
fits_append _ ys _ ns done g = g
fits_append _ ys _ ns (taken k r t ss ms is fit) g = taken k r t (ss ++ ys) (ms ++ ns) is (fits_append ss ys ms ns fit g)
fits_append _ ys _ ns (chosen p l ss ms among fit) g =
    chosen p l (ss ++ ys) (ms ++ ns) among (subst (λ (x : List Symbol). Fits (Word l.kind l.role ∷ x) (ms ++ ns)) (append_assoc l.rest ss ys) (fits_append _ ys ms ns fit g))
fits_append _ ys _ ns (lacking p ss ms lack fit) g = lacking p (ss ++ ys) (ms ++ ns) lack (fits_append ss ys ms ns fit g)

-- a token of a kind
unfoldable sample : Kind → Lexeme
sample (kind.Mark m) = lexeme.Mark m
sample kind.Name = lexeme.Name (97 ∷ [])
sample kind.Number = lexeme.Number (pos 0)
sample kind.Text = lexeme.Text []

sample_is : (k : Kind) → same (kind_of (sample k)) k ≡ true
unfolding sample
sample_is (kind.Mark m) = is_same (kind.Mark m)
sample_is kind.Name = is_same kind.Name
sample_is kind.Number = is_same kind.Number
sample_is kind.Text = is_same kind.Text

a_name : IsName (97 ∷ [])
unfolding is_reserved reserved
a_name = record { word = (refl, refl); short = omega arith; free = refl }

zero_fits : (n : ℕ) → n < 2 ^ 63 → FitsSigned w64 (pos n)
zero_fits n few = omega (arith, ints)

other_mark : (m j : Mark) → not (same_mark m j) ≡ true → m ≡ j → ⊥
other_mark m j h e = let yes : same_mark j j ≡ true = is_same_mark j in let bad : not (same_mark j j) ≡ true = subst (λ (x : Mark). not (same_mark x j) ≡ true) e h in not_both (same_mark j j) yes bad
  where
    not_both : (b : Bool) → b ≡ true → not b ≡ true → ⊥
    not_both true e f = let bad : false ≡ true = f in cc
    not_both false e f = let bad : false ≡ true = e in cc

sample_real : (k : Kind) → is_real k ≡ true → IsLexeme (sample k)
unfolding sample
sample_real (kind.Mark m) h = let both = and_true _ _ h in (other_mark m mark.Other both.0, other_mark m mark.Bad both.1)
sample_real kind.Name h = a_name
sample_real kind.Number h = zero_fits 0 (omega arith)
sample_real kind.Text h = (omega arith, IsUtf8-nil)

real_append : (ms ns : List Sign) → AreReal ms → AreReal ns → AreReal (ms ++ ns)
real_append [] ns r q = q
real_append (m ∷ ms) ns r q = (r.0, real_append ms ns r.1 q)

word_text : (k : Kind) (r : Role) (ss : List Symbol) → is_real k ≡ true → HasText ss → HasText (Word k r ∷ ss)
word_text k r ss h (ms, fit, real) = (sign r (sample k) ∷ ms, taken k r (sample k) ss ms (sample_is k) fit, (sample_real k h, real))

all_text : (f : Part → Bool) (ss : List Symbol) → ((p : Part) → f p ≡ true → HasText (Go p ∷ [])) → all_end f ss ≡ true → HasText ss
all_text f [] each e = ([], done, tt)
all_text f (Word k r ∷ ss) each e = let both = and_true (is_real k) (all_end f ss) e in word_text k r ss both.0 (all_text f ss each both.1)
all_text f (Go p ∷ ss) each e =
    let both = and_true (f p) (all_end f ss) e in
    let a = each p both.0 in
    let b = all_text f ss each both.1 in
    (a.0 ++ b.0, fits_append (Go p ∷ []) ss a.0 b.0 a.1 b.1, real_append a.0 b.0 a.2 b.2)

one_text : (f : Part → Bool) (ls : List Line) → ((p : Part) → f p ≡ true → HasText (Go p ∷ [])) → one_ends f ls ≡ true
    → (l : Line) × IsAmong ls l × HasText (Word l.kind l.role ∷ l.rest)
one_text f [] each e = absurd cc
one_text f (l ∷ ls) each e =
    ⊎_elim (λ here. let both = and_true (is_real l.kind) (all_end f l.rest) here in (l, inl refl, word_text l.kind l.role l.rest both.0 (all_text f l.rest each both.1)))
    (λ there. let r = one_text f ls each there in (r.0, inr r.1, r.2))
    (or_true (is_real l.kind && all_end f l.rest) (one_ends f ls) e)

part_text : (n : ℕ) (p : Part) → ends n p ≡ true → HasText (Go p ∷ [])
unfolding ends
part_text zero p e = ([], lacking p [] [] e done, tt)
part_text (suc n) p e =
    ⊎_elim (λ lack. ([], lacking p [] [] lack done, tt))
    (λ some. let r = one_text (ends n) (lines p) (part_text n) some in
    (r.2.0, chosen p r.0 [] r.2.0 r.1 (subst (λ (x : List Symbol). Fits (Word r.0.kind r.0.role ∷ x) r.2.0) (sym (append-nil r.0.rest)) r.2.1), r.2.2))
    (or_true (may_lack p) (one_ends (ends n) (lines p)) e)

all_end_true : (ss : List Symbol) → Apart ss → all_end (ends 6) ss ≡ true
all_end_true [] a = refl
all_end_true (Word k r ∷ ss) a = rw a.0 (all_end_true ss a.1)
all_end_true (Go p ∷ ss) a = rw (each_ends p) (all_end_true ss a.1)

-- whatever has to follow, some text does
pub has_text : (ss : List Symbol) → Apart ss → HasText ss
has_text ss a = all_text (ends 6) ss (part_text 6) (all_end_true ss a)
