-- What is printed of tokens is cut into these tokens.
use Rattle.std.proofs.Common.{◌≡◌, ◌+◌, ◌-◌, ◌⊎◌, inl, inr, ℕ, Bool, true, false, ◌&&◌, ◌||◌, cond, List, [], ◌∷◌, ◌++◌, length, Option, Some, None, refl, sym, ap, subst, ◌∙◌, append_assoc, append-nil, fold, arith}
use Rattle.std.proofs.Math.Seq.{drop-append_seam}
use Rattle.iq_tokens.specs.declared.tokens.Mark.{Mark}
use Rattle.iq_tokens.specs.declared.tokens.Mark.TheVariants as mark
use Rattle.iq_tokens.specs.declared.tokens.Kind.{Kind}
use Rattle.iq_tokens.specs.declared.tokens.Kind.TheVariants as kind
use Rattle.iq_tokens.specs.declared.tokens.Lexeme.{Lexeme}
use Rattle.iq_tokens.specs.declared.tokens.Lexeme.TheVariants as lexeme
use Rattle.iq_tokens.specs.declared.tokens.Token.{Token}
use Rattle.iq_tokens.specs.declared.lexer.Front.{Front}
use Rattle.iq_tokens.specs.Kinds.{kind_of}
use Rattle.iq_tokens.specs.Tokens.{is_space, front, front_of, token, cut, lexemes, tokens_of, IsLexeme}
use Rattle.iq_tokens.proofs.Cutting.{cut-drop}
use Rattle.iq_tokens.proofs.OneKind.{same_is}
use Rattle.iq_token_text.specs.Texts.{mark_text, token_text, is_mark, opens, closes, calls, touches, gap, with_token, tokens_text}
use Rattle.iq_token_text.specs.Tokens.{AreLexemes}
use Rattle.iq_token_text.proofs.WordFronts.{EndsToken, Ends, IsFront, both_true, name_front}
use Rattle.iq_token_text.proofs.MarkFronts.{mark_front, open_front, dot_front}
use Rattle.iq_token_text.proofs.NumberFronts.{number_front}
use Rattle.iq_token_text.proofs.ValueFronts.{value_front}

-- ---- one token

pub token_front : (t : Lexeme) (rest : List ℕ) → IsLexeme t → Ends rest → IsFront t (token_text t) rest
token_front (lexeme.Mark m) rest is ends = mark_front m rest is.0 is.1 ends
token_front (lexeme.Name n) rest is ends = name_front n rest is ends
token_front (lexeme.Number v) rest is ends = number_front v rest is ends
token_front (lexeme.Text t) rest is ends = value_front t rest is.0 is.1 ends

one_cut : (place b : ℕ) (text : List ℕ) → is_space b ≡ false → cut place 0 (b ∷ text) ≡ token place (front_of (b ∷ text)).lexeme ∷ cut (place + 1) ((front_of (b ∷ text)).bytes - 1) text
unfolding cut
one_cut place b text solid = rw solid refl

cut_front : (place : ℕ) (t : Lexeme) (text rest : List ℕ) → IsFront t text rest → (next : ℕ) × (cut place 0 (text ++ rest) ≡ token place t ∷ cut next 0 rest)
cut_front place t text rest here =
    let more = here.more in
    let whole : text ++ rest ≡ here.first ∷ (more ++ rest) = ap (λ (l : List ℕ). l ++ rest) here.is in
    let is : front_of (here.first ∷ (more ++ rest)) ≡ front t (length text) = ap front_of (sym whole) ∙ here.front in
    let left : length text - 1 ≡ length more = omega (arith, ap length here.is) in (
      place + 1 + length more,
      ap (λ (l : List ℕ). cut place 0 l) whole
          ∙ one_cut place here.first (more ++ rest) here.solid
          ∙ ap (λ (f : Front). token place f.lexeme ∷ cut (place + 1) (f.bytes - 1) (more ++ rest)) is
          ∙ ap (λ (k : ℕ). token place t ∷ cut (place + 1) k (more ++ rest)) left
          ∙ ap (λ (l : List Token). token place t ∷ l) (cut-drop (length more) (place + 1) (more ++ rest))
          ∙ ap (λ (l : List ℕ). token place t ∷ cut (place + 1 + length more) 0 l) (drop-append_seam more rest),
    )

-- ---- between tokens

blank_ends : EndsToken 32
blank_ends = record { no_word = refl; no_digit = refl; no_quote = refl; no_equal = refl; no_more = refl }

none_ends : EndsToken 0
none_ends = record { no_word = refl; no_digit = refl; no_quote = refl; no_equal = refl; no_more = refl }

open_ends : EndsToken 40
open_ends = record { no_word = refl; no_digit = refl; no_quote = refl; no_equal = refl; no_more = refl }

close_ends : EndsToken 41
close_ends = record { no_word = refl; no_digit = refl; no_quote = refl; no_equal = refl; no_more = refl }

comma_ends : EndsToken 44
comma_ends = record { no_word = refl; no_digit = refl; no_quote = refl; no_equal = refl; no_more = refl }

dot_ends : EndsToken 46
dot_ends = record { no_word = refl; no_digit = refl; no_quote = refl; no_equal = refl; no_more = refl }

either : (a b : Bool) → (a || b) ≡ true → (a ≡ true) ⊎ (b ≡ true)
either true b h = inl refl
either false b h = inr h

-- a token of a mark's kind is that mark
token_is : (m : Mark) (t : Lexeme) → is_mark m (kind_of t) ≡ true → t ≡ lexeme.Mark m
token_is m t h = by_case t (same_is (kind_of t) (kind.Mark m) h)
  where
    by_case : (t : Lexeme) → kind_of t ≡ kind.Mark m → t ≡ lexeme.Mark m
    by_case (lexeme.Mark n) e = cc
    by_case (lexeme.Name n) e = absurd cc
    by_case (lexeme.Number n) e = absurd cc
    by_case (lexeme.Text n) e = absurd cc

mark_ends : (m : Mark) (t : Lexeme) (rest : List ℕ) → Ends (mark_text m ++ rest) → is_mark m (kind_of t) ≡ true → Ends (token_text t ++ rest)
mark_ends m t rest ends is = subst (λ (u : Lexeme). Ends (token_text u ++ rest)) (sym (token_is m t is)) ends

open_mark : (t : Lexeme) (rest : List ℕ) → is_mark mark.Open (kind_of t) ≡ true → Ends (token_text t ++ rest)
unfolding mark_text
open_mark t rest is = mark_ends mark.Open t rest open_ends is

closing_mark : (t : Lexeme) (rest : List ℕ) → closes (kind_of t) ≡ true → Ends (token_text t ++ rest)
unfolding mark_text
closing_mark t rest h =
    elim (either (is_mark mark.Close (kind_of t) || is_mark mark.Comma (kind_of t)) (is_mark mark.Dot (kind_of t)) h) [
      | inl others ↦ elim (either (is_mark mark.Close (kind_of t)) (is_mark mark.Comma (kind_of t)) others) [
        | inl is ↦ mark_ends mark.Close t rest close_ends is
        | inr is ↦ mark_ends mark.Comma t rest comma_ends is
      ]
      | inr is ↦ mark_ends mark.Dot t rest dot_ends is
    ]

-- behind a token that opens anything may stand
opening_front : (t : Lexeme) (rest : List ℕ) → opens (kind_of t) ≡ true → IsFront t (token_text t) rest
opening_front t rest h =
    elim (either (is_mark mark.Open (kind_of t)) (is_mark mark.Dot (kind_of t)) h) [
      | inl is ↦ subst (λ (u : Lexeme). IsFront u (token_text u) rest) (sym (token_is mark.Open t is)) (open_front rest)
      | inr is ↦ subst (λ (u : Lexeme). IsFront u (token_text u) rest) (sym (token_is mark.Dot t is)) (dot_front rest)
    ]

-- a token stands before another that it touches
touching : (t u : Lexeme) (rest : List ℕ) → touches (kind_of t) (kind_of u) ≡ true → (opens (kind_of t) ≡ true) ⊎ Ends (token_text u ++ rest)
unfolding touches
touching t u rest h =
    elim (either (opens (kind_of t) || closes (kind_of u)) (calls (kind_of t) && is_mark mark.Open (kind_of u)) h) [
      | inl others ↦ elim (either (opens (kind_of t)) (closes (kind_of u)) others) [
        | inl is ↦ inl is
        | inr is ↦ inr (closing_mark u rest is)
      ]
      | inr is ↦ inr (open_mark u rest (both_true (calls (kind_of t)) (is_mark mark.Open (kind_of u)) is).1)
    ]

-- ---- all tokens

-- the text of these behind a token of the kind, or behind none
more_text : Option Kind → List Lexeme → List ℕ
more_text last [] = []
more_text last (t ∷ ts) = gap last (kind_of t) ++ (token_text t ++ more_text (Some (kind_of t)) ts)

printed_is : (bytes : List ℕ) (last : Option Kind) (ts : List Lexeme) → (fold with_token (record { bytes = bytes; last = last }) ts).bytes ≡ bytes ++ more_text last ts
unfolding more_text with_token
printed_is bytes last [] = sym (append-nil bytes)
printed_is bytes last (t ∷ ts) =
    let here = gap last (kind_of t) ++ token_text t in
    printed_is (bytes ++ here) (Some (kind_of t)) ts
    ∙ append_assoc bytes here (more_text (Some (kind_of t)) ts)
    ∙ ap (λ (l : List ℕ). bytes ++ l) (append_assoc (gap last (kind_of t)) (token_text t) (more_text (Some (kind_of t)) ts))

-- what may stand behind a token in front of these
goes_on : (t : Lexeme) (ts : List Lexeme) → (opens (kind_of t) ≡ true) ⊎ Ends (more_text (Some (kind_of t)) ts)
unfolding more_text
goes_on t [] = inr none_ends
goes_on t (u ∷ us) = by_case (touches (kind_of t) (kind_of u)) refl
  where
    by_case : (b : Bool) → touches (kind_of t) (kind_of u) ≡ b → (opens (kind_of t) ≡ true) ⊎ Ends (cond b [] (32 ∷ []) ++ (token_text u ++ more_text (Some (kind_of u)) us))
    by_case true h = touching t u (more_text (Some (kind_of u)) us) h
    by_case false h = inr blank_ends

stands : (t : Lexeme) (ts : List Lexeme) → IsLexeme t → IsFront t (token_text t) (more_text (Some (kind_of t)) ts)
stands t ts is =
    elim (goes_on t ts) [
      | inl no_end ↦ opening_front t (more_text (Some (kind_of t)) ts) no_end
      | inr ends ↦ token_front t (more_text (Some (kind_of t)) ts) is ends
    ]

-- a gap is passed
gap_passed : (place : ℕ) (b : Bool) (text : List ℕ) → (next : ℕ) × (cut place 0 (cond b [] (32 ∷ []) ++ text) ≡ cut next 0 text)
unfolding cut
gap_passed place true text = (place, refl)
gap_passed place false text = (place + 1, refl)

passed : (place : ℕ) (last : Option Kind) (k : Kind) (text : List ℕ) → (next : ℕ) × (cut place 0 (gap last k ++ text) ≡ cut next 0 text)
passed place None k text = (place, refl)
passed place (Some j) k text = gap_passed place (touches j k) text

more_cut : (place : ℕ) (last : Option Kind) (ts : List Lexeme) → AreLexemes ts → lexemes (cut place 0 (more_text last ts)) ≡ ts
unfolding more_text cut
more_cut place last [] are = refl
more_cut place last (t ∷ ts) are =
    let rest = more_text (Some (kind_of t)) ts in
    let gone = passed place last (kind_of t) (token_text t ++ rest) in
    let here = cut_front gone.0 t (token_text t) rest (stands t ts are.0) in
    ap lexemes (gone.1 ∙ here.1) ∙ ap (λ (l : List Lexeme). t ∷ l) (more_cut here.0 (Some (kind_of t)) ts are.1)

pub printed_cut : (ts : List Lexeme) → AreLexemes ts → lexemes (tokens_of (tokens_text ts)) ≡ ts
printed_cut ts are = ap (λ (l : List ℕ). lexemes (cut 1 0 l)) (printed_is [] None ts) ∙ more_cut 1 None ts are
