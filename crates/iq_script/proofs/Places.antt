-- Tokens, and the places of faults, stand within their text.
use Rattle.std.proofs.Common.{◌≡◌, ℕ, zero, suc, ◌+◌, ◌-◌, ◌≤◌, Bool, true, false, cond, List, [], ◌∷◌, ◌++◌, length, drop, sym, subst, arith}
use Rattle.std.specs.List.{AllByRecursion}
use Rattle.std.proofs.lemmas.List.{length-drop}
use Rattle.iq_tokens.specs.declared.tokens.Token.{Token}
use Rattle.iq_tokens.specs.Tokens.{is_space, front_of, token, cut, tokens_from}
use Rattle.iq_grammar.specs.Reading.{place_of}
use Rattle.iq_grammar.specs.Statements.{IsFaultOf}

abbrev pub IsIn : ℕ → Token → Type 0
IsIn m t = t.place + 1 ≤ m

all_in : (m n : ℕ) (ts : List Token) → m ≡ n → AllByRecursion (IsIn m) ts → AllByRecursion (IsIn n) ts
all_in m n ts same h = subst (λ (k : ℕ). AllByRecursion (IsIn k) ts) same h

either : (m : ℕ) (s : Bool) (xs : List Token) (t : Token) (ys : List Token) → AllByRecursion (IsIn m) xs → IsIn m t → AllByRecursion (IsIn m) ys → AllByRecursion (IsIn m) (cond s xs (t ∷ ys))
either m true xs t ys h one k = h
either m false xs t ys h one k = (one, k)

cut_places : (place left : ℕ) (text : List ℕ) → AllByRecursion (IsIn (place + length text)) (cut place left text)
unfolding cut
cut_places place left [] = tt
cut_places place (suc left) (b ∷ rest) = all_in (place + 1 + length rest) (place + suc (length rest)) (cut (place + 1) left rest) (omega arith) (cut_places (place + 1) left rest)
cut_places place zero (b ∷ rest) =
    either (place + suc (length rest)) (is_space b) (cut (place + 1) zero rest) (token place (front_of (b ∷ rest)).lexeme) (cut (place + 1) ((front_of (b ∷ rest)).bytes - 1) rest)
    (all_in (place + 1 + length rest) (place + suc (length rest)) _ (omega arith) (cut_places (place + 1) zero rest))
    (omega arith)
    (all_in (place + 1 + length rest) (place + suc (length rest)) _ (omega arith) (cut_places (place + 1) ((front_of (b ∷ rest)).bytes - 1) rest))

behind : (m : ℕ) (xs : List Token) (t : Token) (ts : List Token) → AllByRecursion (IsIn m) (xs ++ t ∷ ts) → IsIn m t
behind m [] t ts h = h.0
behind m (x ∷ xs) t ts h = behind m xs t ts h.1

place_within : (end m : ℕ) (front rest : List Token) → m ≤ end + 1 → AllByRecursion (IsIn m) (front ++ rest) → place_of end rest ≤ end + 1
place_within end m front [] few h = omega arith
place_within end m front (t ∷ ts) few h = let one : t.place + 1 ≤ m = behind m front t ts h in omega arith

pub fault_within : (text : List ℕ) (place : ℕ) → IsFaultOf text place → place ≤ length text + 1
fault_within text place f =
    let all : AllByRecursion (IsIn (1 + length text)) (f.front ++ f.rest) = subst (λ (ts : List Token). AllByRecursion (IsIn (1 + length text)) ts) f.whole (cut_places 1 0 text) in
    let within = place_within (length text) (1 + length text) f.front f.rest (omega arith) all in
    subst (λ (n : ℕ). n ≤ length text + 1) (sym f.is) within

pub token_within : (text : List ℕ) (at : ℕ) (t : Token) (ts : List Token) → at ≤ length text → tokens_from text at ≡ t ∷ ts → t.place ≤ length text
token_within text at t ts few is =
    let all : AllByRecursion (IsIn (at + 1 + length (drop at text))) (t ∷ ts) = subst (λ (us : List Token). AllByRecursion (IsIn (at + 1 + length (drop at text))) us) is (cut_places (at + 1) 0 (drop at text)) in
    let one : t.place + 1 ≤ at + 1 + length (drop at text) = all.0 in
    omega (arith, length-drop at text)
