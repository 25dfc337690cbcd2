-- Cutting a text into tokens one by one, as a loop does.
use Rattle.std.proofs.Common.{◌≡◌, ℕ, zero, suc, ◌+◌, ◌-◌, ◌<◌, ◌≤◌, Bool, true, false, List, [], ◌∷◌, length, get_or, take, drop, refl, sym, ap, ◌∙◌, inl, inr, arith}
use Rattle.std.specs.List.{prefix_len}
use Rattle.std.specs.Str.{IsAscii}
use Rattle.std.proofs.lemmas.Bool.{cases_lt}
use Rattle.std.proofs.lemmas.Bool.Decides.{nat_tests}
use Rattle.std.proofs.lemmas.List.{get_or-take, get_or_past, length-take, length-drop, nil_from_length, get_or-drop, drop-drop}
use Rattle.std.proofs.lemmas.List.Sums.{prefix_len_passes}
use Rattle.iq_tokens.specs.declared.tokens.Token.{Token}
use Rattle.iq_tokens.specs.Tokens.{is_space, is_word_byte, front_of, token, cut, tokens_from}

-- a byte of a word is below 128
pub word_byte_is_ascii : (b : ℕ) → is_word_byte b ≡ true → b < 128
word_byte_is_ascii b h = grind (arith, nat_tests)

-- the word that a text begins with is of ASCII
pub word_is_ascii : (text : List ℕ) → IsAscii (take (prefix_len is_word_byte text) text)
word_is_ascii text i =
    let n = prefix_len is_word_byte text in
    elim (cases_lt i n) [
      | inl lt ↦ rw (get_or-take n text i 0 lt) (word_byte_is_ascii (get_or text i 0) (prefix_len_passes is_word_byte text i 0 lt))
      | inr le ↦ rw (get_or_past (take n text) i 0 (omega (arith, length-take n text))) (omega arith)
    ]

-- what is cut behind some bytes of a token
pub cut-drop : (n place : ℕ) (text : List ℕ) → cut place n text ≡ cut (place + n) 0 (drop n text)
unfolding cut
cut-drop zero place text = ap (λ k. cut k 0 text) (omega arith)
cut-drop (suc n) place [] = refl
cut-drop (suc n) place (b ∷ rest) = cut-drop n (place + 1) rest ∙ ap (λ k. cut k 0 (drop n rest)) (omega arith)

-- one step at the front of what is left: at a space, and at a token
space_here : (place : ℕ) (rest : List ℕ) → 0 < length rest → is_space (get_or rest 0 0) ≡ true → cut place 0 rest ≡ cut (place + 1) 0 (drop 1 rest)
unfolding cut
space_here place [] some h = refl
space_here place (b ∷ rest) some h = rw h refl

token_here : (place : ℕ) (rest : List ℕ) → 0 < length rest → is_space (get_or rest 0 0) ≡ false → 0 < (front_of rest).bytes
    → cut place 0 rest ≡ token place (front_of rest).lexeme ∷ cut (place + (front_of rest).bytes) 0 (drop (front_of rest).bytes rest)
unfolding cut
token_here place [] some h moves = absurd (omega arith)
token_here place (b ∷ rest) some h moves = rw h (ap (λ (ts : List Token). token place (front_of (b ∷ rest)).lexeme ∷ ts) (behind_one place b rest (front_of (b ∷ rest)).bytes moves))
  where
    behind_one : (place b : ℕ) (rest : List ℕ) (n : ℕ) → 0 < n → cut (place + 1) (n - 1) rest ≡ cut (place + n) 0 (drop n (b ∷ rest))
    behind_one place b rest zero moves = absurd (omega arith)
    behind_one place b rest (suc n) moves =
        let less : suc n - 1 ≡ n = omega arith in
        rw less (cut-drop n (place + 1) rest ∙ ap (λ k. cut k 0 (drop n rest)) (omega arith))

-- what stands at a place is at the front of the rest
some_left : (at : ℕ) (text : List ℕ) → at < length text → 0 < length (drop at text)
some_left at text h = omega (arith, length-drop at text)

space_at : (at : ℕ) (text : List ℕ) (b : Bool) → is_space (get_or text at 0) ≡ b → is_space (get_or (drop at text) 0 0) ≡ b
space_at at text b h = ap is_space (get_or-drop at text 0 0 ∙ ap (λ k. get_or text k 0) (omega arith)) ∙ h

pub turn_space : (at : ℕ) (text : List ℕ) → at < length text → is_space (get_or text at 0) ≡ true → tokens_from text (at + 1) ≡ tokens_from text at
turn_space at text some h =
    sym (space_here (at + 1) (drop at text) (some_left at text some) (space_at at text true h) ∙ ap (λ (r : List ℕ). cut (at + 1 + 1) 0 r) (drop-drop 1 at text))

pub turn_token : (at : ℕ) (text : List ℕ) → at < length text → is_space (get_or text at 0) ≡ false → 0 < (front_of (drop at text)).bytes
    → tokens_from text at ≡ token (at + 1) (front_of (drop at text)).lexeme ∷ tokens_from text (at + (front_of (drop at text)).bytes)
turn_token at text some h moves =
    let n = (front_of (drop at text)).bytes in
    let t = token (at + 1) (front_of (drop at text)).lexeme in
    token_here (at + 1) (drop at text) (some_left at text some) (space_at at text false h) moves
    ∙ ap (λ (r : List ℕ). t ∷ cut (at + 1 + n) 0 r) (drop-drop n at text)
    ∙ ap (λ k. t ∷ cut k 0 (drop (at + n) text)) (omega arith)

pub turn_end : (at : ℕ) (text : List ℕ) → length text ≤ at → tokens_from text at ≡ []
unfolding cut
turn_end at text end =
    let none : drop at text ≡ [] = nil_from_length (drop at text) (omega (arith, length-drop at text)) in
    ap (λ (r : List ℕ). cut (at + 1) 0 r) none
