-- Tokens that a text is cut into: names are words, numbers have 64 bits, and values have at most 255 bytes of UTF-8.
use Rattle.std.proofs.Common.{◌≡◌, ◌≤◌, ◌+◌, ◌-◌, ◌^◌, ℕ, zero, suc, Bool, true, false, ◌||◌, cond, List, [], ◌∷◌, length, take, map, Option, Some, None, refl, sym, subst, nat_eq, nat_le, nat_lt, slice_index, pos, FitsSigned, w64, neg_ℤ, IsUtf8, arith}
use Rattle.std.proofs.lemmas.Bool.Decides.{nat_tests}
use Rattle.std.proofs.lemmas.Int.{ints}
use Rattle.std.proofs.lemmas.List.{length-map}
use Rattle.std.proofs.lemmas.List.Folds.{length-prefix_len}
use Rattle.std.proofs.lemmas.Str.{IsUtf8-from_is_utf8}
use Rattle.std.specs.Prelude.{⊤}
use Rattle.std.specs.List.{list_all, prefix_len, AllByRecursion}
use Rattle.std.specs.Char.{is_ascii_digit, to_ascii_lowercase}
use Rattle.std.specs.Str.{is_utf8}
use Rattle.iq_ast.specs.Words.{IsName, IsWord, begins_word, is_in_word}
use Rattle.iq_tokens.specs.declared.tokens.Mark.{Mark}
use Rattle.iq_tokens.specs.declared.tokens.Mark.TheVariants as mark
use Rattle.iq_tokens.specs.declared.tokens.Lexeme.{Lexeme}
use Rattle.iq_tokens.specs.declared.tokens.Lexeme.TheVariants as lexeme
use Rattle.iq_tokens.specs.declared.quotes.Quoted.{Quoted}
use Rattle.iq_tokens.specs.Quotes.{quoted, kept}
use Rattle.iq_tokens.specs.Tokens.{is_space, is_word_byte, reserved, front, bad, named, word_at, decimal, signed, numbered, number_at, valued, text_at, pair, single, marked, symbol_at, front_of, token, cut, lexemes}
use Rattle.iq_tokens.proofs.Reserved.{no_mark}

-- a token that a text is cut into, whatever its mark
abbrev pub IsCut : Lexeme → Type 0
IsCut (lexeme.Mark m) = ⊤
IsCut (lexeme.Name n) = IsName n
IsCut (lexeme.Number v) = FitsSigned w64 v
IsCut (lexeme.Text t) = (length t ≤ 255) × IsUtf8 t

one_more : (n : ℕ) → 1 + n ≡ suc n
one_more n = omega arith

-- ---- words

lower_in_word : (b : ℕ) → is_word_byte b ≡ true → is_in_word (to_ascii_lowercase b) ≡ true
lower_in_word b h = grind (arith, nat_tests)

lower_begins : (b : ℕ) → is_ascii_digit b ≡ false → is_word_byte b ≡ true → begins_word (to_ascii_lowercase b) ≡ true
lower_begins b digit h = grind (arith, nat_tests)

-- the longest front of bytes of a word
first_bytes : (b : ℕ) (text : List ℕ) → is_word_byte b ≡ true → take (prefix_len is_word_byte (b ∷ text)) (b ∷ text) ≡ b ∷ take (prefix_len is_word_byte text) text
first_bytes b text h = rw (h, one_more (prefix_len is_word_byte text)) refl

all_lower : (text : List ℕ) → list_all is_in_word (map to_ascii_lowercase (take (prefix_len is_word_byte text) text)) ≡ true
all_lower [] = refl
all_lower (b ∷ text) = by_case (is_word_byte b) refl (all_lower text)
  where
    by_case : (t : Bool) → is_word_byte b ≡ t → list_all is_in_word (map to_ascii_lowercase (take (prefix_len is_word_byte text) text)) ≡ true
        → list_all is_in_word (map to_ascii_lowercase (take (prefix_len is_word_byte (b ∷ text)) (b ∷ text))) ≡ true
    by_case true h others = rw (first_bytes b text h, lower_in_word b h) others
    by_case false h others = rw h refl

is_word : (b : ℕ) (text : List ℕ) → is_ascii_digit b ≡ false → is_word_byte b ≡ true → IsWord (map to_ascii_lowercase (take (prefix_len is_word_byte (b ∷ text)) (b ∷ text)))
is_word b text digit here =
    subst (λ (w : List ℕ). IsWord (map to_ascii_lowercase w)) (sym (first_bytes b text here)) (lower_begins b digit here, all_lower text)

named_cut : (w : List ℕ) (o : Option Mark) → IsWord w → length w ≤ 30 → reserved w ≡ o → IsCut (named o w)
named_cut w (Some m) word short is = tt
named_cut w None word short is = record { word = word; short = short; free = (no_mark w).0 is }

word_cut : (b : ℕ) (text : List ℕ) → is_ascii_digit b ≡ false → is_word_byte b ≡ true → IsCut (word_at (b ∷ text)).lexeme
unfolding word_at
word_cut b text digit here = by_case (prefix_len is_word_byte (b ∷ text)) (map to_ascii_lowercase (take (prefix_len is_word_byte (b ∷ text)) (b ∷ text))) (is_word b text digit here) same_length (nat_lt 30 (prefix_len is_word_byte (b ∷ text))) refl
  where
    same_length : length (map to_ascii_lowercase (take (prefix_len is_word_byte (b ∷ text)) (b ∷ text))) ≡ prefix_len is_word_byte (b ∷ text)
    same_length = rw (length-map (take (prefix_len is_word_byte (b ∷ text)) (b ∷ text)) to_ascii_lowercase) (length-prefix_len is_word_byte (b ∷ text))

    few : (n : ℕ) → nat_lt 30 n ≡ false → n ≤ 30
    few n h = grind (arith, nat_tests)

    by_case : (n : ℕ) (w : List ℕ) → IsWord w → length w ≡ n → (t : Bool) → nat_lt 30 n ≡ t → IsCut (cond t (front (lexeme.Mark mark.Other) n) (front (named (reserved w) w) n)).lexeme
    by_case n w word is true h = tt
    by_case n w word is false h = named_cut w (reserved w) word (subst (λ (k : ℕ). k ≤ 30) (sym is) (few n h)) refl

-- ---- numbers

negative_fits : (n : ℕ) → n ≤ 2 ^ 63 → FitsSigned w64 (neg_ℤ (pos n))
negative_fits zero few = omega (arith, ints)
negative_fits (suc n) few = omega (arith, ints)

positive_fits : (n : ℕ) → nat_lt n (2 ^ 63) ≡ true → FitsSigned w64 (pos n)
positive_fits n h = let few : suc n ≤ 2 ^ 63 = grind (arith, nat_tests) in omega (arith, ints)

at_most : (n : ℕ) → nat_le n (2 ^ 63) ≡ true → n ≤ 2 ^ 63
at_most n h = grind (arith, nat_tests)

signed_cut : (negative : Bool) (n bytes : ℕ) (text : List ℕ) → IsCut (numbered text (signed negative n) bytes).lexeme
unfolding signed
signed_cut true n bytes text = by_case (nat_le n (2 ^ 63)) refl
  where
    by_case : (t : Bool) → nat_le n (2 ^ 63) ≡ t → IsCut (numbered text (cond t (Some (neg_ℤ (pos n))) None) bytes).lexeme
    by_case true h = negative_fits n (at_most n h)
    by_case false h = tt
signed_cut false n bytes text = by_case (nat_lt n (2 ^ 63)) refl
  where
    by_case : (t : Bool) → nat_lt n (2 ^ 63) ≡ t → IsCut (numbered text (cond t (Some (pos n)) None) bytes).lexeme
    by_case true h = positive_fits n h
    by_case false h = tt

number_cut : (text : List ℕ) (negative : Bool) (sign : ℕ) (digits : List ℕ) → IsCut (number_at text negative sign digits).lexeme
unfolding number_at
number_cut text negative sign digits = by_case (prefix_len is_ascii_digit digits) (nat_eq (prefix_len is_ascii_digit digits) 0 || is_word_byte (slice_index digits (prefix_len is_ascii_digit digits)))
  where
    by_case : (n : ℕ) (t : Bool) → IsCut (cond t (bad text) (numbered text (signed negative (decimal (take n digits))) (n + sign))).lexeme
    by_case n true = tt
    by_case n false = signed_cut negative (decimal (take n digits)) (n + sign) text

-- ---- values in quotes

value_cut : (text : List ℕ) (o : Option Quoted) → IsCut (valued text (kept o)).lexeme
value_cut text None = tt
value_cut text (Some q) = by_case (nat_le (length q.value) 255) (is_utf8 q.value) refl refl
  where
    few : nat_le (length q.value) 255 ≡ true → length q.value ≤ 255
    few h = grind (arith, nat_tests)

    by_case : (s t : Bool) → nat_le (length q.value) 255 ≡ s → is_utf8 q.value ≡ t
        → IsCut (valued text (cond s (cond t (Some (record { value = q.value; bytes = q.bytes })) None) None)).lexeme
    by_case true true h u = (few h, IsUtf8-from_is_utf8 q.value u)
    by_case true false h u = tt
    by_case false t h u = tt

-- ---- symbols

marked_cut : (text : List ℕ) (two one : Option Mark) → IsCut (marked text two one).lexeme
marked_cut text (Some m) one = tt
marked_cut text None (Some m) = tt
marked_cut text None None = tt

-- ---- the whole text

front_cut : (b : ℕ) (text : List ℕ) → IsCut (front_of (b ∷ text)).lexeme
unfolding front_of text_at symbol_at
front_cut b text = by_case (is_ascii_digit b) (is_word_byte b) (nat_eq b 45) (nat_eq b 39) refl refl
  where
    by_case : (digit word minus quote : Bool) → is_ascii_digit b ≡ digit → is_word_byte b ≡ word
        → IsCut (cond digit (number_at (b ∷ text) false 0 (b ∷ text)) (cond word (word_at (b ∷ text)) (cond minus (number_at (b ∷ text) true 1 text) (cond quote (valued (b ∷ text) (kept (quoted text))) (marked (b ∷ text) (pair b (slice_index text 0)) (single b)))))).lexeme
    by_case true word minus quote is_digit is_word = number_cut (b ∷ text) false 0 (b ∷ text)
    by_case false true minus quote is_digit is_word = word_cut b text is_digit is_word
    by_case false false true quote is_digit is_word = number_cut (b ∷ text) true 1 text
    by_case false false false true is_digit is_word = value_cut (b ∷ text) (quoted text)
    by_case false false false false is_digit is_word = marked_cut (b ∷ text) (pair b (slice_index text 0)) (single b)

pub tokens_cut : (place left : ℕ) (text : List ℕ) → AllByRecursion IsCut (lexemes (cut place left text))
unfolding cut
tokens_cut place left [] = tt
tokens_cut place (suc left) (b ∷ text) = tokens_cut (place + 1) left text
tokens_cut place zero (b ∷ text) = by_case (is_space b) (λ left. tokens_cut (place + 1) left text)
  where
    by_case : (t : Bool) → ((left : ℕ) → AllByRecursion IsCut (lexemes (cut (place + 1) left text)))
        → AllByRecursion IsCut (lexemes (cond t (cut (place + 1) 0 text) (token place (front_of (b ∷ text)).lexeme ∷ cut (place + 1) ((front_of (b ∷ text)).bytes - 1) text)))
    by_case true others = others 0
    by_case false others = (front_cut b text, others ((front_of (b ∷ text)).bytes - 1))
