-- The token at the front of a printed word or name.
use Rattle.std.proofs.Common.{◌≡◌, ◌≤◌, ℕ, Bool, true, false, ◌&&◌, List, [], ◌∷◌, ◌++◌, length, map, Option, None, refl, ap, ◌∙◌, nat_lt, nat_eq, slice_index, arith}
use Rattle.std.proofs.Math.Seq.{take-append_seam}
use Rattle.std.proofs.lemmas.Bool.Decides.{nat_tests}
use Rattle.std.specs.List.{list_all, prefix_len}
use Rattle.std.specs.Char.{is_ascii_digit, to_ascii_lowercase}
use Rattle.iq_ast.specs.Words.{IsName, begins_word, is_in_word}
use Rattle.iq_tokens.specs.declared.tokens.Mark.{Mark}
use Rattle.iq_tokens.specs.declared.tokens.Lexeme.{Lexeme}
use Rattle.iq_tokens.specs.declared.tokens.Lexeme.TheVariants as lexeme
use Rattle.iq_tokens.specs.Tokens.{is_space, is_word_byte, reserved, named, front, word_at, front_of}
use Rattle.iq_tokens.proofs.Reserved.{no_mark}

-- a byte that ends any token before it
pub record EndsToken (b : ℕ) : Type 0 where
  pub no_word : is_word_byte b ≡ false
  pub no_digit : is_ascii_digit b ≡ false
  pub no_quote : nat_eq b 39 ≡ false
  pub no_equal : nat_eq b 61 ≡ false
  pub no_more : nat_eq b 62 ≡ false

-- the text is empty or begins with such a byte
abbrev pub Ends : List ℕ → Type 0
Ends rest = EndsToken (slice_index rest 0)

-- before the rest, the text is cut as this token
pub record IsFront (token : Lexeme) (text rest : List ℕ) : Type 0 where
  pub first : ℕ
  pub more : List ℕ
  pub is : text ≡ first ∷ more
  pub solid : is_space first ≡ false
  pub front : front_of (text ++ rest) ≡ front token (length text)

pub both_true : (a b : Bool) → (a && b) ≡ true → (a ≡ true) × (b ≡ true)
both_true true true h = (refl, refl)
both_true true false h = absurd cc
both_true false b h = absurd cc

-- all bytes of the front pass, and the one behind doesn't
pub prefix_all : (p : ℕ → Bool) (w rest : List ℕ) → list_all p w ≡ true → p (slice_index rest 0) ≡ false → prefix_len p (w ++ rest) ≡ length w
prefix_all p [] [] all ends = refl
prefix_all p [] (b ∷ rest) all ends = rw ends refl
prefix_all p (x ∷ w) rest all ends =
    let h = both_true (p x) (list_all p w) all in
    rw (h.0, prefix_all p w rest h.1 ends) (omega arith)

pub word_is : (w rest : List ℕ) → list_all is_word_byte w ≡ true → is_word_byte (slice_index rest 0) ≡ false → nat_lt 30 (length w) ≡ false
    → word_at (w ++ rest) ≡ front (named (reserved (map to_ascii_lowercase w)) (map to_ascii_lowercase w)) (length w)
unfolding word_at
word_is w rest all ends short = rw (prefix_all is_word_byte w rest all ends, take-append_seam w rest, short) refl

-- a word that isn't all of a number
word_begins : (b : ℕ) (w : List ℕ) → is_ascii_digit b ≡ false → is_word_byte b ≡ true → front_of (b ∷ w) ≡ word_at (b ∷ w)
unfolding front_of
word_begins b w digit here = rw (here, digit) refl

solid_word : (b : ℕ) → is_word_byte b ≡ true → is_space b ≡ false
solid_word b h = grind (arith, nat_tests)

pub first_word : (token : Lexeme) (b : ℕ) (w rest : List ℕ) → is_ascii_digit b ≡ false → list_all is_word_byte (b ∷ w) ≡ true → nat_lt 30 (length (b ∷ w)) ≡ false → Ends rest
    → named (reserved (map to_ascii_lowercase (b ∷ w))) (map to_ascii_lowercase (b ∷ w)) ≡ token → IsFront token (b ∷ w) rest
first_word token b w rest digit all short ends is =
    let here : is_word_byte b ≡ true = (both_true (is_word_byte b) (list_all is_word_byte w) all).0 in
    record {
      first = b;
      more = w;
      is = refl;
      solid = solid_word b here;
      front = word_begins b (w ++ rest) digit here ∙ word_is (b ∷ w) rest all ends.no_word short ∙ ap (λ (t : Lexeme). front t (length (b ∷ w))) is;
    }

-- ---- names

word_byte : (b : ℕ) → is_in_word b ≡ true → is_word_byte b ≡ true
word_byte b h = grind (arith, nat_tests)

lower_byte : (b : ℕ) → is_in_word b ≡ true → to_ascii_lowercase b ≡ b
lower_byte b h = grind (arith, nat_tests)

first_byte : (b : ℕ) → begins_word b ≡ true → (is_in_word b ≡ true) × (is_ascii_digit b ≡ false)
first_byte b h = (grind (arith, nat_tests), grind (arith, nat_tests))

all_word_bytes : (w : List ℕ) → list_all is_in_word w ≡ true → list_all is_word_byte w ≡ true
all_word_bytes [] all = refl
all_word_bytes (b ∷ w) all =
    let h = both_true (is_in_word b) (list_all is_in_word w) all in
    rw (word_byte b h.0, all_word_bytes w h.1) refl

all_lower : (w : List ℕ) → list_all is_in_word w ≡ true → map to_ascii_lowercase w ≡ w
all_lower [] all = refl
all_lower (b ∷ w) all =
    let h = both_true (is_in_word b) (list_all is_in_word w) all in
    rw (lower_byte b h.0, all_lower w h.1) refl

short_name : (w : List ℕ) → length w ≤ 30 → nat_lt 30 (length w) ≡ false
short_name w h = grind (arith, nat_tests)

pub name_front : (name rest : List ℕ) → IsName name → Ends rest → IsFront (lexeme.Name name) name rest
name_front [] rest is ends = absurd is.word
name_front (b ∷ w) rest is ends =
    let begins = first_byte b is.word.0 in
    let inside : list_all is_in_word (b ∷ w) ≡ true = rw (begins.0, is.word.1) refl in
    let lower : map to_ascii_lowercase (b ∷ w) ≡ b ∷ w = all_lower (b ∷ w) inside in
    let none : reserved (map to_ascii_lowercase (b ∷ w)) ≡ None = ap reserved lower ∙ (no_mark (b ∷ w)).1 is.free in
    first_word (lexeme.Name (b ∷ w)) b w rest begins.1 (all_word_bytes (b ∷ w) inside) (short_name (b ∷ w) is.short) ends
    (ap (λ (o : Option Mark). named o (map to_ascii_lowercase (b ∷ w))) none ∙ ap (λ (n : List ℕ). lexeme.Name n) lower)
