-- The token at the front of a value printed in quotes.
use Rattle.std.proofs.Common.{◌≡◌, ◌≤◌, ◌+◌, ℕ, Bool, true, false, cond, List, [], ◌∷◌, ◌++◌, length, Option, Some, refl, sym, ap, ◌∙◌, nat_le, nat_eq, slice_index, flat_map, IsUtf8, append_assoc, length-append, eqb-true, arith}
use Rattle.std.proofs.lemmas.Bool.Decides.{nat_tests}
use Rattle.std.proofs.lemmas.Str.{is_utf8-from_IsUtf8}
use Rattle.iq_tokens.specs.declared.tokens.Lexeme.TheVariants as lexeme
use Rattle.iq_tokens.specs.declared.quotes.Quoted.{Quoted}
use Rattle.iq_tokens.specs.Quotes.{quoted, kept}
use Rattle.iq_tokens.specs.Tokens.{valued, text_at, front, front_of}
use Rattle.iq_token_text.specs.Texts.{quoted_byte, quoted_text}
use Rattle.iq_token_text.proofs.WordFronts.{Ends, IsFront}

abbrev found : List ℕ → ℕ → Option Quoted
found value n = Some (record { value = value; bytes = n })

-- the quote that closes it
closes : (rest : List ℕ) → nat_eq (slice_index rest 0) 39 ≡ false → quoted (39 ∷ rest) ≡ found [] 1
unfolding quoted
closes [] ends = refl
closes (c ∷ rest) ends = rw ends refl

-- any other byte
byte_more : (b : ℕ) (text : List ℕ) (value : List ℕ) (n : ℕ) → nat_eq b 39 ≡ false → quoted text ≡ found value n → quoted (b ∷ text) ≡ found (b ∷ value) (1 + n)
unfolding quoted
byte_more b [] value n other is = absurd cc
byte_more b (c ∷ text) value n other is = rw (other, is) refl

-- a doubled quote
quote_more : (text value : List ℕ) (n : ℕ) → quoted text ≡ found value n → quoted (39 ∷ 39 ∷ text) ≡ found (39 ∷ value) (2 + n)
unfolding quoted
quote_more text value n is = rw is refl

step : (t : Bool) (b : ℕ) (text value : List ℕ) (n : ℕ) → nat_eq b 39 ≡ t → quoted text ≡ found value n
    → quoted (cond t (39 ∷ 39 ∷ []) (b ∷ []) ++ text) ≡ found (b ∷ value) (length (cond t (39 ∷ 39 ∷ []) (b ∷ [])) + n)
step true b text value n is here = quote_more text value n here ∙ ap (λ (k : ℕ). found (k ∷ value) (2 + n)) (sym (eqb-true b 39 is))
step false b text value n is here = byte_more b text value n is here

-- what is doubled is read as it was
read_back : (value rest : List ℕ) → nat_eq (slice_index rest 0) 39 ≡ false
    → quoted (flat_map quoted_byte value ++ (39 ∷ rest)) ≡ found value (length (flat_map quoted_byte value) + 1)
read_back [] rest ends = closes rest ends
read_back (b ∷ value) rest ends =
    let more = flat_map quoted_byte value in
    ap quoted (append_assoc (quoted_byte b) more (39 ∷ rest))
    ∙ step (nat_eq b 39) b (more ++ (39 ∷ rest)) value (length more + 1) refl (read_back value rest ends)
    ∙ ap (λ (k : ℕ). found (b ∷ value) k) (omega (arith, length-append (quoted_byte b) more))

short : (value : List ℕ) (n : ℕ) → length value ≤ 255 → IsUtf8 value → kept (found value n) ≡ found value n
short value n few utf8 =
    let yes : nat_le (length value) 255 ≡ true = grind (arith, nat_tests) in
    rw (yes, is_utf8-from_IsUtf8 value utf8) refl

quote_first : (rest : List ℕ) → front_of (39 ∷ rest) ≡ valued (39 ∷ rest) (kept (quoted rest))
unfolding front_of text_at
quote_first rest = refl

pub value_front : (value rest : List ℕ) → length value ≤ 255 → IsUtf8 value → Ends rest → IsFront (lexeme.Text value) (quoted_text value) rest
value_front value rest few utf8 ends =
    let doubled = flat_map quoted_byte value in
    let text = 39 ∷ ((doubled ++ 39 ∷ []) ++ rest) in
    let inner : quoted ((doubled ++ 39 ∷ []) ++ rest) ≡ found value (length doubled + 1) = ap quoted (append_assoc doubled (39 ∷ []) rest) ∙ read_back value rest ends.no_quote in
    record {
      first = 39;
      more = doubled ++ 39 ∷ [];
      is = refl;
      solid = refl;
      front = quote_first ((doubled ++ 39 ∷ []) ++ rest)
          ∙ ap (λ (o : Option Quoted). valued text (kept o)) inner
          ∙ ap (λ (o : Option Quoted). valued text o) (short value (length doubled + 1) few utf8)
          ∙ ap (λ (k : ℕ). front (lexeme.Text value) k) (omega (arith, length-append doubled (39 ∷ [])));
    }
