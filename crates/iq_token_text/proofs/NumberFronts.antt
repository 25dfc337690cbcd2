-- The token at the front of a printed number.
use Rattle.std.proofs.Common.{◌≡◌, ◌<◌, ◌≤◌, ◌+◌, ◌*◌, ◌-◌, ◌^◌, ℕ, suc, Bool, true, false, List, [], ◌∷◌, ◌++◌, length, Option, Some, refl, ap, ◌∙◌, nat_lt, nat_le, nat_eq, slice_index, fold, ℤ, pos, negsuc, FitsSigned, decimal, w64, arith}
use Rattle.std.proofs.Math.Seq.{take-append_seam}
use Rattle.std.proofs.lemmas.Bool.Decides.{nat_tests}
use Rattle.std.proofs.lemmas.List.{get_or-append-add}
use Rattle.std.proofs.lemmas.Fmt.{digits_decimal, digits_value-decimal, decimal_nonempty}
use Rattle.std.proofs.lemmas.Str.Parse.{IsNumeralModel, numerals_by_fold, FoldsDigits, tells_all_ascii_digits}
use Rattle.std.specs.List.{list_all}
use Rattle.std.specs.Str.{all_ascii_digits}
use Rattle.std.specs.Fmt.{signed_decimal}
use Rattle.std.specs.Char.{is_ascii_digit}
use Rattle.iq_tokens.specs.declared.tokens.Lexeme.TheVariants as lexeme
use Rattle.iq_tokens.specs.Tokens.{is_space, front, number_at, numbered, signed, decimal as read, front_of}
use Rattle.iq_token_text.proofs.WordFronts.{Ends, IsFront, both_true, prefix_all}

-- reading digits from the left
folds : FoldsDigits (λ (n : ℕ) (ds : List ℕ). fold (λ (m d : ℕ). 10 * m + (d - 48)) n ds)
folds = record {
  empty = λ n. refl;
  more = λ n c cs range. ap (λ (k : ℕ). fold (λ (m d : ℕ). 10 * m + (d - 48)) k cs) (omega arith);
}

model : IsNumeralModel (λ (ds : List ℕ). all_ascii_digits ds ≡ true) read
model = numerals_by_fold _ tells_all_ascii_digits _ folds

all_digits : (ds : List ℕ) → all_ascii_digits ds ≡ true → list_all is_ascii_digit ds ≡ true
all_digits [] all = refl
all_digits (d ∷ ds) all =
    let h = both_true (is_ascii_digit d) (all_ascii_digits ds) all in
    rw (h.0, all_digits ds h.1) refl

some_digit : (ds : List ℕ) → 0 < length ds → nat_eq (length ds) 0 ≡ false
some_digit ds h = grind (arith, nat_tests)

behind : (ds rest : List ℕ) → slice_index (ds ++ rest) (length ds) ≡ slice_index rest 0
behind ds rest = ap (λ (k : ℕ). slice_index (ds ++ rest) k) (omega arith) ∙ get_or-append-add ds rest 0 0

-- the number of these digits
number_is : (n : ℕ) (negative : Bool) (sign : ℕ) (text rest : List ℕ) → n < 2 ^ 64 → Ends rest
    → number_at text negative sign (decimal n ++ rest) ≡ numbered text (signed negative n) (length (decimal n) + sign)
unfolding number_at
number_is n negative sign text rest fits ends =
    let ds = decimal n in
    let digits : list_all is_ascii_digit ds ≡ true = all_digits ds (digits_decimal model n fits) in
    rw (prefix_all is_ascii_digit ds rest digits ends.no_digit, some_digit ds (decimal_nonempty n fits), behind ds rest, ends.no_word, take-append_seam ds rest, digits_value-decimal model n fits) refl

digit_first : (ds rest : List ℕ) → all_ascii_digits ds ≡ true → 0 < length ds → front_of (ds ++ rest) ≡ number_at (ds ++ rest) false 0 (ds ++ rest)
unfolding front_of
digit_first [] rest all some = absurd (omega arith)
digit_first (d ∷ ds) rest all some = let h = both_true (is_ascii_digit d) (all_ascii_digits ds) all in rw h.0 refl

solid_digit : (d : ℕ) → is_ascii_digit d ≡ true → is_space d ≡ false
solid_digit d h = grind (arith, nat_tests)

positive : (n : ℕ) → n < 2 ^ 63 → signed false n ≡ Some (pos n)
unfolding signed
positive n h = let yes : nat_lt n (2 ^ 63) ≡ true = grind (arith, nat_tests) in rw yes refl

negative : (n : ℕ) → suc n ≤ 2 ^ 63 → signed true (suc n) ≡ Some (negsuc n)
unfolding signed
negative n h = let yes : nat_le (suc n) (2 ^ 63) ≡ true = grind (arith, nat_tests) in rw yes refl

digits_front : (v : ℤ) (ds rest : List ℕ) → all_ascii_digits ds ≡ true → 0 < length ds → front_of (ds ++ rest) ≡ front (lexeme.Number v) (length ds) → IsFront (lexeme.Number v) ds rest
digits_front v [] rest all some is = absurd (omega arith)
digits_front v (d ∷ ds) rest all some is =
    record { first = d; more = ds; is = refl; solid = solid_digit d (both_true (is_ascii_digit d) (all_ascii_digits ds) all).0; front = is }

minus_first : (rest : List ℕ) → front_of (45 ∷ rest) ≡ number_at (45 ∷ rest) true 1 rest
unfolding front_of
minus_first rest = refl

pub number_front : (v : ℤ) (rest : List ℕ) → FitsSigned w64 v → Ends rest → IsFront (lexeme.Number v) (signed_decimal v) rest
number_front (pos n) rest fits ends =
    let small : n < 2 ^ 64 = omega (arith, fits.sfits) in
    let all = digits_decimal model n small in
    let some = decimal_nonempty n small in
    let text = decimal n ++ rest in
    digits_front (pos n) (decimal n) rest all some (
    digit_first (decimal n) rest all some
    ∙ number_is n false 0 text rest small ends
    ∙ ap (λ (o : Option ℤ). numbered text o (length (decimal n) + 0)) (positive n (omega (arith, fits.sfits)))
    ∙ ap (λ (k : ℕ). front (lexeme.Number (pos n)) k) (omega arith)
    )
number_front (negsuc n) rest fits ends =
    let small : suc n < 2 ^ 64 = omega (arith, fits.sfits) in
    let text = 45 ∷ (decimal (suc n) ++ rest) in
    record {
      first = 45;
      more = decimal (suc n);
      is = refl;
      solid = refl;
      front = minus_first (decimal (suc n) ++ rest)
          ∙ number_is (suc n) true 1 text rest small ends
          ∙ ap (λ (o : Option ℤ). numbered text o (length (decimal (suc n)) + 1)) (negative n (omega (arith, fits.sfits)))
          ∙ ap (λ (k : ℕ). front (lexeme.Number (negsuc n)) k) (omega arith);
    }
