-- Rows gathered by their codes, one after the other.
use Rattle.std.proofs.Common.{◌≡◌, ◌≢◌, ◌<◌, ◌≤◌, ◌+◌, ◌-◌, ℕ, ◌&&◌, Bool, true, false, nat_eq, nat_le, nat_lt, inl, inr, List, [], ◌∷◌, ◌++◌, length, get_or, set, replicate, refl, sym, ap, ap₂, ◌∙◌, arith, true≢false}
use Rattle.std.proofs.lemmas.Bool.{cases_lt}
use Rattle.std.proofs.lemmas.Bool.Decides.{nat_tests, eqb_tells}
use Rattle.std.proofs.lemmas.List.{length-append, length-set, length-replicate, get_or_append_left, get_or_at, get_or-set_same, get_or-set_other, get_or-replicate, get_or_past}
use Rattle.iq_lf.specs.Gathered.{AreUsed, AreUsedBelow, AreGathered, AreGatheredBelow, rows_at}

true_unless : (b : Bool) → ¬ (b ≡ false) → b ≡ true
true_unless true h = refl
true_unless false h = absurd (h refl)

pub used_none : (codes : List ℕ) (values : ℕ) → AreUsedBelow 0 codes values (replicate (values + 1) false)
used_none codes values = record {
  long = length-replicate (values + 1) false;
  some = λ c h e. absurd (true≢false (sym e ∙ get_or-replicate (values + 1) c false false (omega (arith, h))));
  none = λ c h e i l. absurd (omega (arith, l));
}

pub used_next : (n : ℕ) (codes : List ℕ) (values : ℕ) (used : List Bool) → get_or codes n 0 < values + 1 → AreUsedBelow n codes values used → AreUsedBelow (n + 1) codes values (set used (get_or codes n 0) true)
used_next n codes values used fits u = (
    let code = get_or codes n 0 in
    let there : code < length used = omega (arith, fits, u.long) in
    record {
      long = length-set used code true ∙ u.long;
      some = λ c h e. elim (eqb_tells c code) [
        | inl same ↦ (λ all. all n (omega arith) (sym same.1))
        | inr other ↦ (λ all. u.some c h (sym (get_or-set_other used code c true false other.1) ∙ e) (λ i l. all i (omega (arith, l))))
      ];
      none = λ c h e i l. elim (eqb_tells c code) [
        | inl same ↦ absurd (true≢false (sym (ap (λ (j : ℕ). get_or (set used code true) j false) same.1 ∙ get_or-set_same used code true false there) ∙ e))
        | inr other ↦ elim (cases_lt i n) [
          | inl less ↦ u.none c h (sym (get_or-set_other used code c true false other.1) ∙ e) i less
          | inr last ↦ (λ z. other.1 (let same : i ≡ n = omega (arith, last, l) in sym z ∙ ap (λ (j : ℕ). get_or codes j 0) same))
        ]
      ];
    })

pub used_all : (n : ℕ) (codes : List ℕ) (values : ℕ) (used : List Bool) → length codes ≡ n → AreUsedBelow n codes values used → AreUsed codes values used
used_all n codes values used e u = record {
  long = u.long;
  some = λ c h on all. u.some c h on (λ i l. all i (omega (arith, l, e)));
  none = λ c h off i l. u.none c h off i (omega (arith, l, e));
}

-- the code of a row is used
pub used_here : (codes : List ℕ) (values : ℕ) (used : List Bool) (i : ℕ) → i < length codes → get_or codes i 0 ≤ values → AreUsed codes values used → get_or used (get_or codes i 0) false ≡ true
used_here codes values used i less fits u = true_unless (get_or used (get_or codes i 0) false) (λ off. u.none (get_or codes i 0) fits off i less refl)

-- ROWS

-- the bitmaps of the codes that are used, by the first n of the codes
pub record RowsBelow (n : ℕ) (codes : List ℕ) (from values : ℕ) (used : List Bool) (rows : List (List Bool)) : Type 0 where
  pub count : length rows ≡ values + 1
  pub long : (c : ℕ) → get_or used c false ≡ true → length (rows_at c rows) ≡ 8064
  pub each : (c : ℕ) → get_or used c false ≡ true → AreGatheredBelow n codes from c (rows_at c rows)

and_false : (b : Bool) → (b && false) ≡ false
and_false true = refl
and_false false = refl

lt_zero : (n : ℕ) → nat_lt n 0 ≡ false
lt_zero n = grind (arith, nat_tests)

pub rows_none : (codes : List ℕ) (from values : ℕ) (used : List Bool) (rows : List (List Bool)) → length rows ≡ values + 1 → ((c : ℕ) → get_or used c false ≡ true → rows_at c rows ≡ replicate 8064 false) → RowsBelow 0 codes from values used rows
rows_none codes from values used rows count are = record {
  count = count;
  long = λ c on. ap length (are c on) ∙ length-replicate 8064 false;
  each = λ c on. record {
    long = ap length (are c on) ∙ length-replicate 8064 false;
    each = λ i less. ap (λ (bits : List Bool). get_or bits i false) (are c on) ∙ get_or-replicate 8064 i false false less
        ∙ sym (ap (λ (b : Bool). nat_le from i && (b && nat_eq c (get_or codes (i - from) 0))) (lt_zero (i - from)) ∙ and_false (nat_le from i));
  };
}

-- whether a row is one of the first n + 1 with a code
later_row : (n from i c code : ℕ) → from ≤ i → i - from ≢ n → (nat_le from i && (nat_lt (i - from) (n + 1) && nat_eq c code)) ≡ (nat_le from i && (nat_lt (i - from) n && nat_eq c code))
later_row n from i c code le other = ap (λ (b : Bool). nat_le from i && (b && nat_eq c code)) (same (i - from) other)
  where
    same : (d : ℕ) → d ≢ n → nat_lt d (n + 1) ≡ nat_lt d n
    same d o = grind (arith, nat_tests)

before_row : (n from i c code : ℕ) → i < from → (nat_le from i && (nat_lt (i - from) (n + 1) && nat_eq c code)) ≡ (nat_le from i && (nat_lt (i - from) n && nat_eq c code))
before_row n from i c code less = ap (λ (b : Bool). b && (nat_lt (i - from) (n + 1) && nat_eq c code)) (no from i less) ∙ sym (ap (λ (b : Bool). b && (nat_lt (i - from) n && nat_eq c code)) (no from i less))
  where
    no : (f j : ℕ) → j < f → nat_le f j ≡ false
    no f j h = grind (arith, nat_tests)

this_row : (n from c code : ℕ) → (nat_le from (from + n) && (nat_lt (from + n - from) (n + 1) && nat_eq c code)) ≡ nat_eq c code
this_row n from c code = ap₂ (λ (a b : Bool). a && (b && nat_eq c code)) (yes from (from + n) (omega arith)) (below (from + n - from) (omega arith))
  where
    yes : (f j : ℕ) → f ≤ j → nat_le f j ≡ true
    yes f j h = grind (arith, nat_tests)

    below : (d : ℕ) → d ≡ n → nat_lt d (n + 1) ≡ true
    below d e = grind (arith, nat_tests)

same_code : (c code : ℕ) → c ≡ code → nat_eq c code ≡ true
same_code c code e = grind (arith, nat_tests)

other_code : (c code : ℕ) → c ≢ code → nat_eq c code ≡ false
other_code c code e = grind (arith, nat_tests)

last_false : (n from c code : ℕ) → nat_eq c code ≡ false → (nat_le from (from + n) && (nat_lt (from + n - from) n && nat_eq c code)) ≡ false
last_false n from c code e = ap (λ (b : Bool). nat_le from (from + n) && (nat_lt (from + n - from) n && b)) e ∙ ap (λ (b : Bool). nat_le from (from + n) && b) (and_false (nat_lt (from + n - from) n)) ∙ and_false (nat_le from (from + n))

pub rows_next : (n : ℕ) (codes : List ℕ) (from values : ℕ) (used : List Bool) (rows : List (List Bool)) → from + n < 8064 → get_or codes n 0 < values + 1 → get_or used (get_or codes n 0) false ≡ true → RowsBelow n codes from values used rows
    → RowsBelow (n + 1) codes from values used (set rows (get_or codes n 0) (set (rows_at (get_or codes n 0) rows) (from + n) true))
rows_next n codes from values used rows fits below on r = (
    let code = get_or codes n 0 in
    let there : code < length rows = omega (arith, below, r.count) in
    let new = set (rows_at code rows) (from + n) true in
    let is_new : rows_at code (set rows code new) ≡ new = get_or-set_same rows code new [] there in
    let long : length new ≡ 8064 = length-set (rows_at code rows) (from + n) true ∙ r.long code on in
    let size : (c : ℕ) → get_or used c false ≡ true → length (rows_at c (set rows code new)) ≡ 8064 = λ c used_c. elim (eqb_tells c code) [
      | inl same ↦ ap (λ (j : ℕ). length (rows_at j (set rows code new))) same.1 ∙ ap length is_new ∙ long
      | inr other ↦ ap length (get_or-set_other rows code c new [] other.1) ∙ r.long c used_c
    ] in
    record {
      count = length-set rows code new ∙ r.count;
      long = size;
      each = λ c used_c. record {
        long = size c used_c;
        each = λ i less.
            let was = (r.each c used_c).each i less in
            let code_i = get_or codes (i - from) 0 in
            elim (eqb_tells i (from + n)) [
              | inl here ↦ (
                  let place : from + n - from ≡ n = omega arith in
                  let last : (nat_le from i && (nat_lt (i - from) (n + 1) && nat_eq c code_i)) ≡ nat_eq c code =
                  ap (λ (j : ℕ). nat_le from j && (nat_lt (j - from) (n + 1) && nat_eq c (get_or codes (j - from) 0))) here.1
                  ∙ this_row n from c (get_or codes (from + n - from) 0) ∙ ap (λ (j : ℕ). nat_eq c (get_or codes j 0)) place in
                  elim (eqb_tells c code) [
                    | inl same ↦ (
                        ap (λ (j : ℕ). get_or (rows_at j (set rows code new)) i false) same.1 ∙ ap (λ (bits : List Bool). get_or bits i false) is_new
                        ∙ ap (λ (j : ℕ). get_or new j false) here.1 ∙ get_or-set_same (rows_at code rows) (from + n) true false (omega (arith, fits, r.long code on))
                        ∙ sym (last ∙ same_code c code same.1))
                    | inr other ↦ (
                        ap (λ (bits : List Bool). get_or bits i false) (get_or-set_other rows code c new [] other.1) ∙ was
                        ∙ ap (λ (j : ℕ). nat_le from j && (nat_lt (j - from) n && nat_eq c (get_or codes (j - from) 0))) here.1
                        ∙ last_false n from c (get_or codes (from + n - from) 0) (ap (λ (j : ℕ). nat_eq c (get_or codes j 0)) place ∙ other_code c code other.1)
                        ∙ sym (last ∙ other_code c code other.1))
                  ])
              | inr beside ↦ (
                  let step : (nat_le from i && (nat_lt (i - from) n && nat_eq c code_i)) ≡ (nat_le from i && (nat_lt (i - from) (n + 1) && nat_eq c code_i)) = elim (cases_lt i from) [
                    | inl early ↦ sym (before_row n from i c code_i early)
                    | inr late ↦ sym (later_row n from i c code_i late (λ e. beside.1 (omega (arith, e, late))))
                  ] in
                  elim (eqb_tells c code) [
                    | inl same ↦ (
                        ap (λ (j : ℕ). get_or (rows_at j (set rows code new)) i false) same.1 ∙ ap (λ (bits : List Bool). get_or bits i false) is_new
                        ∙ get_or-set_other (rows_at code rows) (from + n) i true false beside.1
                        ∙ ap (λ (j : ℕ). get_or (rows_at j rows) i false) (sym same.1) ∙ was ∙ step)
                    | inr other ↦ ap (λ (bits : List Bool). get_or bits i false) (get_or-set_other rows code c new [] other.1) ∙ was ∙ step
                  ])
            ];
      };
    })

no_code : (c : ℕ) → 1 ≤ c → nat_eq c 0 ≡ false
no_code c h = grind (arith, nat_tests)

pub rows_all : (n : ℕ) (codes : List ℕ) (from values : ℕ) (used : List Bool) (rows : List (List Bool)) → length codes ≡ n → RowsBelow n codes from values used rows
    → (c : ℕ) → 1 ≤ c → c ≤ values → get_or used c false ≡ true → AreGathered codes from c (rows_at c rows)
rows_all n codes from values used rows e r c one le on = record {
  long = r.long c on;
  each = λ i less. (r.each c on).each i less ∙ elim (cases_lt (i - from) n) [
    | inl within ↦ ap (λ (b : Bool). nat_le from i && (b && nat_eq c (get_or codes (i - from) 0))) (yes (i - from) n within)
    | inr past ↦ (
        let none : nat_eq c (get_or codes (i - from) 0) ≡ false = ap (nat_eq c) (get_or_past codes (i - from) 0 (omega (arith, past, e))) ∙ no_code c one in
        ap (λ (b : Bool). nat_le from i && (nat_lt (i - from) n && b)) none ∙ ap (λ (b : Bool). nat_le from i && b) (and_false (nat_lt (i - from) n)) ∙ ap (λ (b : Bool). nat_le from i && b) (sym none))
  ];
}
  where
    yes : (a b : ℕ) → a < b → nat_lt a b ≡ true
    yes a b h = grind (arith, nat_tests)

-- EMPTY BITMAPS

-- the bitmaps of the first n codes
abbrev pub AreEmptyBelow : ℕ → List Bool → List (List Bool) → Type 0
AreEmptyBelow n used rows = (length rows ≡ n) × ((c : ℕ) → c < n → get_or used c false ≡ true → rows_at c rows ≡ replicate 8064 false)

pub empty_next : (n : ℕ) (used : List Bool) (rows : List (List Bool)) (bits : List Bool) → (get_or used n false ≡ true → bits ≡ replicate 8064 false) → AreEmptyBelow n used rows → AreEmptyBelow (n + 1) used (rows ++ bits ∷ [])
empty_next n used rows bits is r = (
  omega (arith, r.0, length-append rows (bits ∷ [])),
  λ c less on. elim (cases_lt c n) [
    | inl before ↦ get_or_append_left rows (bits ∷ []) [] c (omega (arith, before, r.0)) ∙ r.1 c before on
    | inr last ↦ (let same : c ≡ n = omega (arith, last, less) in get_or_at rows bits [] [] c (r.0 ∙ sym same) ∙ is (ap (λ (j : ℕ). get_or used j false) (sym same) ∙ on))
  ],
)

pub empty_all : (n : ℕ) (used : List Bool) (rows : List (List Bool)) → length used ≡ n → AreEmptyBelow n used rows → (c : ℕ) → get_or used c false ≡ true → rows_at c rows ≡ replicate 8064 false
empty_all n used rows e r c on = elim (cases_lt c n) [
  | inl less ↦ r.1 c less on
  | inr past ↦ absurd (true≢false (sym on ∙ get_or_past used c false (omega (arith, past, e))))
]
