-- The rows of a chunk, by the codes of all rows.
use Rattle.std.proofs.Common.{◌≡◌, ◌≢◌, ◌<◌, ◌≤◌, ◌+◌, ◌-◌, ◌*◌, ◌/◌, ◌%◌, ℕ, ◌||◌, ◌&&◌, Bool, true, false, if◌then◌else◌, nat_eq, nat_le, nat_lt, inl, inr, List, ◌++◌, length, get_or, refl, sym, ap, ap₂, ◌∙◌, subst, arith, true≢false}
use Rattle.std.proofs.lemmas.Bool.{cases_lt}
use Rattle.std.proofs.lemmas.Bool.Decides.{nat_tests, eqb_tells}
use Rattle.std.proofs.lemmas.List.{ext_get_or, length-append, get_or_append_left, get_or-append-add, get_or_past}
use Rattle.std.proofs.Math.ListN.{get_or-map}
use Rattle.iq_bitmap.specs.Bits.{either}
use Rattle.iq_bitmap.proofs.Chunks.{length-chunk_of, get_or-chunk_of}
use Rattle.iq_lf.specs.Entries.{HasNone}
use Rattle.iq_lf.specs.Stands.{rows_with, due}
use Rattle.iq_lf.specs.Gathered.{AreOthers, AreGathered}
use Rattle.iq_lf.specs.Steps.{with_rows}
use Rattle.iq_lf.proofs.BitmapLaws.{length-either, get_or-either}

never : (v : ℕ) → nat_eq (v + 1) 0 ≡ false
never v = grind (arith, nat_tests)

not_same : (a b : ℕ) → a ≢ b → nat_eq b a ≡ false
not_same a b other = grind (arith, nat_tests)

-- a row is one of a value where its code is
pub rows_at : (v r : ℕ) (codes : List ℕ) → get_or (rows_with v codes) r false ≡ nat_eq (v + 1) (get_or codes r 0)
rows_at v r codes = subst (λ (b : Bool). get_or (rows_with v codes) r b ≡ nat_eq (v + 1) (get_or codes r 0)) (never v) (get_or-map (nat_eq (v + 1)) codes r 0)

pub due_at : (codes : List ℕ) (k i : ℕ) → i < 8064 → get_or (due codes k) i false ≡ nat_eq (k / 33 + 1) (get_or codes (k % 33 * 8064 + i) 0)
due_at codes k i less = get_or-chunk_of (k % 33) (rows_with (k / 33) codes) i less ∙ rows_at (k / 33) (k % 33 * 8064 + i) codes

pub length-due : (codes : List ℕ) (k : ℕ) → length (due codes k) ≡ 8064
length-due codes k = length-chunk_of (k % 33) (rows_with (k / 33) codes)

-- bits are due as before where each row's code is one as before
due_same : (codes codes' : List ℕ) (k : ℕ) → ((i : ℕ) → i < 8064 → nat_eq (k / 33 + 1) (get_or codes (k % 33 * 8064 + i) 0) ≡ nat_eq (k / 33 + 1) (get_or codes' (k % 33 * 8064 + i) 0)) → due codes k ≡ due codes' k
due_same codes codes' k same = ext_get_or false (due codes k) (due codes' k) (length-due codes k ∙ sym (length-due codes' k))
    (λ i h. let less : i < 8064 = omega (arith, h, length-due codes k) in due_at codes k i less ∙ same i less ∙ sym (due_at codes' k i less))

or_right : (b : Bool) → (b || false) ≡ b
or_right true = refl
or_right false = refl

le_true : (f i : ℕ) → f ≤ i → nat_le f i ≡ true
le_true f i h = grind (arith, nat_tests)

le_false : (f i : ℕ) → i < f → nat_le f i ≡ false
le_false f i h = grind (arith, nat_tests)

-- where rows of one chunk, so many rows from `from` on, come behind others
module _ (codes more : List ℕ) (from : ℕ) (long : length codes ≡ from) (fits : from % 8064 + length more ≤ 8064) where
  -- the rows of a value in that chunk are those before, and those of it among these
  pub grown_here : (k c : ℕ) (rows : List Bool) → k % 33 ≡ from / 8064 → k / 33 + 1 ≡ c → AreGathered more (from % 8064) c rows → either (due codes k) rows ≡ due (codes ++ more) k
  grown_here k c rows chunk value g =
      let even : length (due codes k) ≡ length rows = length-due codes k ∙ sym g.long in
      let size : length (either (due codes k) rows) ≡ 8064 = length-either (due codes k) rows even ∙ length-due codes k in
      ext_get_or false (either (due codes k) rows) (due (codes ++ more) k) (size ∙ sym (length-due (codes ++ more) k))
      (λ i h. let less : i < 8064 = omega (arith, h, size) in
      let split : get_or (either (due codes k) rows) i false ≡ (get_or (due codes k) i false || get_or rows i false) = get_or-either (due codes k) rows i even (omega (arith, less, length-due codes k)) in
      elim (cases_lt i (from % 8064)) [
        | inl early ↦ (
            let inside : k % 33 * 8064 + i < length codes = omega (arith, chunk, early, long) in
            split
            ∙ ap₂ (λ (a b : Bool). a || b) (due_at codes k i less) (g.each i less ∙ ap (λ (b : Bool). b && nat_eq c (get_or more (i - from % 8064) 0)) (le_false (from % 8064) i early))
            ∙ or_right (nat_eq (k / 33 + 1) (get_or codes (k % 33 * 8064 + i) 0))
            ∙ ap (nat_eq (k / 33 + 1)) (sym (get_or_append_left codes more 0 (k % 33 * 8064 + i) inside))
            ∙ sym (due_at (codes ++ more) k i less))
        | inr late ↦ (
            let past : length codes ≤ k % 33 * 8064 + i = omega (arith, chunk, late, long) in
            let place : length codes + (i - from % 8064) ≡ k % 33 * 8064 + i = omega (arith, chunk, late, long) in
            split
            ∙ ap₂ (λ (a b : Bool). a || b)
            (due_at codes k i less ∙ ap (nat_eq (k / 33 + 1)) (get_or_past codes (k % 33 * 8064 + i) 0 past) ∙ never (k / 33))
            (g.each i less ∙ ap (λ (b : Bool). b && nat_eq c (get_or more (i - from % 8064) 0)) (le_true (from % 8064) i late) ∙ ap (λ (n : ℕ). nat_eq n (get_or more (i - from % 8064) 0)) (sym value))
            ∙ ap (nat_eq (k / 33 + 1)) (sym (get_or-append-add codes more (i - from % 8064) 0) ∙ ap (λ (r : ℕ). get_or (codes ++ more) r 0) place)
            ∙ sym (due_at (codes ++ more) k i less))
      ])

  -- those of other chunks are as before
  pub grown_other : (k : ℕ) → k % 33 ≢ from / 8064 → due codes k ≡ due (codes ++ more) k
  grown_other k other = due_same codes (codes ++ more) k (λ i less. elim (cases_lt (k % 33 * 8064 + i) (length codes)) [
    | inl inside ↦ ap (nat_eq (k / 33 + 1)) (sym (get_or_append_left codes more 0 (k % 33 * 8064 + i) inside))
    | inr out ↦ (
        let above : from / 8064 < k % 33 = omega (arith, out, long, other, less) in
        let behind : length (codes ++ more) ≤ k % 33 * 8064 + i = omega (arith, above, fits, long, length-append codes more) in
        ap (nat_eq (k / 33 + 1)) (get_or_past codes (k % 33 * 8064 + i) 0 out ∙ sym (get_or_past (codes ++ more) (k % 33 * 8064 + i) 0 behind)))
  ])

  -- and those of a value that none of these has
  pub grown_unused : (k : ℕ) → AreOthers more (k / 33 + 1) → due codes k ≡ due (codes ++ more) k
  grown_unused k none = due_same codes (codes ++ more) k (λ i less. elim (cases_lt (k % 33 * 8064 + i) (length codes)) [
    | inl inside ↦ ap (nat_eq (k / 33 + 1)) (sym (get_or_append_left codes more 0 (k % 33 * 8064 + i) inside))
    | inr out ↦ (
        let j = k % 33 * 8064 + i - length codes in
        let place : length codes + j ≡ k % 33 * 8064 + i = omega (arith, out) in
        let read : get_or (codes ++ more) (k % 33 * 8064 + i) 0 ≡ get_or more j 0 = ap (λ (r : ℕ). get_or (codes ++ more) r 0) (sym place) ∙ get_or-append-add codes more j 0 in
        ap (nat_eq (k / 33 + 1)) (get_or_past codes (k % 33 * 8064 + i) 0 out) ∙ never (k / 33)
        ∙ sym (ap (nat_eq (k / 33 + 1)) read ∙ elim (cases_lt j (length more)) [
          | inl there ↦ not_same (get_or more j 0) (k / 33 + 1) (none j there)
          | inr past ↦ ap (nat_eq (k / 33 + 1)) (get_or_past more j 0 past) ∙ never (k / 33)
        ]))
  ])

-- rows of a code that is used are some
pub gathered_some : (more : List ℕ) (from c : ℕ) (rows : List Bool) → from + length more ≤ 8064 → AreGathered more from c rows → ¬ (AreOthers more c) → ¬ (HasNone rows)
gathered_some more from c rows fits g used = λ none. used (λ i less e.
    let place : from + i - from ≡ i = omega arith in
    let on : get_or rows (from + i) false ≡ true =
    g.each (from + i) (omega (arith, fits, less)) ∙ ap₂ (λ (a b : Bool). a && b) (le_true from (from + i) (omega arith)) (ap (λ (j : ℕ). nat_eq c (get_or more j 0)) place ∙ ap (nat_eq c) e ∙ itself c) in
    true≢false (sym on ∙ none (from + i) (omega arith)))
  where
    itself : (n : ℕ) → nat_eq n n ≡ true
    itself n = grind (arith, nat_tests)

-- MIXED, WHILE A CHUNK'S ROWS ARE PUT IN

-- the bits due to the entries of the first values count the rows behind, and the others don't yet
abbrev pub mixed : ℕ → List ℕ → List ℕ → ℕ → List Bool
mixed v codes more k = if nat_lt (k / 33) v then due (codes ++ more) k else due codes k

lt_true : (a b : ℕ) → a < b → nat_lt a b ≡ true
lt_true a b h = grind (arith, nat_tests)

lt_false : (a b : ℕ) → b ≤ a → nat_lt a b ≡ false
lt_false a b h = grind (arith, nat_tests)

pub mixed_new : (v : ℕ) (codes more : List ℕ) (k : ℕ) → k / 33 < v → mixed v codes more k ≡ due (codes ++ more) k
mixed_new v codes more k less = ap (λ (b : Bool). if b then due (codes ++ more) k else due codes k) (lt_true (k / 33) v less)

pub mixed_old : (v : ℕ) (codes more : List ℕ) (k : ℕ) → v ≤ k / 33 → mixed v codes more k ≡ due codes k
mixed_old v codes more k le = ap (λ (b : Bool). if b then due (codes ++ more) k else due codes k) (lt_false (k / 33) v le)

-- one value more, of which no entry changes but where it is said
mixed_beside : (codes more : List ℕ) (v k : ℕ) → (k / 33 ≡ v → due codes k ≡ due (codes ++ more) k) → mixed v codes more k ≡ mixed (v + 1) codes more k
mixed_beside codes more v k same = elim (cases_lt (k / 33) v) [
  | inl less ↦ mixed_new v codes more k less ∙ sym (mixed_new (v + 1) codes more k (omega (arith, less)))
  | inr on ↦ elim (eqb_tells (k / 33) v) [
    | inl here ↦ mixed_old v codes more k on ∙ same here.1 ∙ sym (mixed_new (v + 1) codes more k (omega (arith, here.1)))
    | inr other ↦ mixed_old v codes more k on ∙ sym (mixed_old (v + 1) codes more k (omega (arith, on, other.1)))
  ]
]

-- a value that none of the rows has
pub mixed_unused : (codes more : List ℕ) (from v : ℕ) → length codes ≡ from → from % 8064 + length more ≤ 8064 → AreOthers more (v + 1) → (k : ℕ) → mixed v codes more k ≡ mixed (v + 1) codes more k
mixed_unused codes more from v long fits none k = mixed_beside codes more v k (λ e. grown_unused codes more from long fits k (subst (λ (n : ℕ). AreOthers more (n + 1)) (sym e) none))

-- a value whose rows were put to those of its entry
pub mixed_used : (codes more : List ℕ) (from v : ℕ) (rows : List Bool) → length codes ≡ from → from % 8064 + length more ≤ 8064 → from / 8064 < 33 → AreGathered more (from % 8064) (v + 1) rows
    → (k : ℕ) → with_rows (33 * v + from / 8064) rows (mixed v codes more) k ≡ mixed (v + 1) codes more k
mixed_used codes more from v rows long fits small g k =
    let at = 33 * v + from / 8064 in
    let value : at / 33 ≡ v = omega (arith, small) in
    let chunk : at % 33 ≡ from / 8064 = omega (arith, small) in
    elim (eqb_tells k at) [
      | inl here ↦ (
          ap (λ (b : Bool). if b then either (mixed v codes more at) rows else mixed v codes more k) here.0
          ∙ ap (λ (bs : List Bool). either bs rows) (mixed_old v codes more at (omega (arith, value)))
          ∙ grown_here codes more from long fits at (v + 1) rows chunk (ap (λ (n : ℕ). n + 1) value) g
          ∙ sym (mixed_new (v + 1) codes more at (omega (arith, value)))
          ∙ ap (λ (j : ℕ). mixed (v + 1) codes more j) (sym here.1))
      | inr other ↦ (
          ap (λ (b : Bool). if b then either (mixed v codes more at) rows else mixed v codes more k) other.0
          ∙ mixed_beside codes more v k (λ e. grown_other codes more from long fits k (λ q. other.1 (omega (arith, e, q)))))
    ]

-- at first nothing is put in, and at last all
pub mixed_none : (codes more : List ℕ) (k : ℕ) → due codes k ≡ mixed 0 codes more k
mixed_none codes more k = sym (mixed_old 0 codes more k (omega arith))

pub mixed_all : (codes more : List ℕ) (values k : ℕ) → k < 33 * values → mixed values codes more k ≡ due (codes ++ more) k
mixed_all codes more values k less = mixed_new values codes more k (omega (arith, less))

pub length-mixed : (v : ℕ) (codes more : List ℕ) (k : ℕ) → length (mixed v codes more k) ≡ 8064
length-mixed v codes more k = elim (cases_lt (k / 33) v) [
  | inl less ↦ ap length (mixed_new v codes more k less) ∙ length-due (codes ++ more) k
  | inr on ↦ ap length (mixed_old v codes more k on) ∙ length-due codes k
]
