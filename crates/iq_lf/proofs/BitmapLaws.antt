-- Bitmaps that entries name: one more, one with more rows, and more entries.
use Rattle.std.proofs.Common.{◌≡◌, ◌≢◌, ◌<◌, ◌≤◌, ◌+◌, ℕ, zero, suc, min, ◌||◌, Bool, true, false, if◌then◌else◌, inl, inr, List, [], ◌∷◌, ◌++◌, Option, Some, length, get_or, set, refl, sym, ap, ap₂, ◌∙◌, subst, arith}
use Rattle.std.proofs.lemmas.Bool.{cases_lt}
use Rattle.std.proofs.lemmas.Bool.Decides.{eqb_tells}
use Rattle.std.proofs.lemmas.List.{length-append, length-set, get_or_append_left, get_or_at, get_or-set_same, get_or-set_other, get_or_past}
use Rattle.std.proofs.lemmas.Simd.{length-zip2, get_or-zip2}
use Rattle.iq_pages.specs.Pages.{Pages}
use Rattle.iq_bitmap.specs.Bits.{page_bits, either}
use Rattle.iq_pieces.specs.Objects.{page_at}
use Rattle.iq_lf.specs.Entries.{entry_in, HasNone, IsBitmap, Names, count_named, HoldsBitmaps}
use Rattle.iq_lf.specs.Steps.{SetsEntry, with_rows}

-- COUNTS

pub count_same : (f g : ℕ → ℕ) (n : ℕ) → ((j : ℕ) → j < n → g j ≡ f j) → count_named g n ≡ count_named f n
count_same f g zero same = refl
count_same f g (suc n) same = ap₂ (λ (a b : ℕ). a + min 1 b) (count_same f g n (λ j h. same j (omega arith))) (same n (omega arith))

pub count_more : (f g : ℕ → ℕ) (n k : ℕ) → k < n → f k ≡ 0 → 0 < g k → ((j : ℕ) → j ≢ k → g j ≡ f j) → count_named g n ≡ count_named f n + 1
count_more f g zero k less none some same = absurd (omega arith)
count_more f g (suc n) k less none some same = elim (eqb_tells n k) [
  | inl here ↦ (
      let before = count_same f g n (λ j h. same j (λ e. absurd (omega (arith, e, here.1)))) in
      let old : f n ≡ 0 = ap f here.1 ∙ none in
      let new : g n ≡ g k = ap g here.1 in
      omega (arith, before, old, new, some))
  | inr other ↦ (
      let before = count_more f g n k (omega (arith, other.1)) none some same in
      let last = same n other.1 in
      omega (arith, before, last))
]

pub count_on : (f g : ℕ → ℕ) (count n : ℕ) → count ≤ n → ((j : ℕ) → j < count → g j ≡ f j) → ((j : ℕ) → count ≤ j → j < n → g j ≡ 0) → count_named g n ≡ count_named f count
count_on f g count zero h same none = (let e : count ≡ 0 = omega arith in ap (λ (m : ℕ). count_named f m) (sym e))
count_on f g count (suc n) h same none = elim (cases_lt n count) [
  | inl all ↦ (let e : suc n ≡ count = omega arith in count_same f g (suc n) (λ j l. same j (omega arith)) ∙ ap (λ (m : ℕ). count_named f m) e)
  | inr more ↦ (
      let before = count_on f g count n more same (λ j l u. none j l (omega arith)) in
      let last = none n more (omega arith) in
      omega (arith, before, last))
]

pub count_most : (f : ℕ → ℕ) (n : ℕ) → count_named f n ≤ n
count_most f zero = omega arith
count_most f (suc n) = (let h = count_most f n in omega (arith, h))

-- NAMES

pub names_page : (pages : Pages) (bits : List Bool) (e p : ℕ) → e ≡ p + 1 → IsBitmap pages p bits → Names pages bits e
names_page pages bits e p eq is = (let s : e ≡ suc p = omega (arith, eq) in subst (λ (n : ℕ). Names pages bits n) (sym s) is)

pub page_named : (pages : Pages) (bits : List Bool) (e p : ℕ) → e ≡ p + 1 → Names pages bits e → IsBitmap pages p bits
page_named pages bits e p eq is = (let s : e ≡ suc p = omega (arith, eq) in subst (λ (n : ℕ). Names pages bits n) s is)

pub names_none : (pages : Pages) (bits : List Bool) (e : ℕ) → e ≡ 0 → Names pages bits e → HasNone bits
names_none pages bits e eq is = subst (λ (n : ℕ). Names pages bits n) eq is

names_more : (pages : Pages) (page : List ℕ) (bits : List Bool) (e : ℕ) → Names pages bits e → Names (pages ++ page ∷ []) bits e
names_more pages page bits zero is = is
names_more pages page bits (suc p) is = record {
  there = omega (arith, is.there, length-append pages (page ∷ []));
  bits_are = ap page_bits (get_or_append_left pages (page ∷ []) [] p is.there) ∙ is.bits_are;
  some = is.some;
}

names_beside : (pages : Pages) (n : ℕ) (page : List ℕ) (bits : List Bool) (e : ℕ) → e ≢ n + 1 → Names pages bits e → Names (set pages n page) bits e
names_beside pages n page bits zero other is = is
names_beside pages n page bits (suc p) other is = (
    let differs : p ≢ n = λ e. other (omega (arith, e)) in
    record {
      there = omega (arith, is.there, length-set pages n page);
      bits_are = ap page_bits (get_or-set_other pages n p page [] differs) ∙ is.bits_are;
      some = is.some;
    })

names_below : (pages : Pages) (bits : List Bool) (e : ℕ) → Names pages bits e → e ≤ length pages
names_below pages bits zero is = omega arith
names_below pages bits (suc p) is = omega (arith, is.there)

-- ROWS IN EITHER

or_false : (a b : Bool) → (a || b) ≡ false → b ≡ false
or_false true b e = absurd (cc)
or_false false b e = e

pub length-either : (xs ys : List Bool) → length xs ≡ length ys → length (either xs ys) ≡ length xs
length-either xs ys e = length-zip2 (λ a b. a || b) xs ys e

pub get_or-either : (xs ys : List Bool) (i : ℕ) → length xs ≡ length ys → i < length xs → get_or (either xs ys) i false ≡ (get_or xs i false || get_or ys i false)
get_or-either xs ys i e less = get_or-zip2 (λ a b. a || b) xs ys i false false false less (omega (arith, e, less))

pub either_some : (xs ys : List Bool) → length xs ≡ length ys → ¬ (HasNone ys) → ¬ (HasNone (either xs ys))
either_some xs ys e some = λ none. some (λ i h. elim (cases_lt i (length xs)) [
  | inl less ↦ or_false (get_or xs i false) (get_or ys i false) (sym (get_or-either xs ys i e less) ∙ none i h)
  | inr past ↦ get_or_past ys i false (omega (arith, e, past))
])

or_none : (b : Bool) → (false || b) ≡ b
or_none b = refl

pub either_none : (xs ys : List Bool) → length xs ≡ length ys → HasNone xs → (i : ℕ) → i < length xs → get_or (either xs ys) i false ≡ get_or ys i false
either_none xs ys e none i less = get_or-either xs ys i e less ∙ ap (λ (a : Bool). a || get_or ys i false) (none i (omega arith)) ∙ or_none (get_or ys i false)

-- ENTRIES APART

module _ {told : Option Pages} {count : ℕ} {numbers : Pages} {bits : ℕ → List Bool} (h : HoldsBitmaps told count numbers bits) where
  pub differs : (j k : ℕ) → j < count → k < count → j ≢ k → entry_in numbers k ≢ 0 → entry_in numbers j ≢ entry_in numbers k
  differs j k jc kc other some = λ e. elim (cases_lt j k) [
    | inl less ↦ h.apart j k less kc (λ z. some (sym e ∙ z)) e
    | inr more ↦ h.apart k j (omega (arith, more, other)) jc some (sym e)
  ]

  pub entry_most : (j : ℕ) → j < count → entry_in numbers j ≤ length h.pages
  entry_most j jc = names_below h.pages (bits j) (entry_in numbers j) (h.named j jc)

  -- the object has as many pages as there are entries at most
  pub pages_most : length h.pages ≤ count
  pages_most = (let m = count_most (entry_in numbers) count in omega (arith, m, h.no_more))

  -- bits that are the same are due as well
  pub holds_as : (bits' : ℕ → List Bool) → ((k : ℕ) → k < count → bits k ≡ bits' k) → HoldsBitmaps told count numbers bits'
  holds_as bits' same = record {
    pages = h.pages;
    told_is = h.told_is;
    named = λ k less. subst (λ (b : List Bool). Names h.pages b (entry_in numbers k)) (same k less) (h.named k less);
    apart = h.apart;
    no_more = h.no_more;
  }

  -- more entries, which are 0 and to which nothing is due
  pub holds_more : (count' : ℕ) (numbers' : Pages) → count ≤ count' → ((k : ℕ) → k < count → entry_in numbers' k ≡ entry_in numbers k)
      → ((k : ℕ) → count ≤ k → k < count' → (entry_in numbers' k ≡ 0) × HasNone (bits k)) → HoldsBitmaps told count' numbers' bits
  holds_more count' numbers' more same none = record {
    pages = h.pages;
    told_is = h.told_is;
    named = λ k less. elim (cases_lt k count) [
      | inl old ↦ subst (λ (e : ℕ). Names h.pages (bits k) e) (sym (same k old)) (h.named k old)
      | inr new ↦ subst (λ (e : ℕ). Names h.pages (bits k) e) (sym (none k new less).0) (none k new less).1
    ];
    apart = λ j k less within some e. elim (cases_lt k count) [
      | inl old ↦ (
          let jo : j < count = omega (arith, less, old) in
          h.apart j k less old (λ z. some (same j jo ∙ z)) (sym (same j jo) ∙ e ∙ same k old))
      | inr new ↦ some (e ∙ (none k new within).0)
    ];
    no_more = h.no_more ∙ sym (count_on (entry_in numbers) (entry_in numbers') count count' more same (λ j l u. (none j l u).0));
  }

  -- a new bitmap
  pub adds_new : (after : Option Pages) (k : ℕ) (rows : List Bool) (numbers' : Pages) (page : List ℕ) → k < count → length (bits k) ≡ 8064 → length rows ≡ 8064
      → ¬ (HasNone rows) → entry_in numbers k ≡ 0 → page_bits page ≡ either (bits k) rows → SetsEntry k (length h.pages + 1) numbers numbers'
      → after ≡ Some (h.pages ++ page ∷ []) → HoldsBitmaps after count numbers' (with_rows k rows bits)
  adds_new after k rows numbers' page within long long' some none filled sets is = record {
    pages = h.pages ++ page ∷ [];
    told_is = is;
    named = λ j less. elim (eqb_tells j k) [
      | inl same ↦ (
          let e : entry_in numbers' j ≡ length h.pages + 1 = ap (λ (i : ℕ). entry_in numbers' i) same.1 ∙ sets.here in
          let due : with_rows k rows bits j ≡ either (bits k) rows = ap (λ (b : Bool). if b then either (bits k) rows else bits j) same.0 in
          let is_there : IsBitmap (h.pages ++ page ∷ []) (length h.pages) (either (bits k) rows) = record {
            there = omega (arith, length-append h.pages (page ∷ []));
            bits_are = ap page_bits (get_or_at h.pages page [] [] (length h.pages) refl) ∙ filled;
            some = either_some (bits k) rows (long ∙ sym long') some;
          } in
          names_page _ _ _ (length h.pages) e (subst (λ (b : List Bool). IsBitmap (h.pages ++ page ∷ []) (length h.pages) b) (sym due) is_there))
      | inr other ↦ (
          let due : with_rows k rows bits j ≡ bits j = ap (λ (b : Bool). if b then either (bits k) rows else bits j) other.0 in
          let old : Names (h.pages ++ page ∷ []) (bits j) (entry_in numbers' j) = subst (λ (e : ℕ). Names (h.pages ++ page ∷ []) (bits j) e) (sym (sets.others j other.1)) (names_more h.pages page (bits j) (entry_in numbers j) (h.named j less)) in
          subst (λ (b : List Bool). Names (h.pages ++ page ∷ []) b (entry_in numbers' j)) (sym due) old)
    ];
    apart = λ j i less inside filled_j e. elim (eqb_tells j k) [
      | inl same ↦ (
          let here : entry_in numbers' j ≡ length h.pages + 1 = ap (λ (n : ℕ). entry_in numbers' n) same.1 ∙ sets.here in
          let beside : entry_in numbers' i ≡ entry_in numbers i = sets.others i (λ q. absurd (omega (arith, less, q, same.1))) in
          absurd (omega (arith, here, beside, e, entry_most i inside)))
      | inr other ↦ (
          let was : entry_in numbers' j ≡ entry_in numbers j = sets.others j other.1 in
          elim (eqb_tells i k) [
            | inl same ↦ (
                let here : entry_in numbers' i ≡ length h.pages + 1 = ap (λ (n : ℕ). entry_in numbers' n) same.1 ∙ sets.here in
                absurd (omega (arith, here, was, e, entry_most j (omega (arith, less, inside)))))
            | inr neither ↦ h.apart j i less inside (λ z. filled_j (was ∙ z)) (sym was ∙ e ∙ sets.others i neither.1)
          ])
    ];
    no_more = (
        let more = count_more (entry_in numbers) (entry_in numbers') count k within none (omega (arith, sets.here)) sets.others in
        omega (arith, more, h.no_more, length-append h.pages (page ∷ [])));
  }

  -- a bitmap with more rows
  pub adds_to : (after : Option Pages) (k n : ℕ) (rows : List Bool) (page : List ℕ) → k < count → length (bits k) ≡ 8064 → length rows ≡ 8064
      → ¬ (HasNone rows) → entry_in numbers k ≡ n + 1 → page_bits page ≡ either (page_bits (page_at n h.pages)) rows
      → after ≡ Some (set h.pages n page) → HoldsBitmaps after count numbers (with_rows k rows bits)
  adds_to after k n rows page within long long' some named widened is = (
      let old : IsBitmap h.pages n (bits k) = page_named h.pages (bits k) (entry_in numbers k) n named (h.named k within) in
      record {
        pages = set h.pages n page;
        told_is = is;
        named = λ j less. elim (eqb_tells j k) [
          | inl same ↦ (
              let e : entry_in numbers j ≡ n + 1 = ap (λ (i : ℕ). entry_in numbers i) same.1 ∙ named in
              let due : with_rows k rows bits j ≡ either (bits k) rows = ap (λ (b : Bool). if b then either (bits k) rows else bits j) same.0 in
              let is_there : IsBitmap (set h.pages n page) n (either (bits k) rows) = record {
                there = omega (arith, old.there, length-set h.pages n page);
                bits_are = ap page_bits (get_or-set_same h.pages n page [] old.there) ∙ widened ∙ ap (λ (b : List Bool). either b rows) old.bits_are;
                some = either_some (bits k) rows (long ∙ sym long') some;
              } in
              names_page _ _ _ n e (subst (λ (b : List Bool). IsBitmap (set h.pages n page) n b) (sym due) is_there))
          | inr other ↦ (
              let due : with_rows k rows bits j ≡ bits j = ap (λ (b : Bool). if b then either (bits k) rows else bits j) other.0 in
              let apart : entry_in numbers j ≢ n + 1 = λ e. differs j k less within other.1 (λ z. absurd (omega (arith, z, named))) (e ∙ sym named) in
              subst (λ (b : List Bool). Names (set h.pages n page) b (entry_in numbers j)) (sym due) (names_beside h.pages n page (bits j) (entry_in numbers j) apart (h.named j less)))
        ];
        apart = h.apart;
        no_more = length-set h.pages n page ∙ h.no_more;
      })
