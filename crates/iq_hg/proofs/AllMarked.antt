-- All entries of a column marked: the rows whose value is wanted.
use Rattle.std.proofs.Common.{◌≡◌, ◌≢◌, ◌<◌, ◌≤◌, ℕ, suc, ◌+◌, ◌-◌, Bool, true, false, not, ◌&&◌, ◌||◌, if◌then◌else◌, nat_eq, List, [], ◌∷◌, length, map, replicate, get_or, set, sym, ap, ap₂, ◌∙◌, refl, inl, inr, ◌⊎◌, ⊎_elim, arith}
use Rattle.std.specs.List.{All, list_any}
use Rattle.std.specs.List.Sorted.{IsPermutation}
use Rattle.std.proofs.lemmas.Bool.{cases_lt}
use Rattle.std.proofs.lemmas.Bool.Decides.{nat_tests}
use Rattle.std.proofs.lemmas.List.{ext_get_or, length-map, length-replicate, length-set, get_or-map, get_or-replicate, get_or-set_same, get_or-set_other, get_or_past}
use Rattle.std.proofs.lemmas.List.Elements.{All-head, All-tail, All-cons, All-nil}
use Rattle.std.proofs.lemmas.List.Sorted.{list_any-IsPermutation}
use Rattle.iq_base.specs.declared.values.Value.{Value}
use Rattle.iq_base.specs.declared.values.Value.TheVariants.{Null, Int, Text}
use Rattle.iq_truth.specs.Comparisons.{is_null}
use Rattle.iq_cells.specs.Packed.{value_at}
use Rattle.iq_hg_leaves.specs.declared.entries.Entry.{Entry}
use Rattle.iq_hg_leaves.specs.Entries.{entries_from}
use Rattle.iq_hg.specs.declared.wanted.Wanted.{Wanted}
use Rattle.iq_hg.specs.Bounds.{is_wanted}
use Rattle.iq_hg.specs.Stands.{mark_one, marked}

module _ (wanted : Wanted) where
  -- an entry of a row, whose value is wanted
  abbrev pub Hits : ℕ → Entry → Bool
  Hits row e = nat_eq e.row row && is_wanted wanted e.value

  -- whether a value is wanted; NULL isn't
  abbrev pub wants : Value → Bool
  wants v = not (is_null v) && is_wanted wanted v

  pub marked-long : (es : List Entry) (bits : List Bool) → length (marked wanted bits es) ≡ length bits
  marked-long [] bits = refl
  marked-long (e ∷ es) bits = marked-long es (mark_one wanted bits e) ∙ by (is_wanted wanted e.value)
    where
      by : (b : Bool) → length (if b then set bits e.row true else bits) ≡ length bits
      by true = length-set bits e.row true
      by false = refl

  same_row : (n : ℕ) → nat_eq n n ≡ true
  same_row n = grind (arith, nat_tests)

  other_row : (n m : ℕ) → n ≢ m → nat_eq n m ≡ false
  other_row n m h = grind (arith, nat_tests, h)

  one_marked : (bits : List Bool) (row : ℕ) (e : Entry) → row < length bits → get_or (mark_one wanted bits e) row false ≡ get_or bits row false || Hits row e
  one_marked bits row e h = by (is_wanted wanted e.value)
    where
      or_false : (b : Bool) → b ≡ b || false
      or_false true = refl
      or_false false = refl

      or_true : (b : Bool) → true ≡ b || true
      or_true true = refl
      or_true false = refl

      and_false : (b : Bool) → (b && false) ≡ false
      and_false true = refl
      and_false false = refl

      by : (b : Bool) → get_or (if b then set bits e.row true else bits) row false ≡ get_or bits row false || (nat_eq e.row row && b)
      by false = or_false (get_or bits row false) ∙ ap (λ b. get_or bits row false || b) (sym (and_false (nat_eq e.row row)))
      by true = ⊎_elim
          (λ same. ap (λ n. get_or (set bits n true) row false) same ∙ get_or-set_same bits row true false h ∙ or_true (get_or bits row false) ∙ ap (λ (t : Bool). get_or bits row false || (t && true)) (sym (ap (λ n. nat_eq n row) same ∙ same_row row)))
          (λ differ. get_or-set_other bits e.row row true false (λ x. differ (sym x)) ∙ or_false (get_or bits row false) ∙ ap (λ b. get_or bits row false || (b && true)) (sym (other_row e.row row differ)))
          (rows e.row row)
        where
          rows : (n m : ℕ) → (n ≡ m) ⊎ (n ≢ m)
          rows n m = elim (cases_lt n m) [
            | inl less ↦ inr (λ x. absurd (omega arith))
            | inr more ↦ elim (cases_lt m n) [ inl less ↦ inr (λ x. absurd (omega arith)) | inr same ↦ inl (omega arith) ]
          ]

  or_assoc : (a b c : Bool) → (a || b) || c ≡ a || (b || c)
  or_assoc true b c = refl
  or_assoc false b c = refl

  or_right : (a : Bool) → a || false ≡ a
  or_right true = refl
  or_right false = refl

  pub marked_at : (es : List Entry) (bits : List Bool) (row : ℕ) → row < length bits → get_or (marked wanted bits es) row false ≡ get_or bits row false || list_any (Hits row) es
  marked_at [] bits row h = sym (or_right (get_or bits row false))
  marked_at (e ∷ es) bits row h =
      marked_at es (mark_one wanted bits e) row (omega (arith, marked-long (e ∷ []) bits)) ∙ ap (λ b. b || list_any (Hits row) es) (one_marked bits row e h)
      ∙ or_assoc (get_or bits row false) (Hits row e) (list_any (Hits row) es)

  none_before : (vs : List Value) (from row : ℕ) → row < from → list_any (Hits row) (entries_from from vs) ≡ false
  none_before [] from row h = refl
  none_before (v ∷ vs) from row h = by (is_null v) (none_before vs (from + 1) row (omega arith))
    where
      by : (b : Bool) → list_any (Hits row) (entries_from (from + 1) vs) ≡ false → list_any (Hits row) (if b then entries_from (from + 1) vs else ((record { value = v; row = from }) ∷ entries_from (from + 1) vs)) ≡ false
      by true e = e
      by false e = ap (λ b. (b && is_wanted wanted v) || list_any (Hits row) (entries_from (from + 1) vs)) (other_row from row (λ x. absurd (omega arith))) ∙ e

  pub any_at : (vs : List Value) (from row : ℕ) → from ≤ row → list_any (Hits row) (entries_from from vs) ≡ wants (value_at (row - from) vs)
  any_at [] from row h = ap wants (sym (get_or_past [] (row - from) Null (omega arith)))
  any_at (v ∷ vs) from row h = elim (cases_lt from row) [
    | inl less ↦ (let next : row - from ≡ suc (row - (from + 1)) = omega arith in
        later less (is_null v) ∙ any_at vs (from + 1) row (omega arith) ∙ ap (λ n. wants (value_at n (v ∷ vs))) (sym next))
    | inr same ↦ (let at : row ≡ from = omega arith in let none : row - from ≡ 0 = omega arith in
        here at v ∙ ap (λ n. wants (value_at n (v ∷ vs))) (sym none))
  ]
    where
      tail : List Entry
      tail = entries_from (from + 1) vs

      later : from < row → (b : Bool) → list_any (Hits row) (if b then tail else ((record { value = v; row = from }) ∷ tail)) ≡ list_any (Hits row) tail
      later less true = refl
      later less false = ap (λ b. (b && is_wanted wanted v) || list_any (Hits row) tail) (other_row from row (λ x. absurd (omega arith)))

      here : row ≡ from → (u : Value) → list_any (Hits row) (if is_null u then tail else ((record { value = u; row = from }) ∷ tail)) ≡ wants u
      here at Null = none_before vs (from + 1) row (omega arith)
      here at (Int z) = ap₂ (λ a b. (a && is_wanted wanted (Int z)) || b) (ap (λ n. nat_eq from n) at ∙ same_row from) (none_before vs (from + 1) row (omega arith)) ∙ or_right (is_wanted wanted (Int z))
      here at (Text t) = ap₂ (λ a b. (a && is_wanted wanted (Text t)) || b) (ap (λ n. nat_eq from n) at ∙ same_row from) (none_before vs (from + 1) row (omega arith)) ∙ or_right (is_wanted wanted (Text t))

  -- all entries of a column
  pub marked_all : (values : List Value) (es : List Entry) (n : ℕ) → length values ≡ n → IsPermutation (entries_from 0 values) es → marked wanted (replicate n false) es ≡ map wants values
  marked_all values es n long all = ext_get_or false (marked wanted (replicate n false) es) (map wants values)
      (marked-long es (replicate n false) ∙ length-replicate n false ∙ sym long ∙ sym (length-map values wants))
      (λ row h.
      let within : row < n = omega (arith, marked-long es (replicate n false), length-replicate n false) in
      let zero_is : row - 0 ≡ row = omega arith in
      marked_at es (replicate n false) row (omega (arith, length-replicate n false)) ∙ ap (λ b. b || list_any (Hits row) es) (get_or-replicate n row false false within)
      ∙ sym (list_any-IsPermutation (Hits row) (entries_from 0 values) es all) ∙ any_at values 0 row (omega arith) ∙ ap (λ k. wants (value_at k values)) zero_is
      ∙ sym (get_or-map wants values row Null false (omega (arith, long))))

  -- entries of which none is wanted
  pub marked_none : (es : List Entry) (bits : List Bool) → All (λ (e : Entry). is_wanted wanted e.value ≡ false) es → marked wanted bits es ≡ bits
  marked_none [] bits all = refl
  marked_none (e ∷ es) bits all =
      let P = λ (e : Entry). is_wanted wanted e.value ≡ false in
      ap (λ b. marked wanted (if b then set bits e.row true else bits) es) (All-head P e es all) ∙ marked_none es bits (All-tail P e es all)

-- each entry of a column has one of its rows
pub rows_within : (vs : List Value) (from n : ℕ) → from + length vs ≤ n → All (λ (e : Entry). e.row < n) (entries_from from vs)
rows_within [] from n h = All-nil (λ (e : Entry). e.row < n)
rows_within (v ∷ vs) from n h = by (is_null v) (rows_within vs (from + 1) n (omega arith))
  where
    by : (b : Bool) → All (λ (e : Entry). e.row < n) (entries_from (from + 1) vs) → All (λ (e : Entry). e.row < n) (if b then entries_from (from + 1) vs else ((record { value = v; row = from }) ∷ entries_from (from + 1) vs))
    by true rest = rest
    by false rest = All-cons (λ (e : Entry). e.row < n) (record { value = v; row = from }) (entries_from (from + 1) vs) (omega arith) rest
