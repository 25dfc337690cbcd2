-- The next row that is set, and the rows that are.
use Rattle.std.proofs.Common.{ℕ, zero, suc, ◌+◌, ◌-◌, ◌<◌, ◌≤◌, ◌≡◌, Bool, true, false, List, [], ◌∷◌, length, get_or, drop, replicate, Option, Some, None, IfSome, IfNone, IsTrue, is_some, not, ◌↔◌, refl, sym, ap, ◌∙◌, inl, inr, arith, add-zero}
use Rattle.std.proofs.lemmas.Bool.{cases_lt}
use Rattle.std.proofs.lemmas.List.{ext_get_or, length-replicate, get_or-replicate, get_or_past, drop_more, drop_all}
use Rattle.iq_bitmap.specs.Bits.{bits_of, IsNextSet, HasNoneFrom, rows_from}
use Rattle.iq_bitmap.specs.Words.{IsTight, IsFirstBit, HasNoBitFrom}
use Rattle.iq_bitmap.proofs.BitLists.{seen_bit}

pub next_seen : (xs : List ℕ) (n : ℕ) (bits : List Bool) (from row : ℕ) → IsTight xs n → bits_of 64 xs n ≡ bits → IsFirstBit xs from row → IsNextSet bits from row
next_seen xs n bits from row t is first =
    let on : get_or bits row false ≡ true = seen_bit xs n bits row t is ∙ first.on in
    record {
      onward = first.onward;
      within = elim (cases_lt row (length bits)) [ inl h ↦ h | inr past ↦ let off : get_or bits row false ≡ false = get_or_past bits row false past in cc ];
      on = on;
      before = λ i h l. seen_bit xs n bits i t is ∙ first.before i h l;
    }

pub none_seen : (xs : List ℕ) (n : ℕ) (bits : List Bool) (from : ℕ) → IsTight xs n → bits_of 64 xs n ≡ bits → HasNoBitFrom xs from → HasNoneFrom bits from
none_seen xs n bits from t is none = λ i h. seen_bit xs n bits i t is ∙ none i h

-- a fact that holds anyway holds for None
pub also_for_none : (found : Option ℕ) (P : Type 0) → P → IfNone found P
also_for_none None P p = p
also_for_none (Some i) P p = tt

all_false : (bits : List Bool) → HasNoneFrom bits 0 → bits ≡ replicate (length bits) false
all_false bits none = ext_get_or false bits (replicate (length bits) false) (sym (length-replicate (length bits) false))
    (λ i h. none i (omega arith) ∙ sym (get_or-replicate (length bits) i false false h))

-- there is no first row that is set exactly where none is
pub empty_where_none : (bits : List Bool) (found : Option ℕ) (none : Bool) → IfSome found (λ row. IsNextSet bits 0 row) → IfNone found (HasNoneFrom bits 0) → is_some found ≡ not none → IsTrue none ↔ (bits ≡ replicate (length bits) false)
empty_where_none bits None true some rest e = (λ _. all_false bits rest, λ _. refl)
empty_where_none bits None false some rest e = cc
empty_where_none bits (Some row) true some rest e = cc
empty_where_none bits (Some row) false some rest e = (
  λ h. cc,
  λ same.
      let off : get_or bits row false ≡ false = ap (λ bs. get_or bs row false) same ∙ get_or-replicate (length bits) row false false some.within in
      let on : get_or bits row false ≡ true = some.on in
      cc,
)

-- rows that are not set are passed
rows_skip : (bits : List Bool) (from d : ℕ) → ((i : ℕ) → from ≤ i → i < from + d → get_or bits i false ≡ false) → from + d ≤ length bits → rows_from from (drop from bits) ≡ rows_from (from + d) (drop (from + d) bits)
rows_skip bits from zero off h = ap (λ (k : ℕ). rows_from k (drop k bits)) (sym (add-zero from))
rows_skip bits from (suc d) off h =
    let one : (from + 1) + d ≡ from + suc d = omega arith in
    let here : get_or bits from false ≡ false = off from (omega arith) (omega arith) in
    ap (rows_from from) (drop_more bits from false (omega arith)) ∙ ap (λ (on : Bool). rows_from from (on ∷ drop (from + 1) bits)) here
    ∙ rows_skip bits (from + 1) d (λ i l k. off i (omega arith) (omega arith)) (omega arith) ∙ ap (λ (k : ℕ). rows_from k (drop k bits)) one

-- the first of the rows that are set, and the others
pub rows_next : (bits : List Bool) (from row : ℕ) → IsNextSet bits from row → rows_from from (drop from bits) ≡ row ∷ rows_from (row + 1) (drop (row + 1) bits)
rows_next bits from row next =
    let d = row - from in
    let place : from + d ≡ row = omega (arith, next.onward) in
    let passed = rows_skip bits from d (λ i l k. next.before i l (omega (arith, next.onward))) (omega (arith, next.onward, next.within)) in
    passed ∙ ap (λ (k : ℕ). rows_from k (drop k bits)) place
    ∙ ap (rows_from row) (drop_more bits row false next.within) ∙ ap (λ (on : Bool). rows_from row (on ∷ drop (row + 1) bits)) next.on

pub rows_none : (bits : List Bool) (from : ℕ) → HasNoneFrom bits from → rows_from from (drop from bits) ≡ []
rows_none bits from none = elim (cases_lt from (length bits)) [
  | inl h ↦
      let d = length bits - from in
      rows_skip bits from d (λ i l _. none i l) (omega arith) ∙ ap (rows_from (from + d)) (drop_all (from + d) bits (omega arith))
  | inr past ↦ ap (rows_from from) (drop_all from bits past)
]
