-- The place of a cell among the cells of values.
use Rattle.std.proofs.Common.{◌≡◌, ◌≢◌, ◌<◌, ◌≤◌, ℕ, ◌+◌, Bool, true, false, not, cond, ◌||◌, List, [], ◌∷◌, ◌++◌, ◌⊎◌, map, length, slice_index_or, take, inl, inr, refl, sym, ap, ap₂, ◌∙◌, nat_eq, if◌then◌else◌, true≢false, arith}
use Rattle.std.specs.List.{list_any, position_or_len}
use Rattle.std.specs.Cmp.Lexicographic.{pointwise, bytes_decides}
use Rattle.std.proofs.lemmas.Bool.{cases_lt}
use Rattle.std.proofs.lemmas.List.{get_or-map, length-map, length-append, length-take, map-append, get_or_append_left, get_or_at, get_or-take, take_more, append_assoc}
use Rattle.std.proofs.lemmas.List.Folds.{length-prefix_len, Any-from_list_any, list_any_at}
use Rattle.std.proofs.lemmas.List.Sums.{passes_at_first, fails_before_first}
use Rattle.indexmap.specs.IndexSet.{insert_key}
use Rattle.iq_base.specs.declared.values.Kind.{Kind}
use Rattle.iq_base.specs.declared.values.Value.{Value}
use Rattle.iq_base.specs.declared.values.Value.TheVariants.{Null}
use Rattle.iq_base.specs.Cells.{cell, IsCell}
use Rattle.iq_base.proofs.CellLaws.{cell_tells}
use Rattle.iq_cells.specs.Packed.{value_at}
use Rattle.iq_numbering.specs.Numbers.{AreDistinct, IsAt, HasKeys, StepsTo}

-- the place of a test's first pass is at most the length
place_le : (p : List ℕ → Bool) (ks : List (List ℕ)) → position_or_len p ks ≤ length ks
place_le p ks = omega (arith, length-prefix_len (λ k. not (p k)) ks, length-take (position_or_len p ks) ks)

-- where none passes before the end, none does
none_passes : (p : List ℕ → Bool) (ks : List (List ℕ)) → length ks ≤ position_or_len p ks → list_any p ks ≡ false
none_passes p ks h = by (list_any p ks) refl
  where
    by : (b : Bool) → list_any p ks ≡ b → list_any p ks ≡ false
    by false e = e
    by true e =
        let any = Any-from_list_any p ks e in
        absurd (true≢false (sym any.4 ∙ ap p (sym any.3) ∙ fails_before_first p ks any.0 any.1 (omega (arith, any.2))))

-- the test for a cell
abbrev equals : List ℕ → List ℕ → Bool
equals = pointwise nat_eq

module _ (kind : Kind) (vs : List Value) (v : Value) (c : List ℕ) (ks : List (List ℕ)) (h : HasKeys kind vs ks) (is : IsCell kind v c) where
  long : length ks ≡ length vs
  long = ap length h.keys_are ∙ length-map vs (cell kind)

  key_at : (j : ℕ) → j < length vs → slice_index_or ks j [] ≡ cell kind (value_at j vs)
  key_at j l = ap (λ (us : List (List ℕ)). slice_index_or us j []) h.keys_are ∙ get_or-map (cell kind) vs j Null [] l

  -- a key that is equal is that of the value
  same_value : (j : ℕ) → j < length vs → equals c (slice_index_or ks j []) ≡ true → value_at j vs ≡ v
  same_value j l e =
      cell_tells kind (value_at j vs) v (h.of_kind j l) is.of_kind
      (sym (key_at j l) ∙ sym ((bytes_decides c (slice_index_or ks j [])).0 e) ∙ sym is.bytes_are)

  -- and that of the value is equal
  same_key : (j : ℕ) → j < length vs → value_at j vs ≡ v → equals c (slice_index_or ks j []) ≡ true
  same_key j l e =
      (bytes_decides c (slice_index_or ks j [])).1 (sym is.bytes_are ∙ ap (cell kind) (sym e) ∙ sym (key_at j l))

  -- the value is among them, at the place
  abbrev Known : ℕ → List (List ℕ) → Bool → Type 0
  Known place ks' added = IsAt vs place v × (ks' ≡ ks) × (added ≡ false)

  -- or among none of them
  abbrev Unknown : ℕ → List (List ℕ) → Bool → Type 0
  Unknown place ks' added = (place ≡ length vs) × ((j : ℕ) → j < length vs → value_at j vs ≢ v) × (ks' ≡ ks ++ c ∷ []) × (added ≡ true)

  pub place_is : Known (position_or_len (equals c) ks) (insert_key equals ks c) (not (list_any (equals c) ks)) ⊎ Unknown (position_or_len (equals c) ks) (insert_key equals ks c) (not (list_any (equals c) ks))
  place_is = elim (cases_lt (position_or_len (equals c) ks) (length ks)) [
    | inl less ↦ (
        let passes = passes_at_first (equals c) ks [] less in
        let any : list_any (equals c) ks ≡ true = list_any_at (equals c) ks _ [] less passes in
        let within : position_or_len (equals c) ks < length vs = omega (arith, long) in
        inl (record { within = within; there = same_value _ within passes }, ap (λ (b : Bool). if b then ks else ks ++ c ∷ []) any, ap not any))
    | inr more ↦ (
        let none : list_any (equals c) ks ≡ false = none_passes (equals c) ks more in
        inr (
          omega (arith, long, place_le (equals c) ks),
          λ j l e. true≢false (sym (same_key j l e) ∙ fails_before_first (equals c) ks j [] (omega (arith, long))),
          ap (λ (b : Bool). if b then ks else ks ++ c ∷ []) none,
          ap not none,
        ))
  ]

-- the keys with the cell of one more value
pub keys_more : (kind : Kind) (vs : List Value) (v : Value) (c : List ℕ) (ks : List (List ℕ)) → HasKeys kind vs ks → IsCell kind v c → HasKeys kind (vs ++ v ∷ []) (ks ++ c ∷ [])
keys_more kind vs v c ks h is = record {
  keys_are = ap (λ (us : List (List ℕ)). us ++ c ∷ []) h.keys_are ∙ ap (λ (b : List ℕ). map (cell kind) vs ++ b ∷ []) (sym is.bytes_are) ∙ sym (map-append (cell kind) vs (v ∷ []));
  of_kind = λ i l. elim (cases_lt i (length vs)) [
    | inl less ↦ rw (get_or_append_left vs (v ∷ []) Null i less) (h.of_kind i less)
    | inr more ↦ (let here : length vs ≡ i = omega (arith, length-append vs (v ∷ [])) in rw (get_or_at vs v [] Null i here) is.of_kind)
  ];
}

-- the keys with the cell of the next of distinct values
pub keys_next : (kind : Kind) (vs : List Value) (i : ℕ) (c : List ℕ) (ks ks' : List (List ℕ)) → AreDistinct vs → i < length vs → HasKeys kind (take i vs) ks → IsCell kind (value_at i vs) c → ks' ≡ insert_key equals ks c → HasKeys kind (take (i + 1) vs) ks'
keys_next kind vs i c ks ks' d l h is e =
    elim (place_is kind (take i vs) (value_at i vs) c ks h is) [
      | inl known ↦ (
          let at = known.0 in
          let less : position_or_len (equals c) ks < i = omega (arith, at.within, length-take i vs) in
          absurd (d _ i less l (sym (get_or-take i vs _ Null less) ∙ at.there)))
      | inr unknown ↦ rw (take_more vs i Null l, e, unknown.2) (keys_more kind (take i vs) (value_at i vs) c ks h is)
    ]

-- numbering one more value takes the keys one step on
pub steps_to : (kind : Kind) (known new : List Value) (v : Value) (c : List ℕ) (ks ks' : List (List ℕ)) (place : ℕ) → HasKeys kind (known ++ new) ks → IsCell kind v c → ks' ≡ insert_key equals ks c → place ≡ position_or_len (equals c) ks → StepsTo kind known v place new ks'
steps_to kind known new v c ks ks' place h is e at =
    elim (place_is kind (known ++ new) v c ks h is) [
      | inl here ↦ record {
        new' = new;
        step = inl (record { at = rw at here.0; same = refl });
        keys_are = rw (e, here.1) h;
      }
      | inr none ↦ record {
        new' = new ++ v ∷ [];
        step = inr (record { last = at ∙ none.0; fresh = none.1; more = refl });
        keys_are = rw (e, none.2, ← append_assoc known new (v ∷ [])) (keys_more kind (known ++ new) v c ks h is);
      }
    ]

-- keys of any type, which are compared by their bytes
module _ {K : Type 0} (eq : K → K → Bool) (bytes : K → List ℕ) (compares : (a b : K) → eq a b ≡ equals (bytes a) (bytes b)) where
  any_bytes : (k : K) (ks : List K) → list_any (eq k) ks ≡ list_any (equals (bytes k)) (map bytes ks)
  any_bytes k [] = refl
  any_bytes k (x ∷ xs) = ap₂ (λ (a b : Bool). a || b) (compares k x) (any_bytes k xs)

  -- one has the place that its bytes have
  pub place_bytes : (k : K) (ks : List K) → position_or_len (eq k) ks ≡ position_or_len (equals (bytes k)) (map bytes ks)
  place_bytes k [] = refl
  place_bytes k (x ∷ xs) = ap₂ (λ (t : Bool) (n : ℕ). cond (not t) (1 + n) 0) (compares k x) (place_bytes k xs)

  -- and putting one among them puts its bytes among theirs
  pub insert_bytes : (k : K) (ks : List K) → map bytes (insert_key eq ks k) ≡ insert_key equals (map bytes ks) (bytes k)
  insert_bytes k ks = rw (any_bytes k ks) (by (list_any (equals (bytes k)) (map bytes ks)))
    where
      by : (t : Bool) → map bytes (if t then ks else ks ++ k ∷ []) ≡ (if t then map bytes ks else map bytes ks ++ bytes k ∷ [])
      by true = refl
      by false = map-append bytes ks (k ∷ [])
