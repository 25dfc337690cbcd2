-- The keys of distinct values, one after the other.
use Rattle.std.proofs.Common.{◌≡◌, ◌≢◌, ◌<◌, ◌≤◌, ℕ, ◌+◌, Bool, true, false, not, List, [], ◌∷◌, ◌++◌, take, length, inl, inr, sym, ◌∙◌, true≢false, rules, arith}
use Rattle.std.specs.List.{list_any, position_or_len}
use Rattle.std.specs.Cmp.Lexicographic.{pointwise}
use Rattle.std.proofs.lemmas.Bool.{cases_lt}
use Rattle.std.proofs.lemmas.List.{length-append, length-take, get_or_append_left, get_or_at, get_or-take, take_more, take_all}
use Rattle.std.proofs.Common.{nat_eq}
use Rattle.indexmap.specs.IndexSet.{insert_key}
use Rattle.iq_base.specs.declared.values.Kind.{Kind}
use Rattle.iq_base.specs.declared.values.Value.{Value}
use Rattle.iq_base.specs.declared.values.Value.TheVariants.{Null}
use Rattle.iq_base.specs.Cells.{IsCell}
use Rattle.iq_cells.specs.Packed.{value_at}
use Rattle.iq_numbering.specs.Numbers.{AreDistinct, HasKeys}
use Rattle.iq_numbering.proofs.KeyPlaces.{place_is, keys_more}

-- the first values of a list are distinct, and these are their keys
pub record AreKeyed (kind : Kind) (vs : List Value) (i : ℕ) (keys : List (List ℕ)) : Type 0 where
  pub keyed : HasKeys kind (take i vs) keys
  pub distinct : AreDistinct (take i vs)

-- one more value that is none of them leaves them distinct
distinct_more : (vs : List Value) (v : Value) → AreDistinct vs → ((j : ℕ) → j < length vs → value_at j vs ≢ v) → AreDistinct (vs ++ v ∷ [])
distinct_more vs v d fresh = λ i j h l.
    let long = length-append vs (v ∷ []) in
    let left = get_or_append_left vs (v ∷ []) Null i (omega (arith, long)) in
    elim (cases_lt j (length vs)) [
      | inl less ↦ (λ e. d i j h less (sym left ∙ e ∙ get_or_append_left vs (v ∷ []) Null j less))
      | inr more ↦ (λ e. fresh i (omega (arith, long)) (sym left ∙ e ∙ get_or_at vs v [] Null j (omega (arith, long))))
    ]

module _ (kind : Kind) (vs : List Value) (i : ℕ) (c : List ℕ) (ks ks' : List (List ℕ)) (added : Bool) (less : i < length vs) (k : AreKeyed kind vs i ks) (is : IsCell kind (value_at i vs) c) (keys_are : ks' ≡ insert_key (pointwise nat_eq) ks c) (add : added ≡ not (list_any (pointwise nat_eq c) ks)) where
  -- a value whose key was added is a new one
  pub keyed_next : added ≡ true → AreKeyed kind vs (i + 1) ks'
  keyed_next e = elim (place_is kind (take i vs) (value_at i vs) c ks k.keyed is) [
    | inl here ↦ absurd (true≢false (sym e ∙ add ∙ here.2))
    | inr none ↦ record {
      keyed = rw (take_more vs i Null less, keys_are, none.2) (keys_more kind (take i vs) (value_at i vs) c ks k.keyed is);
      distinct = rw (take_more vs i Null less) (distinct_more (take i vs) (value_at i vs) k.distinct none.1);
    }
  ]

  -- and one whose key was there is a repeat
  pub repeats : added ≡ false → ¬ (AreDistinct vs)
  repeats e = λ d. elim (place_is kind (take i vs) (value_at i vs) c ks k.keyed is) [
    | inl here ↦ (
        let at = here.0 in
        let early : position_or_len (pointwise nat_eq c) ks < i = omega (arith, at.within, length-take i vs) in
        d _ i early less (sym (get_or-take i vs _ Null early) ∙ at.there))
    | inr none ↦ absurd (true≢false (sym none.3 ∙ sym add ∙ e))
  ]

-- before the first value, none repeats one
pub keyed_none : (kind : Kind) (vs : List Value) → AreKeyed kind vs 0 []
keyed_none kind vs = record {
  keyed = record { keys_are = search rules; of_kind = λ j h. absurd (omega arith) };
  distinct = λ a b h l. absurd (omega arith);
}

-- behind the last, none does
pub keyed_all : (kind : Kind) (vs : List Value) (i : ℕ) (keys : List (List ℕ)) → length vs ≤ i → AreKeyed kind vs i keys → AreDistinct vs
keyed_all kind vs i keys h k = rw take_all at k.distinct
