-- Lists of descriptors with one put in, taken out or changed.
use Rattle.std.proofs.Common.{◌≡◌, ◌≤◌, ◌<◌, ℕ, zero, suc, false, List, [], ◌∷◌, length, take, drop, get_or, refl, sym, ap, subst, arith, Bool, true, None, ◌∙◌}
use Rattle.std.specs.Prelude.{insert, remove}
use Rattle.std.specs.List.{All}
use Rattle.std.proofs.Math.ListN.{set}
use Rattle.std.proofs.lemmas.List.{length-set}
use Rattle.std.proofs.lemmas.List.Edits.{length-insert, length-remove}
use Rattle.std.proofs.lemmas.List.Elements.{All-set, All-append, All-take, All-drop}
use Rattle.iq_base.specs.Shorts.{Name}
use Rattle.iq_base.specs.declared.descriptors.Descriptor.{Descriptor}
use Rattle.iq_conditions.specs.Servers.{same_name}
use Rattle.iq_database.specs.Standing.{HasNone, AreDistinct}
use Rattle.iq_database.specs.LookUps.{place_from, before_from}
use Rattle.iq_database.proofs.Names.{same_name-refl, same_name-true}
use Rattle.iq_database.proofs.LookUps.{none_of}
use Rattle.iq_write.specs.Simple.{ArePlain}

-- NAMES

none_insert : (name : Name) (ds : List Descriptor) (i : ℕ) (x : Descriptor) → same_name x.name name ≡ false → HasNone name ds → HasNone name (insert ds i x)
none_insert name [] zero x other none = (other, tt)
none_insert name [] (suc i) x other none = (other, tt)
none_insert name (d ∷ ds) zero x other none = (other, none)
none_insert name (d ∷ ds) (suc i) x other none = (none.0, none_insert name ds i x other none.1)

-- names differ both ways
differs : (a b : Name) → same_name a b ≡ false → same_name b a ≡ false
differs a b h = decide (same_name b a) refl
  where
    decide : (t : Bool) → same_name b a ≡ t → same_name b a ≡ false
    decide false e = e
    decide true e =
        let same : b ≡ a = same_name-true b a e in
        let clash : true ≡ false = sym (same_name-refl b) ∙ ap (λ (m : Name). same_name m b) same ∙ h in
        cc

distinct_insert : (ds : List Descriptor) (i : ℕ) (x : Descriptor) → HasNone x.name ds → AreDistinct ds → AreDistinct (insert ds i x)
distinct_insert [] zero x none distinct = (tt, tt)
distinct_insert [] (suc i) x none distinct = (tt, tt)
distinct_insert (d ∷ ds) zero x none distinct = (none, distinct)
distinct_insert (d ∷ ds) (suc i) x none distinct = (none_insert d.name ds i x (differs d.name x.name none.0) distinct.0, distinct_insert ds i x none.1 distinct.1)

none_remove : (name : Name) (ds : List Descriptor) (i : ℕ) → HasNone name ds → HasNone name (remove ds i)
none_remove name [] zero none = tt
none_remove name [] (suc i) none = tt
none_remove name (d ∷ ds) zero none = none.1
none_remove name (d ∷ ds) (suc i) none = (none.0, none_remove name ds i none.1)

distinct_remove : (ds : List Descriptor) (i : ℕ) → AreDistinct ds → AreDistinct (remove ds i)
distinct_remove [] zero distinct = tt
distinct_remove [] (suc i) distinct = tt
distinct_remove (d ∷ ds) zero distinct = distinct.1
distinct_remove (d ∷ ds) (suc i) distinct = (none_remove d.name ds i distinct.0, distinct_remove ds i distinct.1)

none_set : (name : Name) (ds : List Descriptor) (i : ℕ) (x : Descriptor) → x.name ≡ (get_or ds i x).name → HasNone name ds → HasNone name (set ds i x)
none_set name [] i x same none = tt
none_set name (d ∷ ds) zero x same none = (ap (λ (m : Name). same_name m name) same ∙ none.0, none.1)
none_set name (d ∷ ds) (suc i) x same none = (none.0, none_set name ds i x same none.1)

distinct_set : (ds : List Descriptor) (i : ℕ) (x : Descriptor) → x.name ≡ (get_or ds i x).name → AreDistinct ds → AreDistinct (set ds i x)
distinct_set [] i x same distinct = tt
distinct_set (d ∷ ds) zero x same distinct = (subst (λ (m : Name). HasNone m ds) (sym same) distinct.0, distinct.1)
distinct_set (d ∷ ds) (suc i) x same distinct = (none_set d.name ds i x same distinct.0, distinct_set ds i x same distinct.1)

-- TABLES

all_insert : (P : Descriptor → Type 0) (ds : List Descriptor) (i : ℕ) (x : Descriptor) → P x → All P ds → All P (insert ds i x)
all_insert P ds i x p all = All-append P (take i ds) (x ∷ drop i ds) (All-take P i ds all) (front (drop i ds) (All-drop P i ds all))
  where
    single : All P (x ∷ [])
    single zero d less = p
    single (suc k) d less = absurd (omega (arith, less))

    front : (es : List Descriptor) → All P es → All P (x ∷ es)
    front es h = All-append P (x ∷ []) es single h

pub plain_insert : (ds : List Descriptor) (name : Name) (x : Descriptor) → x.name ≡ name → length x.columns ≤ 32 → x.indexes ≡ [] → place_from 0 name ds ≡ None → length ds < 64 → before_from 0 name ds ≤ length ds → ArePlain ds → ArePlain (insert ds (before_from 0 name ds) x)
plain_insert ds name x is narrow plain place few within h =
    let none : HasNone x.name ds = subst (λ (m : Name). HasNone m ds) (sym is) (none_of 0 name ds place) in
    record {
      tables = record {
        few = omega (arith, few, length-insert ds (before_from 0 name ds) x within);
        narrow = all_insert (λ (d : Descriptor). length d.columns ≤ 32) ds (before_from 0 name ds) x narrow h.tables.narrow;
        distinct = distinct_insert ds (before_from 0 name ds) x none h.tables.distinct;
      };
      plain = all_insert (λ (d : Descriptor). d.indexes ≡ []) ds (before_from 0 name ds) x plain h.plain;
    }

pub plain_remove : (ds : List Descriptor) (i : ℕ) → i < length ds → ArePlain ds → ArePlain (remove ds i)
plain_remove ds i within h = record {
  tables = record {
    few = omega (arith, h.tables.few, length-remove ds i within);
    narrow = All-append (λ (d : Descriptor). length d.columns ≤ 32) (take i ds) (drop (suc i) ds) (All-take (λ (d : Descriptor). length d.columns ≤ 32) i ds h.tables.narrow) (All-drop (λ (d : Descriptor). length d.columns ≤ 32) (suc i) ds h.tables.narrow);
    distinct = distinct_remove ds i h.tables.distinct;
  };
  plain = All-append (λ (d : Descriptor). d.indexes ≡ []) (take i ds) (drop (suc i) ds) (All-take (λ (d : Descriptor). d.indexes ≡ []) i ds h.plain) (All-drop (λ (d : Descriptor). d.indexes ≡ []) (suc i) ds h.plain);
}

pub plain_set : (ds : List Descriptor) (i : ℕ) (x : Descriptor) → x.name ≡ (get_or ds i x).name → length x.columns ≤ 32 → x.indexes ≡ [] → ArePlain ds → ArePlain (set ds i x)
plain_set ds i x same narrow plain h = record {
  tables = record {
    few = omega (arith, h.tables.few, length-set ds i x);
    narrow = All-set (λ (d : Descriptor). length d.columns ≤ 32) ds i x narrow h.tables.narrow;
    distinct = distinct_set ds i x same h.tables.distinct;
  };
  plain = All-set (λ (d : Descriptor). d.indexes ≡ []) ds i x plain h.plain;
}
