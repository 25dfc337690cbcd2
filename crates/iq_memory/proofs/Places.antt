-- The pages of tables, where those of one of them change.
use Rattle.std.proofs.Common.{◌≡◌, ◌≢◌, ◌<◌, ◌≤◌, ℕ, zero, suc, ◌+◌, ◌*◌, Bool, true, false, nat_eq, List, [], ◌∷◌, ◌++◌, Option, Some, None, length, refl, sym, ◌∙◌, ap, subst, arith, slice_set, slice_index_or}
use Rattle.std.specs.Prelude.{◌/◌, ◌%◌, slice_get}
use Rattle.std.specs.Option.{option_map}
use Rattle.std.proofs.lemmas.Bool.{eqb-true, eqb-false}
use Rattle.iq_pages.specs.Pages.{Pages, Seen, KeepsObjects, ChangesObject}
use Rattle.iq_memory.specs.declared.sure_pages.SurePages.{SurePages}
use Rattle.iq_memory.specs.Told.{pages_of, AreKept, AreChanged, told_of, count_of, told_in, count_in}

-- LISTS

pub get_set_same : (ts : List SurePages) (i : ℕ) (x : SurePages) → i < length ts → slice_get (slice_set ts i x) i ≡ Some x
get_set_same [] i x less = absurd (omega (arith, less))
get_set_same (t ∷ ts) zero x less = refl
get_set_same (t ∷ ts) (suc i) x less = get_set_same ts i x (omega (arith, less))

pub get_set_other : (ts : List SurePages) (i j : ℕ) (x : SurePages) → j ≢ i → slice_get (slice_set ts i x) j ≡ slice_get ts j
get_set_other [] i j x other = refl
get_set_other (t ∷ ts) zero zero x other = absurd (other refl)
get_set_other (t ∷ ts) zero (suc j) x other = refl
get_set_other (t ∷ ts) (suc i) zero x other = refl
get_set_other (t ∷ ts) (suc i) (suc j) x other = get_set_other ts i j x (λ same. other (ap suc same))

pub got : (ts : List SurePages) (i : ℕ) (x : SurePages) → i < length ts → x ≡ slice_index_or ts i x → slice_get ts i ≡ Some x
got [] i x less is = absurd (omega (arith, less))
got (t ∷ ts) zero x less is = ap Some (sym is)
got (t ∷ ts) (suc i) x less is = got ts i x (omega (arith, less)) is

pub nothing_at : (ts : List SurePages) (i : ℕ) → length ts ≤ i → slice_get ts i ≡ None
nothing_at [] i more = refl
nothing_at (t ∷ ts) zero more = absurd (omega (arith, more))
nothing_at (t ∷ ts) (suc i) more = nothing_at ts i (omega (arith, more))

-- WHAT IS SEEN

abbrev pub seen_in : List SurePages → Seen
seen_in tables = record { counts = λ object. count_in tables object; told = λ object. told_in tables object; reads = None; writes = None; faults = 0 }

told_same : (a b : SurePages) (k : ℕ) → AreKept a b → told_of (Some b) k ≡ told_of (Some a) k
told_same a b k kept = ap Some (kept k)

count_same : (a b : SurePages) (k : ℕ) → AreKept a b → count_of (Some b) k ≡ count_of (Some a) k
count_same a b k kept = ap length (kept k)

-- a fact of the pages of the table at a place, and of those of the others
by_place : (tables : List SurePages) (i : ℕ) (old new : SurePages) (P : Option SurePages → Option SurePages → Type 0) → i < length tables → old ≡ slice_index_or tables i old → (j : ℕ) → (j ≡ i → P (Some new) (Some old)) → (j ≢ i → (o : Option SurePages) → P o o)
    → P (slice_get (slice_set tables i new) j) (slice_get tables j)
by_place tables i old new P less is j here other = either (nat_eq j i) refl
  where
    either : (b : Bool) → nat_eq j i ≡ b → P (slice_get (slice_set tables i new) j) (slice_get tables j)
    either true e =
        let same : j ≡ i = eqb-true j i e in
        subst (λ (n : ℕ). P (slice_get (slice_set tables i new) n) (slice_get tables n)) (sym same) (rw (get_set_same tables i new less, got tables i old less is) (here same))
    either false e = rw (get_set_other tables i j new (eqb-false j i e)) (other (eqb-false j i e) (slice_get tables j))

-- pages that were read are as before
pub kept : (tables : List SurePages) (i : ℕ) (old new : SurePages) → i < length tables → old ≡ slice_index_or tables i old → AreKept old new → KeepsObjects (seen_in tables) (seen_in (slice_set tables i new))
kept tables i old new less is same = record {
  told = λ object. by_place tables i old new (λ (a b : Option SurePages). told_of a (object % 256) ≡ told_of b (object % 256)) less is (object / 256) (λ here. told_same old new (object % 256) same) (λ other o. refl);
  counts = λ object. by_place tables i old new (λ (a b : Option SurePages). count_of a (object % 256) ≡ count_of b (object % 256)) less is (object / 256) (λ here. count_same old new (object % 256) same) (λ other o. refl);
}

-- one object has other pages
apart : (object other : ℕ) → other ≢ object → other / 256 ≡ object / 256 → other % 256 ≢ object % 256
apart object other differ place same = differ (omega (arith, place, same))

pub changed : (tables : List SurePages) (object : ℕ) (old new : SurePages) (change : Pages → Pages) → object / 256 < length tables → old ≡ slice_index_or tables (object / 256) old → AreChanged (object % 256) (change (pages_of old (object % 256))) old new
    → ChangesObject object change (length (change (pages_of old (object % 256)))) (seen_in tables) (seen_in (slice_set tables (object / 256) new))
changed tables object old new change less is made = record {
  told_here = rw (get_set_same tables (object / 256) new less, got tables (object / 256) old less is) (ap Some made.here);
  count_here = rw (get_set_same tables (object / 256) new less) (ap length made.here);
  told_others = λ other differ. by_place tables (object / 256) old new (λ (a b : Option SurePages). told_of a (other % 256) ≡ told_of b (other % 256)) less is (other / 256)
      (λ here. ap Some (made.others (other % 256) (apart object other differ here))) (λ elsewhere o. refl);
  counts_others = λ other differ. by_place tables (object / 256) old new (λ (a b : Option SurePages). count_of a (other % 256) ≡ count_of b (other % 256)) less is (other / 256)
      (λ here. ap length (made.others (other % 256) (apart object other differ here))) (λ elsewhere o. refl);
}

-- the pages of an object of a table that is there
pub pages_here : (tables : List SurePages) (object : ℕ) (old : SurePages) → object / 256 < length tables → old ≡ slice_index_or tables (object / 256) old → count_in tables object ≡ length (pages_of old (object % 256))
pages_here tables object old less is = rw (got tables (object / 256) old less is) refl

pub told_here : (tables : List SurePages) (object : ℕ) (old : SurePages) → object / 256 < length tables → old ≡ slice_index_or tables (object / 256) old → told_in tables object ≡ Some (pages_of old (object % 256))
told_here tables object old less is = rw (got tables (object / 256) old less is) refl

-- an object of no table
pub untold : (tables : List SurePages) (object : ℕ) → length tables ≤ object / 256 → told_in tables object ≡ None
untold tables object more = rw (nothing_at tables (object / 256) more) refl

pub uncounted : (tables : List SurePages) (object : ℕ) → length tables ≤ object / 256 → count_in tables object ≡ 0
uncounted tables object more = rw (nothing_at tables (object / 256) more) refl
