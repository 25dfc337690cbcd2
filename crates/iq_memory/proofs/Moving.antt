-- The pages of tables, where a table comes or goes.
use Rattle.std.proofs.Common.{◌≡◌, ◌<◌, ◌≤◌, ℕ, zero, suc, ◌+◌, ◌-◌, Bool, true, false, nat_eq, nat_lt, List, [], ◌∷◌, ◌++◌, Option, Some, None, length, take, drop, refl, sym, ◌∙◌, ap, subst, arith, cond}
use Rattle.std.specs.Prelude.{◌/◌, ◌%◌, slice_get, insert, remove}
use Rattle.std.proofs.lemmas.Bool.{eqb-true, eqb-false, ltb-true, ltb-false}
use Rattle.std.proofs.lemmas.List.Edits.{length-remove}
use Rattle.iq_pages.specs.Pages.{Pages}
use Rattle.iq_database.specs.Standing.{coming_at, going_at}
use Rattle.iq_memory.specs.declared.sure_pages.SurePages.{SurePages}
use Rattle.iq_memory.specs.Told.{pages_of, told_of, told_in}

-- LISTS

put_low : (ts : List SurePages) (i q : ℕ) (x : SurePages) → q < i → i ≤ length ts → slice_get (insert ts i x) q ≡ slice_get ts q
put_low ts zero q x less most = absurd (omega (arith, less))
put_low [] (suc i) q x less most = absurd (omega (arith, most))
put_low (t ∷ ts) (suc i) zero x less most = refl
put_low (t ∷ ts) (suc i) (suc q) x less most = put_low ts i q x (omega (arith, less)) (omega (arith, most))

put_here : (ts : List SurePages) (i : ℕ) (x : SurePages) → i ≤ length ts → slice_get (insert ts i x) i ≡ Some x
put_here ts zero x most = refl
put_here [] (suc i) x most = absurd (omega (arith, most))
put_here (t ∷ ts) (suc i) x most = put_here ts i x (omega (arith, most))

put_high : (ts : List SurePages) (i q : ℕ) (x : SurePages) → i ≤ q → i ≤ length ts → slice_get (insert ts i x) (suc q) ≡ slice_get ts q
put_high ts zero q x less most = refl
put_high [] (suc i) q x less most = absurd (omega (arith, most))
put_high (t ∷ ts) (suc i) zero x less most = absurd (omega (arith, less))
put_high (t ∷ ts) (suc i) (suc q) x less most = put_high ts i q x (omega (arith, less)) (omega (arith, most))

left_low : (ts : List SurePages) (i q : ℕ) → q < i → slice_get (remove ts i) q ≡ slice_get ts q
left_low [] zero q less = refl
left_low [] (suc i) q less = refl
left_low (t ∷ ts) zero q less = absurd (omega (arith, less))
left_low (t ∷ ts) (suc i) zero less = refl
left_low (t ∷ ts) (suc i) (suc q) less = left_low ts i q (omega (arith, less))

left_high : (ts : List SurePages) (i q : ℕ) → i ≤ q → slice_get (remove ts i) q ≡ slice_get ts (suc q)
left_high [] zero q more = refl
left_high [] (suc i) q more = refl
left_high (t ∷ ts) zero q more = refl
left_high (t ∷ ts) (suc i) zero more = absurd (omega (arith, more))
left_high (t ∷ ts) (suc i) (suc q) more = left_high ts i q (omega (arith, more))

got_front : (ts us : List SurePages) (q : ℕ) → q < length ts → slice_get (ts ++ us) q ≡ slice_get ts q
got_front [] us q less = absurd (omega (arith, less))
got_front (t ∷ ts) us zero less = refl
got_front (t ∷ ts) us (suc q) less = got_front ts us q (omega (arith, less))

-- A TABLE COMES

came_low : (ts : List SurePages) (place q k : ℕ) (x : SurePages) → length ts ≡ 64 → place < 64 → q < place → told_of (slice_get (insert (remove ts 63) place x) q) k ≡ told_of (slice_get ts q) k
came_low ts place q k x long less low =
    let most : place ≤ length (remove ts 63) = omega (arith, length-remove ts 63 (omega (arith, long)), long, less) in
    rw (put_low (remove ts 63) place q x low most, left_low ts 63 q (omega (arith, low, less))) refl

came_here : (ts : List SurePages) (place k : ℕ) (x : SurePages) → length ts ≡ 64 → place < 64 → pages_of x k ≡ [] → told_of (slice_get (insert (remove ts 63) place x) place) k ≡ Some []
came_here ts place k x long less empty =
    let most : place ≤ length (remove ts 63) = omega (arith, length-remove ts 63 (omega (arith, long)), long, less) in
    rw (put_here (remove ts 63) place x most) (ap Some empty)

came_high : (ts : List SurePages) (place q k : ℕ) (x : SurePages) → length ts ≡ 64 → place < 64 → place ≤ q → q + 1 < 64 → told_of (slice_get (insert (remove ts 63) place x) (suc q)) k ≡ told_of (slice_get ts q) k
came_high ts place q k x long less high few =
    let most : place ≤ length (remove ts 63) = omega (arith, length-remove ts 63 (omega (arith, long)), long, less) in
    rw (put_high (remove ts 63) place q x high most, left_low ts 63 q (omega (arith, few))) refl

pub came : (ts : List SurePages) (place : ℕ) (x : SurePages) → length ts ≡ 64 → place < 64 → ((k : ℕ) → pages_of x k ≡ []) → (object : ℕ) → object / 256 < 64 → told_in (insert (remove ts 63) place x) object ≡ coming_at place (told_in ts) object
came ts place x long less empty object few = by_place (nat_lt (object / 256) place) (nat_eq (object / 256) place) refl refl
  where
    by_place : (b e : Bool) → nat_lt (object / 256) place ≡ b → nat_eq (object / 256) place ≡ e → told_in (insert (remove ts 63) place x) object ≡ cond b (told_in ts object) (cond e (Some []) (told_in ts (object - 256)))
    by_place true e low is = came_low ts place (object / 256) (object % 256) x long less (ltb-true (object / 256) place low)
    by_place false true low is = rw (eqb-true (object / 256) place is) (came_here ts place (object % 256) x long less (empty (object % 256)))
    by_place false false low is =
        let high : place < object / 256 = omega (arith, ltb-false (object / 256) place low, eqb-false (object / 256) place is) in
        let before : object / 256 ≡ suc ((object - 256) / 256) = omega (arith, high) in
        let same : (object - 256) % 256 ≡ object % 256 = omega (arith, high) in
        rw (before, same) (came_high ts place ((object - 256) / 256) (object % 256) x long less (omega (arith, high)) (omega (arith, high, few)))

-- A TABLE GOES

pub went : (ts : List SurePages) (place : ℕ) (x : SurePages) → length ts ≡ 64 → place < 64 → (object : ℕ) → object / 256 + 1 < 64 → told_in (remove ts place ++ x ∷ []) object ≡ going_at place (told_in ts) object
went ts place x long less object few = rw (got_front (remove ts place) (x ∷ []) (object / 256) within) (by_place (nat_lt (object / 256) place) refl)
  where
    within : object / 256 < length (remove ts place)
    within = omega (arith, few, length-remove ts place (omega (arith, long, less)), long)

    by_place : (b : Bool) → nat_lt (object / 256) place ≡ b → told_of (slice_get (remove ts place) (object / 256)) (object % 256) ≡ cond b (told_in ts object) (told_in ts (object + 256))
    by_place true low = rw (left_low ts place (object / 256) (ltb-true (object / 256) place low)) refl
    by_place false low =
        let behind : (object + 256) / 256 ≡ suc (object / 256) = omega arith in
        let same : (object + 256) % 256 ≡ object % 256 = omega arith in
        rw (left_high ts place (object / 256) (ltb-false (object / 256) place low), behind, same) refl
