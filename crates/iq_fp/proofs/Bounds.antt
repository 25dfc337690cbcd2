-- How many pages an append writes at most.
use Rattle.std.proofs.Common.{◌≡◌, ◌<◌, ◌≤◌, ℕ, zero, suc, ◌+◌, ◌-◌, ◌*◌, ◌/◌, ◌%◌, min, inl, inr, Bool, true, false, nat_eq, if◌then◌else◌, Option, refl, mul-le-mul_right, arith}
use Rattle.std.proofs.lemmas.Bool.{cases_lt}
use Rattle.std.proofs.lemmas.Bool.Decides.{nat_tests}
use Rattle.iq_base.specs.Cells.{width}
use Rattle.iq_pieces.specs.Counts.{per_page, pages_for, pages_changed, CountsUpTo}
use Rattle.iq_pieces.proofs.Counting.{changed_some, counts_up, counts_same, begins_before, ends_behind}
use Rattle.iq_fp.specs.declared.fp.Fp.{Fp}
use Rattle.iq_fp.specs.Forms.{code_width}
use Rattle.iq_fp.specs.Calls.{pages_written, most_written}

-- a bound may be raised
pub up_to_more : (m n : ℕ) (a b : Option ℕ) → m ≤ n → CountsUpTo m a b → CountsUpTo n a b
up_to_more m n a b l p = counts_up m 0 n a b b (omega arith) p (counts_same 0 b)

-- more pieces need no fewer pages, nor do wider ones, of which a page has fewer
pub pages_more : (p q n m : ℕ) → 0 < q → q ≤ p → n ≤ m → n / p + min 1 (n % p) ≤ m / q + min 1 (m % q)
pages_more p q n m some wide more =
    let k = m / q + min 1 (m % q) in
    elim (cases_lt k (n / p + min 1 (n % p))) [
      | inl less ↦ (
          let begins : p * k < n = begins_before p n k (n / p + min 1 (n % p)) (omega arith) refl less in
          let ends : m ≤ q * k = ends_behind q m k some refl in
          let up : q * k ≤ p * k = mul-le-mul_right k wide in
          absurd (omega (arith, begins, ends, up)))
      | inr there ↦ there
    ]

-- where more pieces come, no fewer pages change
pub changed_more : (w count n m : ℕ) → 0 < per_page w → n ≤ m → pages_changed w count n ≤ pages_changed w count m
changed_more w count zero m some more = omega arith
changed_more w count (suc n) m some more =
    let a : pages_changed w count (suc n) ≡ pages_for w (count + suc n) - count / per_page w = refl in
    let b : pages_changed w count m ≡ pages_for w (count + m) - count / per_page w = changed_some w count m (omega arith) in
    let c : pages_for w (count + suc n) ≤ pages_for w (count + m) = pages_more (per_page w) (per_page w) (count + suc n) (count + m) some (omega arith) (omega arith) in
    omega (arith, a, b, c)

-- no fewer are written where all pieces come anew in a wider form
pub changed_wider : (v w count n m : ℕ) → 0 < per_page w → per_page w ≤ per_page v → count + n ≤ m → pages_changed v count n ≤ pages_changed w 0 m
changed_wider v w count zero m some wide more = omega arith
changed_wider v w count (suc n) m some wide more =
    let a : pages_changed v count (suc n) ≡ pages_for v (count + suc n) - count / per_page v = refl in
    let b : pages_changed w 0 m ≡ pages_for w (0 + m) - 0 / per_page w = changed_some w 0 m (omega arith) in
    let none : 0 / per_page w ≡ 0 = omega arith in
    let c : pages_for v (count + suc n) ≤ pages_for w (0 + m) = pages_more (per_page v) (per_page w) (count + suc n) (0 + m) some wide (omega arith) in
    omega (arith, a, b, none, c)

-- codes have one, two or three bytes, and more of them where more values are told apart
pub narrow_some : (d : ℕ) → 0 < per_page (code_width d)
narrow_some d = grind (arith, nat_tests)

pub narrow_more : (d e : ℕ) → d ≤ e → per_page (code_width e) ≤ per_page (code_width d)
narrow_more d e l = grind (arith, nat_tests)

pub width_more : (d e : ℕ) → d ≤ e → code_width d ≤ code_width e
width_more d e l = grind (arith, nat_tests)

-- what is written of codes, by whether their form stays and whether it would stay with the most values
codes_within : (s t : Bool) (a b m slots x y n : ℕ) → s ≡ nat_eq a b → t ≡ nat_eq a m → a ≤ b → b ≤ m → 0 < per_page a → 0 < per_page m → per_page m ≤ per_page a → per_page m ≤ per_page b → x ≤ y → slots + x ≤ n → (if s then pages_changed a slots x else pages_changed b 0 n) ≤ (if t then pages_changed a slots y else pages_changed m 0 n)
codes_within true true a b m slots x y n es et ab bm some least wide wider more all = changed_more a slots x y some more
codes_within true false a b m slots x y n es et ab bm some least wide wider more all = changed_wider a m slots x n least wide all
codes_within false false a b m slots x y n es et ab bm some least wide wider more all = changed_wider b m 0 n n least wider (omega arith)
codes_within false true a b m slots x y n es et ab bm some least wide wider more all = absurd (grind (arith, nat_tests))

-- an append of so many rows writes no more pages than one of as many new values
pub written_within : (old new : Fp) (more : ℕ) → 0 < per_page (width old.kind) → new.slots ≡ old.slots + more → old.distinct ≤ new.distinct → new.distinct ≤ old.distinct + more → pages_written old new ≤ most_written old more
written_within old new more some slots least most =
    let d = old.distinct in
    let e = new.distinct in
    let f = old.distinct + more in
    let rows : new.slots - old.slots ≤ old.slots + more - old.slots = omega arith in
    let values : pages_changed (width old.kind) d (e - d) ≤ pages_changed (width old.kind) d (f - d) = changed_more (width old.kind) d (e - d) (f - d) some (omega arith) in
    let codes : (if nat_eq (code_width d) (code_width e) then pages_changed (code_width d) old.slots (new.slots - old.slots) else pages_changed (code_width e) 0 new.slots) ≤ (if nat_eq (code_width d) (code_width f) then pages_changed (code_width d) old.slots (old.slots + more - old.slots) else pages_changed (code_width f) 0 (old.slots + more)) =
    rw slots (codes_within (nat_eq (code_width d) (code_width e)) (nat_eq (code_width d) (code_width f)) (code_width d) (code_width e) (code_width f) old.slots (old.slots + more - old.slots) (old.slots + more - old.slots) (old.slots + more) refl refl (width_more d e least) (width_more e f most) (narrow_some d) (narrow_some f) (narrow_more d f (omega arith)) (narrow_more e f most) (omega arith) (omega arith)) in
    omega (arith, values, codes)
