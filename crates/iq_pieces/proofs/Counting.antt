-- Counts of pages, and calls that follow one another.
use Rattle.std.proofs.Common.{◌≡◌, ◌<◌, ◌≤◌, ℕ, zero, suc, ◌+◌, ◌-◌, ◌*◌, ◌/◌, ◌%◌, min, inl, inr, [], Option, Some, None, zero-add, refl, ap, ◌∙◌, arith}
use Rattle.std.proofs.Math.Nat.{mul-le-mul_left, mul_comm}
use Rattle.std.proofs.lemmas.Bool.{cases_lt}
use Rattle.std.proofs.lemmas.Grind.{div_ceil_times}
use Rattle.std.specs.Option.{option_map}
use Rattle.iq_pages.specs.Pages.{Pages, Seen, CountsMore, KeepsObjects, HasCause}
use Rattle.iq_pages.specs.declared.page_faults.PageFault.{PageFault}
use Rattle.iq_pages.specs.declared.page_faults.PageFault.TheVariants.{Failed, BadPage, NoMemory}
use Rattle.iq_pages.proofs.PageLaws.{rose_since, counts_on}
use Rattle.iq_pieces.specs.Counts.{per_page, pages_for, pages_changed, CountsUpTo, KeepsOthers, OnlyReads}

-- where there are more pieces, the pages change up to that of the last
pub changed_some : (w count n : ℕ) → 0 < n → pages_changed w count n ≡ pages_for w (count + n) - count / per_page w
changed_some w count zero h = absurd (omega arith)
changed_some w count (suc n) h = refl

-- what was counted is within a bound
pub counts_within : (m n : ℕ) (before after : Option ℕ) → m ≤ n → CountsMore m before after → CountsUpTo n before after
counts_within m n before None l c = tt
counts_within m n None (Some b) l c = absurd c
counts_within m n (Some a) (Some b) l c = omega arith

-- and within two bounds, one after the other
pub counts_up : (m n k : ℕ) (before between after : Option ℕ) → m + n ≤ k → CountsUpTo m before between → CountsUpTo n between after → CountsUpTo k before after
counts_up m n k before between None l p q = tt
counts_up m n k before None (Some c) l p q = absurd q
counts_up m n k None (Some b) (Some c) l p q = absurd p
counts_up m n k (Some a) (Some b) (Some c) l p q = omega arith

-- nothing is within each bound
pub counts_same : (n : ℕ) (count : Option ℕ) → CountsUpTo n count count
counts_same n None = tt
counts_same n (Some c) = omega arith

-- objects that are kept twice
pub kept_on : (a b c : Seen) → KeepsObjects a b → KeepsObjects b c → KeepsObjects a c
kept_on a b c p q = record { told = λ object. q.told object ∙ p.told object; counts = λ object. q.counts object ∙ p.counts object }

-- other objects that are kept twice
pub others_on : (object : ℕ) (a b c : Seen) → KeepsOthers object a b → KeepsOthers object b c → KeepsOthers object a c
others_on object a b c p q = record { told = λ other e. q.told other e ∙ p.told other e; counts = λ other e. q.counts other e ∙ p.counts other e }

-- reading nothing, reading twice, and reading within a larger bound
pub reads_none : (n : ℕ) (a : Seen) → OnlyReads n a a
reads_none n a = record { kept = record { told = λ object. refl; counts = λ object. refl }; reads = counts_same n a.reads; writes = refl; later = omega arith }

pub reads_on : (m n k : ℕ) (a b c : Seen) → m + n ≤ k → OnlyReads m a b → OnlyReads n b c → OnlyReads k a c
reads_on m n k a b c l p q = record {
  kept = kept_on a b c p.kept q.kept;
  reads = counts_up m n k a.reads b.reads c.reads l p.reads q.reads;
  writes = q.writes ∙ p.writes;
  later = omega (arith, p.later, q.later);
}

-- a page within those that n pieces need begins before the last of them
pub begins_before : (per n p end : ℕ) → 0 < per → end ≡ n / per + min 1 (n % per) → p < end → per * p < n
begins_before per n p end some is h =
    let up : per * (p + 1) ≤ per * end = mul-le-mul_left per (omega arith) in
    let same : per * end ≡ (n / per + min 1 (n % per)) * per = mul_comm per end ∙ ap (λ (k : ℕ). k * per) is in
    omega (arith, (div_ceil_times n per some).1, same)

-- the pages that n pieces need hold them
pub ends_behind : (per n end : ℕ) → 0 < per → end ≡ n / per + min 1 (n % per) → n ≤ per * end
ends_behind per n end some is =
    let same : per * end ≡ (n / per + min 1 (n % per)) * per = mul_comm per end ∙ ap (λ (k : ℕ). k * per) is in
    omega (arith, (div_ceil_times n per some).0, same)

-- a page from that of a piece on ends behind it
pub piece_before : (per n p : ℕ) → 0 < per → n / per ≤ p → n < per * p + per
piece_before per n p some h = let up : per * (n / per) ≤ per * p = mul-le-mul_left per h in omega arith

-- the page of a place isn't behind those that more pieces need
pub page_within : (per n more end : ℕ) → 0 < per → end ≡ (n + more) / per + min 1 ((n + more) % per) → n / per ≤ end
page_within per n more end some is = elim (cases_lt end (n / per)) [
  | inl less ↦ (
      let up : per * (end + 1) ≤ per * (n / per) = mul-le-mul_left per (omega arith) in
      let held : n + more ≤ per * end = ends_behind per (n + more) end some is in
      absurd (omega arith))
  | inr there ↦ there
]

-- one more page was counted
pub counted_next : (p from : ℕ) (a b c : Option ℕ) → from ≤ p → CountsMore (p - from) a b → CountsMore 1 b c → CountsMore (p + 1 - from) a c
counted_next p from a b c l m n = let e : p - from + 1 ≡ p + 1 - from = omega arith in rw e at (counts_on (p - from) 1 a b c m n)

-- a cause of the sink's own, where the object is told now only if it was before
pub own_cause : (object : ℕ) (a b c : Seen) (fault : PageFault) → (b.told object ≡ None → a.told object ≡ None) → a.faults ≤ b.faults → HasCause object b c fault → HasCause object a c fault
own_cause object a b c (Failed x y) dark l h = rose_since _ _ _ _ _ l h
own_cause object a b c (BadPage named page) dark l h = (h.0, dark h.1)
own_cause object a b c NoMemory dark l h = tt

-- where an object is made anew, it is told only if it was before
pub anew_dark : (told told' : Option Pages) → told' ≡ option_map (λ (pages : Pages). []) told → told' ≡ None → told ≡ None
anew_dark None told' is none = refl
anew_dark (Some pages) told' is none = absurd (cc)

-- nothing was counted, and then so many
pub counted_behind : (n : ℕ) (a b c : Option ℕ) → CountsMore 0 a b → CountsMore n b c → CountsMore n a c
counted_behind n a b c p q = rw zero-add at (counts_on 0 n a b c p q)
