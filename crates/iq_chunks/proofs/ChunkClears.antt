-- Rows of an object that are cleared, chunk by chunk.
use Rattle.std.proofs.Common.{◌≡◌, ◌<◌, ◌≤◌, ℕ, zero, suc, ◌+◌, ◌-◌, ◌*◌, inl, inr, Bool, true, false, ◌&&◌, not, List, [], ◌∷◌, Option, Some, None, length, get_or, slice_set, replicate, refl, sym, ap, ap₂, ◌∙◌, subst, arith}
use Rattle.std.specs.Prelude.{◌⊎◌, map, if◌then◌else◌}
use Rattle.std.specs.List.{range_with_len, list_any, sum_by}
use Rattle.std.specs.Option.{option_map}
use Rattle.std.proofs.lemmas.Bool.{cases_lt}
use Rattle.std.proofs.lemmas.List.{ext_get_or, length-replicate, get_or-replicate, get_or-set_same, get_or-set_other, get_or_past, length-set}
use Rattle.std.proofs.lemmas.List.FromFn.{sum_by-map-range_with_len_more}
use Rattle.std.proofs.lemmas.Simd.{length-zip2, get_or-zip2}
use Rattle.std.proofs.lemmas.Option.{get_or_from_slice_get}
use Rattle.iq_pages.specs.Pages.{Pages, Seen, IsPageOf}
use Rattle.iq_pages.specs.declared.page_faults.PageFault.{PageFault}
use Rattle.iq_pages.specs.declared.page_faults.PageFault.TheVariants.{Failed, BadPage, NoMemory}
use Rattle.iq_pages.proofs.PageLaws.{rose_since}
use Rattle.iq_bitmap.specs.Bits.{page_bits, chunk_of, difference}
use Rattle.iq_bitmap.proofs.Chunks.{length-page_bits, length-chunk_of, get_or-chunk_of}
use Rattle.iq_pieces.specs.Objects.{page_at}
use Rattle.iq_chunks.specs.Chunks.{chunks_for, hit_in, HoldsBits, ClearsBits, ClearsChunk, LacksPage, HasBitsCause}

-- a row of a difference, also past the end
difference_at : (xs ys : List Bool) (i : ℕ) → length xs ≡ length ys → get_or (difference xs ys) i false ≡ (get_or xs i false && not (get_or ys i false))
difference_at xs ys i long = elim (cases_lt i (length xs)) [
  | inl less ↦ get_or-zip2 (λ a b. a && not b) xs ys i false false false less (omega arith)
  | inr past ↦ get_or_past (difference xs ys) i false (omega (arith, length-zip2 (λ a b. a && not b) xs ys long))
      ∙ sym (ap (λ (a : Bool). a && not (get_or ys i false)) (get_or_past xs i false past))
]

-- a chunk of a difference
chunk_of-difference : (k : ℕ) (xs ys : List Bool) → length xs ≡ length ys → chunk_of k (difference xs ys) ≡ difference (chunk_of k xs) (chunk_of k ys)
chunk_of-difference k xs ys long =
    let left : length (chunk_of k xs) ≡ 8064 = length-chunk_of k xs in
    let right : length (chunk_of k ys) ≡ 8064 = length-chunk_of k ys in
    let both : length (difference (chunk_of k xs) (chunk_of k ys)) ≡ 8064 = length-zip2 (λ a b. a && not b) (chunk_of k xs) (chunk_of k ys) (left ∙ sym right) ∙ left in
    ext_get_or false (chunk_of k (difference xs ys)) (difference (chunk_of k xs) (chunk_of k ys)) (length-chunk_of k (difference xs ys) ∙ sym both)
    (λ i h. let less : i < 8064 = omega (arith, length-chunk_of k (difference xs ys)) in
    get_or-chunk_of k (difference xs ys) i less ∙ difference_at xs ys (k * 8064 + i) long
    ∙ ap₂ (λ (a b : Bool). a && not b) (sym (get_or-chunk_of k xs i less)) (sym (get_or-chunk_of k ys i less))
    ∙ sym (difference_at (chunk_of k xs) (chunk_of k ys) i (left ∙ sym right)))

and_true : (a : Bool) → (a && true) ≡ a
and_true true = refl
and_true false = refl

-- without nothing
pub difference_none : (xs : List Bool) (n : ℕ) → length xs ≡ n → difference xs (replicate n false) ≡ xs
difference_none xs n long =
    let same : length xs ≡ length (replicate n false) = long ∙ sym (length-replicate n false) in
    ext_get_or false (difference xs (replicate n false)) xs (length-zip2 (λ a b. a && not b) xs (replicate n false) same)
    (λ i h. let less : i < n = omega (arith, length-zip2 (λ a b. a && not b) xs (replicate n false) same) in
    difference_at xs (replicate n false) i same ∙ ap (λ (b : Bool). get_or xs i false && not b) (get_or-replicate n i false false less) ∙ and_true (get_or xs i false))

-- no row of a list without set rows is set, and only of such a list
any_none : (n : ℕ) → list_any (λ on. on) (replicate n false) ≡ false
any_none zero = refl
any_none (suc n) = any_none n

none_any : (xs : List Bool) → list_any (λ on. on) xs ≡ false → xs ≡ replicate (length xs) false
none_any [] e = refl
none_any (true ∷ xs) e = absurd (cc)
none_any (false ∷ xs) e = ap (λ (ys : List Bool). false ∷ ys) (none_any xs e)

-- so a page is hit exactly where its chunk has a row
pub hit_none : (found : List Bool) (chunk n : ℕ) → chunk_of chunk found ≡ replicate n false → hit_in found chunk ≡ 0
hit_none found chunk n e = ap (λ (b : Bool). if b then 1 else 0) (ap (list_any (λ on. on)) e ∙ any_none n)

bool_cases : (b : Bool) → (b ≡ true) ⊎ (b ≡ false)
bool_cases true = inl refl
bool_cases false = inr refl

pub hit_some : (found gone : List Bool) (chunk : ℕ) → gone ≡ chunk_of chunk found → ¬ (gone ≡ replicate (length gone) false) → hit_in found chunk ≡ 1
hit_some found gone chunk is some = elim (bool_cases (list_any (λ on. on) (chunk_of chunk found))) [
  | inl e ↦ ap (λ (b : Bool). if b then 1 else 0) e
  | inr e ↦ absurd (some (none_any gone (ap (list_any (λ on. on)) is ∙ e)))
]

-- a page that was read, cleared and written
pub clears_page : (told told' : Option Pages) (chunk : ℕ) (found gone : List Bool) (loaded page : List ℕ) → gone ≡ chunk_of chunk found → IsPageOf told chunk loaded → page_bits page ≡ difference (page_bits loaded) gone → told' ≡ option_map (λ (pages : Pages). slice_set pages chunk page) told → ClearsChunk chunk found told told'
clears_page told told' chunk found gone loaded page gone_is of bits is = λ pages e there.
    let here : page_at chunk pages ≡ loaded = get_or_from_slice_get pages chunk loaded [] (rw e at of) in (
      slice_set pages chunk page,
      is ∙ ap (option_map (λ (ps : Pages). slice_set ps chunk page)) e,
      record {
        long = length-set pages chunk page;
        here = ap page_bits (get_or-set_same pages chunk page [] there) ∙ bits ∙ ap₂ (λ (p : List ℕ) (bs : List Bool). difference (page_bits p) bs) (sym here) gone_is;
        others = λ p other. get_or-set_other pages chunk p page [] other;
      },
    )

-- a page that no row of hits stays
pub clears_nothing : (told : Option Pages) (chunk n : ℕ) (found gone : List Bool) → gone ≡ chunk_of chunk found → gone ≡ replicate n false → ClearsChunk chunk found told told
clears_nothing told chunk n found gone gone_is none = λ pages e there.
    let empty : chunk_of chunk found ≡ replicate n false = sym gone_is ∙ none in
    let count : n ≡ 8064 = sym (length-replicate n false) ∙ sym (ap length empty) ∙ length-chunk_of chunk found in (
      pages,
      e,
      record {
        long = refl;
        here = sym (ap (λ (bs : List Bool). difference (page_bits (page_at chunk pages)) bs) empty
            ∙ difference_none (page_bits (page_at chunk pages)) n (length-page_bits (page_at chunk pages) ∙ sym count));
        others = λ p other. refl;
      },
    )

-- the first chunks are cleared, and the others as they were
pub record AreCleared (k : ℕ) (found bits : List Bool) (told : Option Pages) : Type 0 where
  pub pages : Pages
  pub told_is : told ≡ Some pages
  pub count : length pages ≡ chunks_for (length bits)
  pub done : (q : ℕ) → q < k → q < chunks_for (length bits) → page_bits (page_at q pages) ≡ chunk_of q (difference bits found)
  pub rest : (q : ℕ) → k ≤ q → q < chunks_for (length bits) → page_bits (page_at q pages) ≡ chunk_of q bits

abbrev pub ClearsTo : ℕ → List Bool → Option Pages → Option Pages → Type 0
ClearsTo k found before after = (bits : List Bool) → length bits ≡ length found → HoldsBits before bits → AreCleared k found bits after

pub clears_first : (found : List Bool) (told : Option Pages) → ClearsTo 0 found told told
clears_first found told = λ bits e h. record {
  pages = h.pages;
  told_is = h.told_is;
  count = h.count;
  done = λ q l w. absurd (omega arith);
  rest = λ q l w. (h.held q w).bits_are;
}

pub clears_next : (k : ℕ) (found : List Bool) (before between after : Option Pages) → k < chunks_for (length found) → ClearsTo k found before between → ClearsChunk k found between after → ClearsTo (k + 1) found before after
clears_next k found before between after within so_far clears = λ bits e h.
    let a = so_far bits e h in
    let inside : k < chunks_for (length bits) = rw e within in
    let there : k < length a.pages = rw a.count inside in
    let c = clears a.pages a.told_is there in
    record {
      pages = c.0;
      told_is = c.1;
      count = c.2.long ∙ a.count;
      done = λ q l w. elim (cases_lt q k) [
        | inl less ↦ ap page_bits (c.2.others q (λ same. absurd (omega arith))) ∙ a.done q less w
        | inr on ↦ (
            let same : q ≡ k = omega arith in
            ap (λ (j : ℕ). page_bits (page_at j c.0)) same ∙ c.2.here ∙ ap (λ (bs : List Bool). difference bs (chunk_of k found)) (a.rest k (omega arith) inside)
            ∙ sym (chunk_of-difference k bits found e) ∙ ap (λ (j : ℕ). chunk_of j (difference bits found)) (sym same))
      ];
      rest = λ q l w. ap page_bits (c.2.others q (λ same. absurd (omega arith))) ∙ a.rest q (omega arith) w;
    }

pub clears_all : (k : ℕ) (found : List Bool) (before after : Option Pages) → chunks_for (length found) ≤ k → ClearsTo k found before after → ClearsBits found before after
clears_all k found before after all clears = λ bits e h.
    let a = clears bits e h in
    let long : length (difference bits found) ≡ length bits = length-zip2 (λ a b. a && not b) bits found e in
    let same : chunks_for (length (difference bits found)) ≡ chunks_for (length bits) = ap chunks_for long in
    let most : chunks_for (length bits) ≤ k = rw e all in
    record {
      pages = a.pages;
      told_is = a.told_is;
      count = a.count ∙ sym same;
      held = λ chunk w. record {
        there = omega (arith, a.count, same);
        bits_are = a.done chunk (omega (arith, same)) (omega (arith, same));
      };
    }

-- hits of one chunk more
pub hits_next : (found : List Bool) (k : ℕ) → sum_by (λ (pages : ℕ). pages) (map (hit_in found) (range_with_len 0 (k + 1))) ≡ sum_by (λ (pages : ℕ). pages) (map (hit_in found) (range_with_len 0 k)) + hit_in found k
hits_next found k = sum_by-map-range_with_len_more (λ (pages : ℕ). pages) (hit_in found) 0 k k (omega arith)

-- hits of the first chunks are among all
hits_first : List Bool → ℕ → ℕ
hits_first found k = sum_by (λ (pages : ℕ). pages) (map (hit_in found) (range_with_len 0 k))

hits_up : (found : List Bool) (k d : ℕ) → hits_first found k ≤ hits_first found (k + d)
unfolding hits_first
hits_up found k zero = let e : k ≡ k + 0 = omega arith in subst (λ (m : ℕ). hits_first found k ≤ hits_first found m) e (omega arith)
hits_up found k (suc d) =
    let up = hits_up found k d in
    let next : hits_first found (k + d + 1) ≡ hits_first found (k + d) + hit_in found (k + d) = hits_next found (k + d) in
    let e : k + d + 1 ≡ k + suc d = omega arith in
    subst (λ (m : ℕ). hits_first found k ≤ hits_first found m) e (omega (arith, up, next))

pub hits_within : (found : List Bool) (k n : ℕ) → k ≤ n → sum_by (λ (pages : ℕ). pages) (map (hit_in found) (range_with_len 0 k)) ≤ sum_by (λ (pages : ℕ). pages) (map (hit_in found) (range_with_len 0 n))
unfolding hits_first
hits_within found k n h = let whole : k + (n - k) ≡ n = omega arith in subst (λ (m : ℕ). hits_first found k ≤ hits_first found m) whole (hits_up found k (n - k))

-- an object whose pages were written anew, none more and none less, lacks the same pages
lacks_same : (told told' : Option Pages) (len page : ℕ) → option_map length told' ≡ option_map length told → LacksPage told' len page → LacksPage told len page
lacks_same None told' len page e h = tt
lacks_same (Some pages) None len page e h = absurd (cc)
lacks_same (Some pages) (Some pages') len page e h = let same : length pages' ≡ length pages = cc in (omega (arith, h.0), h.1)

pub set_long : (told told' : Option Pages) (n : ℕ) (page : List ℕ) → told' ≡ option_map (λ (pages : Pages). slice_set pages n page) told → option_map length told' ≡ option_map length told
set_long None told' n page e = ap (option_map length) e
set_long (Some pages) told' n page e = ap (option_map length) e ∙ ap Some (length-set pages n page)

-- a cause that comes after other chunks were changed
pub bits_cause_since : (object len : ℕ) (a b c : Seen) (fault : PageFault) → option_map length (b.told object) ≡ option_map length (a.told object) → a.faults ≤ b.faults → HasBitsCause object len b c fault → HasBitsCause object len a c fault
bits_cause_since object len a b c (Failed x y) same later h = rose_since _ _ _ _ _ later h
bits_cause_since object len a b c (BadPage named n) same later h = (h.0, lacks_same (a.told object) (b.told object) len n same h.1)
bits_cause_since object len a b c NoMemory same later h = tt
