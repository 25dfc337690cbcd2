-- More rows behind those of an object.
use Rattle.std.proofs.Common.{◌≡◌, ◌<◌, ◌≤◌, ℕ, zero, suc, ◌+◌, ◌-◌, ◌*◌, ◌/◌, ◌%◌, inl, inr, Bool, true, false, List, [], ◌++◌, append_assoc, append-nil, Option, length, get_or, replicate, refl, sym, ap, ◌∙◌, arith}
use Rattle.std.proofs.lemmas.Bool.{cases_lt}
use Rattle.std.proofs.lemmas.List.{ext_get_or, length-append, length-replicate, get_or_append_left, get_or-append-add, get_or-replicate, get_or_past}
use Rattle.std.proofs.lemmas.Option.{get_or_from_slice_get}
use Rattle.iq_pages.specs.Pages.{Pages, IsPageOf}
use Rattle.iq_bitmap.specs.Bits.{page_bits, chunk_of}
use Rattle.iq_bitmap.proofs.Chunks.{length-page_bits, length-chunk_of, get_or-chunk_of}
use Rattle.iq_pieces.specs.Objects.{page_at, put_page, SavesPage}
use Rattle.iq_pieces.proofs.PutPage.{put_here, put_before, put_length}
use Rattle.iq_chunks.specs.Chunks.{chunks_for, chunks_changed, HoldsBits, AppendsOnes, SetsRows}
use Rattle.iq_chunks.proofs.PageRows.{page_bits-zeros}

-- bits with ones behind them
abbrev pub with_ones : List Bool → ℕ → List Bool
with_ones bits n = bits ++ replicate n true

old_bit : (bits : List Bool) (n i : ℕ) → i < length bits → get_or (with_ones bits n) i false ≡ get_or bits i false
old_bit bits n i h = get_or_append_left bits (replicate n true) false i h

new_bit : (bits : List Bool) (n i : ℕ) → length bits ≤ i → i < length bits + n → get_or (with_ones bits n) i false ≡ true
new_bit bits n i from h =
    let place : length bits + (i - length bits) ≡ i = omega arith in
    ap (λ (k : ℕ). get_or (with_ones bits n) k false) (sym place) ∙ get_or-append-add bits (replicate n true) (i - length bits) false
    ∙ get_or-replicate n (i - length bits) true false (omega arith)

past_bit : (bits : List Bool) (n i : ℕ) → length bits + n ≤ i → get_or (with_ones bits n) i false ≡ false
past_bit bits n i h = get_or_past (with_ones bits n) i false (omega (arith, length-append bits (replicate n true), length-replicate n true))

-- a chunk that is full stays
chunk_before : (bits : List Bool) (n chunk : ℕ) → chunk * 8064 + 8064 ≤ length bits → chunk_of chunk (with_ones bits n) ≡ chunk_of chunk bits
chunk_before bits n chunk full =
    ext_get_or false (chunk_of chunk (with_ones bits n)) (chunk_of chunk bits) (length-chunk_of chunk (with_ones bits n) ∙ sym (length-chunk_of chunk bits))
    (λ i h. let less : i < 8064 = omega (arith, length-chunk_of chunk (with_ones bits n)) in
    get_or-chunk_of chunk (with_ones bits n) i less ∙ old_bit bits n (chunk * 8064 + i) (omega arith) ∙ sym (get_or-chunk_of chunk bits i less))

-- the chunk that is filled on has the bits of its page, whose rows were set
chunk_filled : (bits : List Bool) (p first to : ℕ) (loaded page : List ℕ) → length bits ≡ p * 8064 + first → first ≤ to → to ≤ 8064 → page_bits loaded ≡ chunk_of p bits → SetsRows first to (page_bits loaded) (page_bits page) → page_bits page ≡ chunk_of p (with_ones bits (to - first))
chunk_filled bits p first to loaded page long order fits begins sets =
    let n = to - first in
    ext_get_or false (page_bits page) (chunk_of p (with_ones bits n)) (length-page_bits page ∙ sym (length-chunk_of p (with_ones bits n)))
    (λ i h. let less : i < 8064 = omega (arith, length-page_bits page) in
    let was : get_or (page_bits loaded) i false ≡ get_or bits (p * 8064 + i) false = ap (λ (bs : List Bool). get_or bs i false) begins ∙ get_or-chunk_of p bits i less in
    elim (cases_lt i first) [
      | inl early ↦ sets.others i (inl early) ∙ was ∙ sym (get_or-chunk_of p (with_ones bits n) i less ∙ old_bit bits n (p * 8064 + i) (omega arith))
      | inr from ↦ elim (cases_lt i to) [
        | inl inside ↦ sets.within i from inside ∙ sym (get_or-chunk_of p (with_ones bits n) i less ∙ new_bit bits n (p * 8064 + i) (omega arith) (omega arith))
        | inr past ↦ sets.others i (inr past) ∙ was ∙ get_or_past bits (p * 8064 + i) false (omega arith)
            ∙ sym (get_or-chunk_of p (with_ones bits n) i less ∙ past_bit bits n (p * 8064 + i) (omega arith))
      ]
    ])

-- a page of zeros has the bits of a chunk past the rows
pub begins_empty : (bits : List Bool) (p : ℕ) → length bits ≡ p * 8064 → page_bits (replicate 1008 0) ≡ chunk_of p bits
begins_empty bits p long =
    ext_get_or false (page_bits (replicate 1008 0)) (chunk_of p bits) (length-page_bits (replicate 1008 0) ∙ sym (length-chunk_of p bits))
    (λ i h. let less : i < 8064 = omega (arith, length-page_bits (replicate 1008 0)) in
    ap (λ (bs : List Bool). get_or bs i false) page_bits-zeros ∙ get_or-replicate 8064 i false false less
    ∙ sym (get_or-chunk_of p bits i less ∙ get_or_past bits (p * 8064 + i) false (omega arith)))

-- whatever so many bits the object holds, the page begins as their last chunk
abbrev pub BeginsChunk : ℕ → Option Pages → List ℕ → Type 0
BeginsChunk from told page = (bits : List Bool) → length bits ≡ from → HoldsBits told bits → page_bits page ≡ chunk_of (from / 8064) bits

pub begins_full : (from : ℕ) (told : Option Pages) (page : List ℕ) → from % 8064 ≡ 0 → page ≡ replicate 1008 0 → BeginsChunk from told page
begins_full from told page full is = λ bits e h. ap page_bits is ∙ begins_empty bits (from / 8064) (omega arith)

pub begins_read : (from : ℕ) (told : Option Pages) (page : List ℕ) → ¬ (from % 8064 ≡ 0) → IsPageOf told (from / 8064) page → BeginsChunk from told page
begins_read from told page some of = λ bits e h.
    let here : page_at (from / 8064) h.pages ≡ page = get_or_from_slice_get h.pages (from / 8064) page [] (rw h.told_is at of) in
    let within : from / 8064 < chunks_for (length bits) = omega arith in
    ap page_bits (sym here) ∙ (h.held (from / 8064) within).bits_are

-- a chunk's page, filled on and saved
pub extends : (from to : ℕ) (told told' : Option Pages) (loaded page : List ℕ) → from < to → to ≤ from / 8064 * 8064 + 8064 → BeginsChunk from told loaded → SetsRows (from % 8064) (to - from / 8064 * 8064) (page_bits loaded) (page_bits page) → SavesPage (from / 8064) page told told' → AppendsOnes from (to - from) told told'
extends from to told told' loaded page some fits begins sets saves = λ bits e h.
    let p = from / 8064 in
    let first = from % 8064 in
    let n = to - from in
    let count : length h.pages ≡ chunks_for from = h.count ∙ ap chunks_for e in
    let reached : p ≤ length h.pages = omega arith in
    let amount : to - p * 8064 - first ≡ n = omega arith in
    let long : length (with_ones bits n) ≡ to = length-append bits (replicate n true) ∙ (omega (arith, length-replicate n true)) in
    let raw = chunk_filled bits p first (to - p * 8064) loaded page (omega arith) (omega arith) (omega arith) (begins bits e h) sets in
    let filled : page_bits page ≡ chunk_of p (with_ones bits n) = raw ∙ ap (λ (k : ℕ). chunk_of p (with_ones bits k)) amount in
    let size : length (put_page p page h.pages) ≡ p + 1 = put_length h.pages p page reached ∙ (omega arith) in
    let need : chunks_for (length (with_ones bits n)) ≡ p + 1 = ap chunks_for long ∙ (omega arith) in
    record {
      pages = put_page p page h.pages;
      told_is = saves h.pages h.told_is;
      count = size ∙ sym need;
      held = λ chunk less. elim (cases_lt chunk p) [
        | inl before ↦ record {
          there = omega arith;
          bits_are = ap page_bits (put_before h.pages p chunk page reached before) ∙ (h.held chunk (omega arith)).bits_are
              ∙ sym (chunk_before bits n chunk (omega arith));
        }
        | inr on ↦ (
            let same : chunk ≡ p = omega arith in
            record {
              there = omega arith;
              bits_are = ap (λ (k : ℕ). page_bits (page_at k (put_page p page h.pages))) same ∙ ap page_bits (put_here h.pages p page reached) ∙ filled
                  ∙ ap (λ (k : ℕ). chunk_of k (with_ones bits n)) (sym same);
            })
      ];
    }

-- nothing comes behind
pub appends_none : (len : ℕ) (told : Option Pages) → AppendsOnes len 0 told told
appends_none len told = λ bits e h. rw (append-nil) h

ones_on : (m n : ℕ) → replicate m true ++ replicate n true ≡ replicate (m + n) true
ones_on m n =
    ext_get_or false (replicate m true ++ replicate n true) (replicate (m + n) true)
    (length-append (replicate m true) (replicate n true) ∙ (omega (arith, length-replicate m true, length-replicate n true, length-replicate (m + n) true)))
    (λ i h. let within : i < m + n = omega (arith, length-append (replicate m true) (replicate n true), length-replicate m true, length-replicate n true) in
    let all : get_or (replicate (m + n) true) i false ≡ true = get_or-replicate (m + n) i true false within in
    elim (cases_lt i m) [
      | inl low ↦ old_bit (replicate m true) n i (omega (arith, length-replicate m true)) ∙ get_or-replicate m i true false low ∙ sym all
      | inr high ↦ new_bit (replicate m true) n i (omega (arith, length-replicate m true)) (omega (arith, length-replicate m true)) ∙ sym all
    ])

-- rows behind rows
pub appends_on : (len m n k j : ℕ) (a b c : Option Pages) → j ≡ len + m → k ≡ m + n → AppendsOnes len m a b → AppendsOnes j n b c → AppendsOnes len k a c
appends_on len m n k j a b c ej ek p q = λ bits e h.
    let mid = p bits e h in
    let long : length (with_ones bits m) ≡ j = length-append bits (replicate m true) ∙ (omega (arith, length-replicate m true)) in
    let whole = q (with_ones bits m) long mid in
    let same : with_ones (with_ones bits m) n ≡ with_ones bits k = append_assoc bits (replicate m true) (replicate n true) ∙ ap (λ (xs : List Bool). bits ++ xs) (ones_on m n ∙ ap (λ (i : ℕ). replicate i true) (sym ek)) in
    rw same at whole

-- where rows come behind, the chunks change from that of the first to that of the last
pub changed_some : (len more : ℕ) → 0 < more → chunks_changed len more ≡ chunks_for (len + more) - len / 8064
changed_some len zero h = absurd (omega arith)
changed_some len (suc more) h = refl
