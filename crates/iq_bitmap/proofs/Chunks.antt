-- Chunks of a bitmap and the pages that hold them.
use Rattle.std.proofs.Common.{ℕ, zero, suc, ◌+◌, ◌-◌, ◌*◌, ◌/◌, ◌%◌, ◌<◌, ◌≤◌, ◌≡◌, ◌==◌, Bool, false, List, [], ◌∷◌, length, get_or, map, refl, sym, ap, ap₂, ◌∙◌, inl, inr, ◌⊎◌, arith}
use Rattle.std.proofs.lemmas.Bool.{cases_lt}
use Rattle.std.proofs.lemmas.List.{ext_get_or}
use Rattle.std.proofs.lemmas.List.FromFn.{length-map-range_with_len, get_or-map-range_with_len}
use Rattle.std.proofs.lemmas.Simd.{get_or-chunk, length-put_chunk, get_or-put_chunk_below, get_or-put_chunk_above}
use Rattle.std.specs.Int.{bit_at}
use Rattle.std.specs.List.{range_with_len}
use Rattle.std.specs.Simd.Lanes.{put_chunk}
use Rattle.iq_bitmap.specs.Bits.{bit_of, bits_of, page_bits, chunk_of, with_chunk}
use Rattle.iq_bitmap.specs.Words.{IsTight, IsLoaded, HoldsPage, word_count}
use Rattle.iq_bitmap.proofs.BitLists.{length-bits_of, get_or-bits_of, same_bits, length_seen, seen_bit}
use Rattle.iq_bitmap.proofs.PageBytes.{byte_of_word}

-- a bit of a word that was loaded from a page is the page's
loaded_bit : (old new : List ℕ) (at : ℕ) (page : List ℕ) (i : ℕ) → IsLoaded old new at page → at * 64 ≤ i → i < at * 64 + 8064 → i / 64 < length new → bit_of 64 new i ≡ bit_of 8 page (i - at * 64)
loaded_bit old new at page i loaded low high within =
    let k = i / 64 in
    let j = i % 64 / 8 in
    let t = i % 8 in
    let place : j * 8 + t ≡ i % 64 = omega arith in
    let byte : (k - at) * 8 + j ≡ (i - at * 64) / 8 = omega arith in
    let bit : t ≡ (i - at * 64) % 8 = omega arith in
    let bytes = loaded.inside k (omega arith) (omega arith) within in
    ap (λ (b : ℕ). bit_at (get_or new k 0) b == 1) (sym place)
    ∙ ap (λ (x : ℕ). x == 1) (sym (byte_of_word (get_or new k 0) j t (omega arith) (omega arith)))
    ∙ ap (λ (bs : List ℕ). bit_at (get_or bs j 0) t == 1) bytes
    ∙ ap (λ (x : ℕ). bit_at x t == 1) (get_or-chunk ((k - at) * 8) 8 page j 0 (omega arith))
    ∙ ap₂ (λ (b c : ℕ). bit_at (get_or page b 0) c == 1) byte bit

-- words of which a page was loaded, and then the bits past the length cleared
pub page_held : (old mid new : List ℕ) (at len : ℕ) (page : List ℕ) → length mid ≡ word_count len → IsLoaded old mid at page → ((i : ℕ) → i < len → bit_of 64 new i ≡ bit_of 64 mid i) → ((i : ℕ) → len ≤ i → bit_of 64 new i ≡ false) → HoldsPage old new (at * 64) len page
page_held old mid new at len page long loaded before past = record {
  inside = λ i low high h. before i h ∙ loaded_bit old mid at page i loaded low high (omega (arith, long));
  before = λ i l h. before i h ∙ ap (λ (w : ℕ). bit_at w (i % 64) == 1) (loaded.before (i / 64) (omega arith));
  after = λ i l h. before i h ∙ ap (λ (w : ℕ). bit_at w (i % 64) == 1) (loaded.after (i / 64) (omega arith));
  past = past;
}

-- an element of a list that was written over from a on
get_or-put_chunk_in : {A : Type 0} (a : ℕ) (xs ys : List A) (i j : ℕ) (d : A) → i ≡ a + j → j < length ys → i < length xs → get_or (put_chunk a xs ys) i d ≡ get_or ys j d
get_or-put_chunk_in a [] ys i j d e h l = absurd (omega (arith, l))
get_or-put_chunk_in zero (x ∷ xs) [] i j d e h l = absurd (omega (arith, h))
get_or-put_chunk_in zero (x ∷ xs) (y ∷ ys) zero zero d e h l = refl
get_or-put_chunk_in zero (x ∷ xs) (y ∷ ys) zero (suc j) d e h l = absurd (omega (arith, e))
get_or-put_chunk_in zero (x ∷ xs) (y ∷ ys) (suc i) zero d e h l = absurd (omega (arith, e))
get_or-put_chunk_in zero (x ∷ xs) (y ∷ ys) (suc i) (suc j) d e h l = get_or-put_chunk_in zero xs ys i j d (omega (arith, e)) (omega (arith, h)) (omega (arith, l))
get_or-put_chunk_in (suc a) (x ∷ xs) ys zero j d e h l = absurd (omega (arith, e))
get_or-put_chunk_in (suc a) (x ∷ xs) ys (suc i) j d e h l = get_or-put_chunk_in a xs ys i j d (omega (arith, e)) h (omega (arith, l))

pub length-page_bits : (page : List ℕ) → length (page_bits page) ≡ 8064
unfolding page_bits
length-page_bits page = length-bits_of 8 page 8064

pub get_or-page_bits : (page : List ℕ) (i : ℕ) → i < 8064 → get_or (page_bits page) i false ≡ bit_of 8 page i
unfolding page_bits
get_or-page_bits page i h = get_or-bits_of 8 page 8064 i false h

-- the bits that a bitmap stands for once a page was loaded
pub bits_loaded : (old new : List ℕ) (rows : List Bool) (n chunk_at : ℕ) (page : List ℕ) → IsTight old n → bits_of 64 old n ≡ rows → HoldsPage old new (chunk_at * 8064) n page → bits_of 64 new n ≡ with_chunk chunk_at rows (page_bits page)
bits_loaded old new rows n chunk_at page t is held =
    let from = chunk_at * 8064 in
    let long : length rows ≡ n = length_seen 64 old n rows is in
    let long_page = length-page_bits page in
    same_bits 64 new n (put_chunk from rows (page_bits page)) (length-put_chunk from rows (page_bits page) ∙ long)
    (λ i h. elim (cases_lt i from) [
      | inl low ↦ held.before i low h ∙ sym (seen_bit old n rows i t is) ∙ sym (get_or-put_chunk_below from rows (page_bits page) i false low)
      | inr on ↦ elim (cases_lt i (from + 8064)) [
        | inl within ↦ held.inside i on within h ∙ sym (get_or-page_bits page (i - from) (omega arith))
            ∙ sym (get_or-put_chunk_in from rows (page_bits page) i (i - from) false (omega arith) (omega arith) (omega arith))
        | inr above ↦ held.after i above h ∙ sym (seen_bit old n rows i t is) ∙ sym (get_or-put_chunk_above from rows (page_bits page) i false (omega arith))
      ]
    ])

-- the bits of a page that a chunk was stored into
pub bits_kept : (words : List ℕ) (rows : List Bool) (n chunk_at : ℕ) (page : List ℕ) → IsTight words n → bits_of 64 words n ≡ rows → ((i : ℕ) → i < 8064 → bit_of 8 page i ≡ bit_of 64 words (chunk_at * 8064 + i)) → page_bits page ≡ chunk_of chunk_at rows
unfolding page_bits chunk_of
bits_kept words rows n chunk_at page t is same =
    same_bits 8 page 8064 (map (λ i. get_or rows (chunk_at * 8064 + i) false) (range_with_len 0 8064)) (length-map-range_with_len (λ i. get_or rows (chunk_at * 8064 + i) false) 0 8064)
    (λ i h. same i h ∙ sym (seen_bit words n rows (chunk_at * 8064 + i) t is)
    ∙ sym (get_or-map-range_with_len (λ i. get_or rows (chunk_at * 8064 + i) false) 0 8064 i i false h (omega arith)))

-- ---- laws for those who load and store chunk after chunk

pub length-chunk_of : (chunk_at : ℕ) (rows : List Bool) → length (chunk_of chunk_at rows) ≡ 8064
unfolding chunk_of
length-chunk_of chunk_at rows = length-map-range_with_len (λ i. get_or rows (chunk_at * 8064 + i) false) 0 8064

pub get_or-chunk_of : (chunk_at : ℕ) (rows : List Bool) (i : ℕ) → i < 8064 → get_or (chunk_of chunk_at rows) i false ≡ get_or rows (chunk_at * 8064 + i) false
unfolding chunk_of
get_or-chunk_of chunk_at rows i h = get_or-map-range_with_len (λ i. get_or rows (chunk_at * 8064 + i) false) 0 8064 i i false h (omega arith)

pub length-with_chunk : (chunk_at : ℕ) (rows bits : List Bool) → length (with_chunk chunk_at rows bits) ≡ length rows
length-with_chunk chunk_at rows bits = length-put_chunk (chunk_at * 8064) rows bits

-- a row of the chunk is the page's
pub get_or-with_chunk_in : (chunk_at : ℕ) (rows bits : List Bool) (i : ℕ) → length bits ≡ 8064 → chunk_at * 8064 ≤ i → i < chunk_at * 8064 + 8064 → i < length rows → get_or (with_chunk chunk_at rows bits) i false ≡ get_or bits (i - chunk_at * 8064) false
get_or-with_chunk_in chunk_at rows bits i long low high within = get_or-put_chunk_in (chunk_at * 8064) rows bits i (i - chunk_at * 8064) false (omega arith) (omega arith) within

-- each other row is as before
pub get_or-with_chunk_out : (chunk_at : ℕ) (rows bits : List Bool) (i : ℕ) → length bits ≡ 8064 → (i < chunk_at * 8064) ⊎ (chunk_at * 8064 + 8064 ≤ i) → get_or (with_chunk chunk_at rows bits) i false ≡ get_or rows i false
get_or-with_chunk_out chunk_at rows bits i long (inl low) = get_or-put_chunk_below (chunk_at * 8064) rows bits i false low
get_or-with_chunk_out chunk_at rows bits i long (inr high) = get_or-put_chunk_above (chunk_at * 8064) rows bits i false (omega arith)

-- what was stored and is loaded again leaves the rows as they are
pub with_chunk-chunk_of : (chunk_at : ℕ) (rows : List Bool) → with_chunk chunk_at rows (chunk_of chunk_at rows) ≡ rows
with_chunk-chunk_of chunk_at rows =
    ext_get_or false (with_chunk chunk_at rows (chunk_of chunk_at rows)) rows (length-with_chunk chunk_at rows (chunk_of chunk_at rows))
    (λ i h. let within : i < length rows = omega (arith, length-with_chunk chunk_at rows (chunk_of chunk_at rows)) in
    elim (cases_lt i (chunk_at * 8064)) [
      | inl low ↦ get_or-with_chunk_out chunk_at rows (chunk_of chunk_at rows) i (length-chunk_of chunk_at rows) (inl low)
      | inr on ↦ elim (cases_lt i (chunk_at * 8064 + 8064)) [
        | inl inside ↦
            let place : chunk_at * 8064 + (i - chunk_at * 8064) ≡ i = omega arith in
            get_or-with_chunk_in chunk_at rows (chunk_of chunk_at rows) i (length-chunk_of chunk_at rows) on inside within
            ∙ get_or-chunk_of chunk_at rows (i - chunk_at * 8064) (omega arith) ∙ ap (λ (k : ℕ). get_or rows k false) place
        | inr above ↦ get_or-with_chunk_out chunk_at rows (chunk_of chunk_at rows) i (length-chunk_of chunk_at rows) (inr above)
      ]
    ])
