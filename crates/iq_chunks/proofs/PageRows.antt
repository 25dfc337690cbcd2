-- The rows of one page.
use Rattle.std.proofs.Common.{◌≡◌, ◌<◌, ◌≤◌, ℕ, ◌+◌, ◌-◌, ◌*◌, inl, inr, Bool, true, false, List, length, get_or, set, replicate, refl, sym, ap, ◌∙◌, arith}
use Rattle.std.proofs.lemmas.Bool.{cases_lt}
use Rattle.std.proofs.lemmas.List.{ext_get_or, get_or-set_same, get_or-set_other}
use Rattle.iq_bitmap.specs.Bits.{page_bits, chunk_of, with_chunk}
use Rattle.iq_bitmap.proofs.BitLists.{bits_of-zeros}
use Rattle.iq_bitmap.proofs.Chunks.{length-with_chunk, get_or-with_chunk_in, with_chunk-chunk_of, length-chunk_of}
use Rattle.iq_chunks.specs.Chunks.{SetsRows}

-- a bitmap of a chunk's rows into which a page was loaded has the bits of the page
pub loaded_whole : (rows bits : List Bool) → length rows ≡ 8064 → length bits ≡ 8064 → with_chunk 0 rows bits ≡ bits
loaded_whole rows bits long_rows long_bits =
    ext_get_or false (with_chunk 0 rows bits) bits (length-with_chunk 0 rows bits ∙ long_rows ∙ sym long_bits)
    (λ i h. let within : i < length rows = omega (arith, length-with_chunk 0 rows bits) in
    let place : i - 0 * 8064 ≡ i = omega arith in
    get_or-with_chunk_in 0 rows bits i long_bits (omega arith) (omega arith) within ∙ ap (λ (k : ℕ). get_or bits k false) place)

-- and it is its own first chunk
pub chunk_whole : (rows : List Bool) → length rows ≡ 8064 → chunk_of 0 rows ≡ rows
chunk_whole rows long = sym (loaded_whole rows (chunk_of 0 rows) long (length-chunk_of 0 rows)) ∙ with_chunk-chunk_of 0 rows

-- a page of zeros has no row that is set
pub page_bits-zeros : page_bits (replicate 1008 0) ≡ replicate 8064 false
unfolding page_bits
page_bits-zeros = bits_of-zeros 8 1008 8064

-- no row is set yet
pub sets_none : (from : ℕ) (bits : List Bool) → SetsRows from from bits bits
sets_none from bits = record { within = λ i l h. absurd (omega arith); others = λ i out. refl }

-- one row more
pub sets_next : (from row : ℕ) (old bits : List Bool) → from ≤ row → row < length bits → SetsRows from row old bits → SetsRows from (row + 1) old (set bits row true)
sets_next from row old bits order there s = record {
  within = λ i l h. elim (cases_lt i row) [
    | inl less ↦ get_or-set_other bits row i true false (λ e. absurd (omega arith)) ∙ s.within i l less
    | inr on ↦ (let same : i ≡ row = omega arith in rw same (get_or-set_same bits row true false there))
  ];
  others = λ i out. elim out [
    | inl low ↦ get_or-set_other bits row i true false (λ e. absurd (omega arith)) ∙ s.others i (inl low)
    | inr high ↦ get_or-set_other bits row i true false (λ e. absurd (omega arith)) ∙ s.others i (inr (omega arith))
  ];
}
