-- Bits of keys in a plane, a page of them after the other.
use Rattle.std.proofs.Common.{arith, ◌≡◌, ◌<◌, ℕ, ◌+◌, ◌-◌, ◌*◌, Bool, false, List, length, get_or, ap, ◌∙◌, inl, inr}
use Rattle.std.proofs.lemmas.Bool.{cases_lt}
use Rattle.iq_bitmap.specs.Bits.{bit_of, page_bits, with_chunk}
use Rattle.iq_bitmap.proofs.Chunks.{length-page_bits, get_or-page_bits, get_or-with_chunk_in, get_or-with_chunk_out}

-- one chunk more of a plane
pub chunk_more : (f : ℕ → Bool) (chunk : ℕ) (rows : List Bool) (page : List ℕ) → ((i : ℕ) → i < 8064 → bit_of 8 page i ≡ f (chunk * 8064 + i))
    → ((i : ℕ) → i < chunk * 8064 → i < length rows → get_or rows i false ≡ f i)
    → (i : ℕ) → i < (chunk + 1) * 8064 → i < length rows → get_or (with_chunk chunk rows (page_bits page)) i false ≡ f i
chunk_more f chunk rows page here before i less within = elim (cases_lt i (chunk * 8064)) [
  | inl low ↦ get_or-with_chunk_out chunk rows (page_bits page) i (length-page_bits page) (inl low) ∙ before i low within
  | inr high ↦ get_or-with_chunk_in chunk rows (page_bits page) i (length-page_bits page) high (omega (arith, less)) within
      ∙ get_or-page_bits page (i - chunk * 8064) (omega (arith, less, high)) ∙ here (i - chunk * 8064) (omega (arith, less, high)) ∙ ap f (omega (arith, high))
]
