-- The numbers of a map are read and written in order.
use Rattle.std.specs.Prelude.{◌≡◌, ℕ, zero, suc, ◌+◌, ◌*◌, ◌<◌, List, length, drop, slice_index}
use Rattle.std.specs.List.{flat_map}
use Rattle.std.proofs.Common.{refl, sym, ap, ◌∙◌, arith}
use Rattle.std.proofs.lemmas.List.{ext_get_or, drop-drop}
use Rattle.byteorder.specs.Endian.{little_number, little_bytes, IsRead}
use Rattle.iq_block_store.specs.Frames.{number_at, bytes_of, numbers_at}
use Rattle.iq_block_map.specs.Maps.{places}

pub length-numbers_at : (block : List ℕ) (i n : ℕ) → length (numbers_at block i n) ≡ n
length-numbers_at block i zero = refl
length-numbers_at block i (suc n) = ap suc (length-numbers_at block (i + 4) n)

pub length-places : (block : List ℕ) → length (places block) ≡ 252
unfolding places
length-places block = length-numbers_at block 16 252

index-numbers_at : (block : List ℕ) (i n k : ℕ) → k < n → slice_index (numbers_at block i n) k ≡ number_at block (i + 4 * k)
index-numbers_at block i zero k within = absurd (omega (arith, within))
index-numbers_at block i (suc n) zero within = ap (number_at block) (omega arith)
index-numbers_at block i (suc n) (suc k) within =
    index-numbers_at block (i + 4) n k (omega (arith, within)) ∙ ap (number_at block) (omega arith)

-- what was read, number by number, are the numbers of the map
pub places_read : (block into : List ℕ) → length into ≡ 252 → IsRead little_number 4 (drop 16 block) into → into ≡ places block
unfolding places number_at
places_read block into size read = ext_get_or 0 into (numbers_at block 16 252) (size ∙ sym (length-numbers_at block 16 252))
    (λ k within.
    read k within
    ∙ ap (little_number 4) (drop-drop (4 * k) 16 block)
    ∙ sym (index-numbers_at block 16 252 k (omega (arith, within, size))))

pub bytes_written : (ps : List ℕ) → flat_map (little_bytes 4) ps ≡ flat_map bytes_of ps
unfolding bytes_of
bytes_written ps = refl
