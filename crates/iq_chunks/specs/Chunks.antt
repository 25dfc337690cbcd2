-- Objects whose pages hold the bits of rows, and what reading and changing them gives.
use Rattle.std.specs.Prelude.{◌≡◌, ◌<◌, ◌≤◌, ℕ, zero, suc, ◌+◌, ◌-◌, ◌/◌, ◌⊎◌, Bool, true, false, List, ◌++◌, Option, Some, None, length, map, replicate, slice_index_or, if◌then◌else◌, ⊤}
use Rattle.std.specs.List.{range_with_len, list_any, sum_by}
use Rattle.std.specs.Int.{div_ceil}
use Rattle.iq_outside.specs.Faults.{RoseWithin}
use Rattle.iq_pages.specs.declared.page_faults.PageFault.{PageFault}
use Rattle.iq_pages.specs.declared.page_faults.PageFault.TheVariants.{Failed, BadPage, NoMemory}
use Rattle.iq_pages.specs.Pages.{Pages, Seen}
use Rattle.iq_bitmap.specs.declared.page_words.TheConstants.{CHUNK_ROWS}
use Rattle.iq_bitmap.specs.Bits.{page_bits, chunk_of, difference}
use Rattle.iq_pieces.specs.Objects.{page_at}

-- how many pages the bits of n rows take
abbrev pub chunks_for : ℕ → ℕ
chunks_for n = div_ceil n CHUNK_ROWS

-- how many of them change where more rows come behind n: from the page of the first of these to that of the last
abbrev pub chunks_changed : ℕ → ℕ → ℕ
chunks_changed n zero = 0
chunks_changed n (suc more) = chunks_for (n + suc more) - n / CHUNK_ROWS

-- page p has the bits of a chunk, zeros past the last row
pub record HoldsChunk (pages : Pages) (p chunk : ℕ) (bits : List Bool) : Type 0 where
  pub there : p < length pages
  pub bits_are : page_bits (page_at p pages) ≡ chunk_of chunk bits

-- the pages of an object are told, and each has the bits of its chunk; there is no page more
pub record HoldsBits (told : Option Pages) (bits : List Bool) : Type 0 where
  pub pages : Pages
  pub told_is : told ≡ Some pages
  pub count : length pages ≡ chunks_for (length bits)
  pub held : (chunk : ℕ) → chunk < chunks_for (length bits) → HoldsChunk pages chunk chunk bits

-- whatever so many bits the object holds, these are they
abbrev pub GivesBits : Option Pages → ℕ → List Bool → Type 0
GivesBits told len got = (bits : List Bool) → length bits ≡ len → HoldsBits told bits → got ≡ bits

-- whatever so many bits the object holds, it holds more behind them afterwards, all set
abbrev pub AppendsOnes : ℕ → ℕ → Option Pages → Option Pages → Type 0
AppendsOnes len more before after = (bits : List Bool) → length bits ≡ len → HoldsBits before bits → HoldsBits after (bits ++ replicate more true)

-- whatever so many bits the object holds, it holds them afterwards without those that were found
abbrev pub ClearsBits : List Bool → Option Pages → Option Pages → Type 0
ClearsBits found before after = (bits : List Bool) → length bits ≡ length found → HoldsBits before bits → HoldsBits after (difference bits found)

-- how many pages of a chunk have a row that was found: the one, or none
abbrev pub hit_in : List Bool → ℕ → ℕ
hit_in found chunk = if list_any (λ on. on) (chunk_of chunk found) then 1 else 0

-- how many pages have one
abbrev pub chunks_hit : List Bool → ℕ
chunks_hit found = sum_by (λ (pages : ℕ). pages) (map (hit_in found) (range_with_len 0 (chunks_for (length found))))

-- the object's page of a chunk has its bits without those that were found, and each other page is as before
pub record ChunkCleared (chunk : ℕ) (found : List Bool) (pages pages' : Pages) : Type 0 where
  pub long : length pages' ≡ length pages
  pub here : page_bits (page_at chunk pages') ≡ difference (page_bits (page_at chunk pages)) (chunk_of chunk found)
  pub others : (p : ℕ) → ¬ (p ≡ chunk) → page_at p pages' ≡ page_at p pages

-- where the object's pages are told and reach so far, one is cleared
abbrev pub ClearsChunk : ℕ → List Bool → Option Pages → Option Pages → Type 0
ClearsChunk chunk found before after = (pages : Pages) → before ≡ Some pages → chunk < length pages → (pages' : Pages) × (after ≡ Some pages') × ChunkCleared chunk found pages pages'

-- the rows from one on up to another are set, and each other is as before
pub record SetsRows (from to : ℕ) (old new : List Bool) : Type 0 where
  pub within : (i : ℕ) → from ≤ i → i < to → slice_index_or new i false ≡ true
  pub others : (i : ℕ) → (i < from) ⊎ (to ≤ i) → slice_index_or new i false ≡ slice_index_or old i false

-- an object that isn't told, or has no such page though so many rows need it
abbrev pub LacksPage : Option Pages → ℕ → ℕ → Type 0
LacksPage None len page = ⊤
LacksPage (Some pages) len page = (length pages ≤ page) × (page < chunks_for len)

-- why the bits of so many rows aren't read or changed: the store failed, or the object, which the fault names, lacks the page
abbrev pub HasBitsCause : ℕ → ℕ → Seen → Seen → PageFault → Type 0
HasBitsCause object len before after (Failed x y) = RoseWithin before.faults x y after.faults
HasBitsCause object len before after (BadPage named page) = (named ≡ object) × LacksPage (before.told object) len page
HasBitsCause object len before after NoMemory = ⊤
