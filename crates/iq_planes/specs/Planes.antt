-- Objects whose pages hold planes of rows: page chunk * k + j has the bits of the chunk's rows in plane j of k.
use Rattle.std.specs.Prelude.{◌≡◌, ◌<◌, ◌≤◌, ℕ, zero, suc, ◌+◌, ◌-◌, ◌*◌, ◌/◌, ◌%◌, ◌⊎◌, Bool, false, List, [], ◌++◌, Option, Some, None, length, slice_index_or, ⊤}
use Rattle.std.specs.Simd.Lanes.{zip2}
use Rattle.iq_outside.specs.Faults.{RoseWithin}
use Rattle.iq_pages.specs.declared.page_faults.PageFault.{PageFault}
use Rattle.iq_pages.specs.declared.page_faults.PageFault.TheVariants.{Failed, BadPage, NoMemory}
use Rattle.iq_pages.specs.Pages.{Pages, Seen}
use Rattle.iq_bitmap.specs.Bits.{page_bits, chunk_of}
use Rattle.iq_pieces.specs.Objects.{page_at}
use Rattle.iq_chunks.specs.Chunks.{chunks_for}

-- a plane of a list, or none past its end
abbrev pub plane_at : ℕ → List (List Bool) → List Bool
plane_at j planes = slice_index_or planes j []

-- so many planes, each with a bit for each of so many rows
pub record ArePlanes (k len : ℕ) (planes : List (List Bool)) : Type 0 where
  pub count : length planes ≡ k
  pub long : (j : ℕ) → j < k → length (plane_at j planes) ≡ len

-- the bits of page n of such an object
abbrev pub bits_at : ℕ → List (List Bool) → ℕ → List Bool
bits_at k planes n = chunk_of (n / k) (plane_at (n % k) planes)

-- the pages of an object are told, and each has the bits of its chunk and plane; there is no page more
pub record HoldsPlanes (told : Option Pages) (k len : ℕ) (planes : List (List Bool)) : Type 0 where
  pub pages : Pages
  pub told_is : told ≡ Some pages
  pub are : ArePlanes k len planes
  pub count : length pages ≡ k * chunks_for len
  pub held : (n : ℕ) → n < k * chunks_for len → page_bits (page_at n pages) ≡ bits_at k planes n

-- whatever so many planes of so many rows the object holds, these are the bits of one of them
abbrev pub GivesPlane : Option Pages → ℕ → ℕ → ℕ → List Bool → Type 0
GivesPlane told k len j got = (planes : List (List Bool)) → HoldsPlanes told k len planes → got ≡ plane_at j planes

-- planes with more rows behind
abbrev pub grown : List (List Bool) → List (List Bool) → List (List Bool)
grown planes more = zip2 (λ (bits : List Bool) (ones : List Bool). bits ++ ones) planes more

-- whatever planes of so many rows the object holds, it holds them with more rows behind
abbrev pub AppendsRows : ℕ → ℕ → ℕ → List (List Bool) → Option Pages → Option Pages → Type 0
AppendsRows k len n more before after =
    (planes : List (List Bool)) → HoldsPlanes before k len planes → HoldsPlanes after k (len + n) (grown planes more)

-- how many pages change where more rows come behind so many: all planes, from the chunk of the first of them to that of the last
abbrev pub planes_changed : ℕ → ℕ → ℕ → ℕ
planes_changed k len zero = 0
planes_changed k len (suc n) = k * chunks_for (len + suc n) - k * (len / 8064)

-- an object that isn't told, or has no such page though so many rows of so many planes need it
abbrev pub LacksPage : Option Pages → ℕ → ℕ → ℕ → Type 0
LacksPage None k len page = ⊤
LacksPage (Some pages) k len page = (length pages ≤ page) × (page < k * chunks_for len)

-- why planes aren't read or changed: the store failed, or the object, which the fault names, lacks the page
abbrev pub HasPlanesCause : ℕ → ℕ → ℕ → Seen → Seen → PageFault → Type 0
HasPlanesCause object k len before after (Failed x y) = RoseWithin before.faults x y after.faults
HasPlanesCause object k len before after (BadPage named page) = (named ≡ object) × LacksPage (before.told object) k len page
HasPlanesCause object k len before after NoMemory = ⊤

-- the rows of a page from one on up to another have bits of others, from a row of these on, and each other is as before
pub record PutsRows (from to first : ℕ) (more old new : List Bool) : Type 0 where
  pub within : (i : ℕ) → from ≤ i → i < to → slice_index_or new i false ≡ slice_index_or more (first + (i - from)) false
  pub others : (i : ℕ) → (i < from) ⊎ (to ≤ i) → slice_index_or new i false ≡ slice_index_or old i false
