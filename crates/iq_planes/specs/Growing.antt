-- How an object of planes grows, page by page.
use Rattle.std.specs.Prelude.{◌≡◌, ◌<◌, ◌≤◌, ℕ, ◌+◌, max, Bool, List, Option, Some, length}
use Rattle.iq_pages.specs.Pages.{Pages}
use Rattle.iq_bitmap.specs.Bits.{page_bits}
use Rattle.iq_pieces.specs.Objects.{page_at}
use Rattle.iq_planes.specs.Planes.{HoldsPlanes, bits_at, grown}

-- The pages before this one have the bits of the planes with more rows behind, and those from it on are as they were.
pub record GrownTo (k len n at : ℕ) (planes more : List (List Bool)) (before : Pages) (told : Option Pages) : Type 0 where
  pub pages : Pages
  pub told_is : told ≡ Some pages
  pub count : length pages ≡ max at (length before)
  pub new : (p : ℕ) → p < at → page_bits (page_at p pages) ≡ bits_at k (grown planes more) p
  pub old : (p : ℕ) → at ≤ p → p < length before → page_at p pages ≡ page_at p before

-- whatever planes of so many rows the pages held that were there before, where the object has grown up to this page, it has grown past it
abbrev pub SavesNext : ℕ → ℕ → ℕ → ℕ → List (List Bool) → Option Pages → Option Pages → Type 0
SavesNext k len n at more before after =
    (planes : List (List Bool)) (first : Pages) → HoldsPlanes (Some first) k len planes → GrownTo k len n at planes more first before
    → GrownTo k len n (at + 1) planes more first after

-- where the pages of an object were told, they are afterwards, and there are as many or more
abbrev pub Lengthens : Option Pages → Option Pages → Type 0
Lengthens before after = (pages : Pages) → before ≡ Some pages → (longer : Pages) × (after ≡ Some longer) × (length pages ≤ length longer)
