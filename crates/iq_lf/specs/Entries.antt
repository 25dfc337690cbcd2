-- Entries of an index: numbers of 4 bytes in pages, each 0 or 1 and the page of a bitmap.
use Rattle.std.specs.Prelude.{◌≡◌, ◌≢◌, ◌<◌, ℕ, zero, suc, ◌+◌, ◌/◌, ◌%◌, min, Bool, List, Option, Some, length}
use Rattle.iq_pages.specs.Pages.{Pages}
use Rattle.iq_cells.specs.Codes.{code_in}
use Rattle.iq_bitmap.specs.Bits.{page_bits, HasNoneFrom}
use Rattle.iq_pieces.specs.Objects.{page_at}

-- entry k of the pages: number k mod 252 of page k div 252
unfoldable pub entry_in : Pages → ℕ → ℕ
entry_in pages k = code_in 4 (page_at (k / 252) pages) (k % 252)

-- no row is set
abbrev pub HasNone : List Bool → Type 0
HasNone bits = HasNoneFrom bits 0

-- a page of bitmaps has these bits, one of which is set
pub record IsBitmap (pages : Pages) (p : ℕ) (bits : List Bool) : Type 0 where
  pub there : p < length pages
  pub bits_are : page_bits (page_at p pages) ≡ bits
  pub some : ¬ (HasNone bits)

-- an entry is 0 where no bit is due to it, else 1 and the page that has the bits
abbrev pub Names : Pages → List Bool → ℕ → Type 0
Names pages bits zero = HasNone bits
Names pages bits (suc p) = IsBitmap pages p bits

-- how many of the first n entries aren't 0
abbrev pub count_named : (ℕ → ℕ) → ℕ → ℕ
count_named entry zero = 0
count_named entry (suc n) = count_named entry n + min 1 (entry n)

-- the object of bitmaps is told, and has a page for each of the first entries, so many, that has bits due to it: no two entries name
-- one page, and there is no page more
pub record HoldsBitmaps (told : Option Pages) (count : ℕ) (numbers : Pages) (due : ℕ → List Bool) : Type 0 where
  pub pages : Pages
  pub told_is : told ≡ Some pages
  pub named : (k : ℕ) → k < count → Names pages (due k) (entry_in numbers k)
  pub apart : (j k : ℕ) → j < k → k < count → entry_in numbers j ≢ 0 → entry_in numbers j ≢ entry_in numbers k
  pub no_more : length pages ≡ count_named (entry_in numbers) count
