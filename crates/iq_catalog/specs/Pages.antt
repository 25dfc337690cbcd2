-- The pages of a descriptor. The first begins with three addresses of 4 bytes, which are 0 here: the blocks of the other pages are
-- written into them where the pages are stored. Behind them stands the text, which goes on in the other pages, and then zeros, as
-- few as fill a page.
use Rattle.std.specs.Prelude.{◌≡◌, ℕ, ◌+◌, ◌-◌, ◌*◌, ◌/◌, List, [], ◌∷◌, ◌++◌, length, replicate}
use Rattle.iq_base.specs.declared.descriptors.Descriptor.{Descriptor}
use Rattle.iq_catalog.specs.Texts.{descriptor_text}

-- zeros
unfoldable pub zeros : ℕ → List ℕ
zeros n = replicate n 0

-- how many pages of 1,008 bytes hold so many bytes
abbrev pub page_count : ℕ → ℕ
page_count n = (n + 1007) / 1008

-- bytes, and zeros up to the end of their last page
unfoldable pub filled : List ℕ → List ℕ
filled bytes = bytes ++ zeros (1008 * page_count (length bytes) - length bytes)

-- the bytes of a descriptor's pages, one page behind the other
unfoldable pub descriptor_bytes : Descriptor → List ℕ
descriptor_bytes t = filled (zeros 12 ++ descriptor_text t)

-- pages, one behind the other
abbrev pub joined : List (List ℕ) → List ℕ
joined [] = []
joined (page ∷ pages) = page ++ joined pages

-- these are the pages of a descriptor: each has 1,008 bytes by its type
abbrev pub HasPages : Descriptor → List (List ℕ) → Type 0
HasPages t pages = joined pages ≡ descriptor_bytes t
