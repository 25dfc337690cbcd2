-- Codes in a page: numbers of one width in bytes, the lowest byte first.
use Rattle.std.specs.Prelude.{ℕ, ◌/◌, List, map}
use Rattle.std.specs.List.{range_with_len}
use Rattle.byteorder.specs.Endian.{little_number}
use Rattle.iq_base.specs.declared.sizes.TheConstants.{PAGE_BYTES}
use Rattle.iq_cells.specs.Pieces.{piece_in}

-- how many codes of w bytes a page has
abbrev pub codes_per_page : ℕ → ℕ
codes_per_page w = PAGE_BYTES / w

-- code i of a page
abbrev pub code_in : ℕ → List ℕ → ℕ → ℕ
code_in w page i = little_number w (piece_in w page i)

-- the first n codes of a page
unfoldable pub codes_in : ℕ → List ℕ → ℕ → List ℕ
codes_in w page n = map (code_in w page) (range_with_len 0 n)
