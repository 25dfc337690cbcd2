-- Objects whose pages hold pieces of one width, one behind the other, and what reading and appending give.
use Rattle.std.specs.Prelude.{◌≡◌, ◌<◌, ◌≤◌, ℕ, ◌+◌, ◌*◌, ◌/◌, ◌%◌, List, [], ◌∷◌, ◌++◌, take, drop, map, Option, Some, length, slice_index_or}
use Rattle.std.specs.List.{range_with_len}
use Rattle.iq_pages.specs.Pages.{Pages}
use Rattle.iq_cells.specs.Pieces.{piece_in}
use Rattle.iq_pieces.specs.Counts.{per_page}

-- a piece of a list, or none past its end
abbrev pub piece_at : ℕ → List (List ℕ) → List ℕ
piece_at i pieces = slice_index_or pieces i []

-- a page of a list, or none past its end
abbrev pub page_at : ℕ → Pages → List ℕ
page_at p pages = slice_index_or pages p []

-- the first n pieces of a page
unfoldable pub pieces_in : ℕ → List ℕ → ℕ → List (List ℕ)
pieces_in w page n = map (piece_in w page) (range_with_len 0 n)

-- piece i of page p is piece per_page * p + i of the list, as far as the list goes
abbrev pub HoldsInOrder : ℕ → Pages → List (List ℕ) → Type 0
HoldsInOrder w pages pieces = (p i : ℕ) → i < per_page w → per_page w * p + i < length pieces → piece_in w (page_at p pages) i ≡ piece_at (per_page w * p + i) pieces

-- the pages hold the pieces in order, and no page begins behind the last piece
pub record Holds (w : ℕ) (pages : Pages) (pieces : List (List ℕ)) : Type 0 where
  pub enough : length pieces ≤ per_page w * length pages
  pub no_more : per_page w * length pages < length pieces + per_page w
  pub held : HoldsInOrder w pages pieces

-- the pages of an object are told, and hold the pieces in order
pub record HoldsObject (told : Option Pages) (w : ℕ) (pieces : List (List ℕ)) : Type 0 where
  pub pages : Pages
  pub told_is : told ≡ Some pages
  pub holds : Holds w pages pieces

-- where the pages of an object are told, the pieces are its first ones
abbrev pub AreFirst : Option Pages → ℕ → List (List ℕ) → Type 0
AreFirst told w pieces = (pages : Pages) → told ≡ Some pages → HoldsInOrder w pages pieces

-- the page begins with those of so many pieces that stand on the last page, where they don't fill it
abbrev pub BeginsAs : ℕ → ℕ → List ℕ → List (List ℕ) → Type 0
BeginsAs w count page pieces = (j : ℕ) → j < count % per_page w → piece_in w page j ≡ piece_at (per_page w * (count / per_page w) + j) pieces

-- whatever so many pieces the object holds, the page begins so
abbrev pub LoadsLast : ℕ → ℕ → Option Pages → List ℕ → Type 0
LoadsLast w count told page = (pieces : List (List ℕ)) → length pieces ≡ count → HoldsObject told w pieces → BeginsAs w count page pieces

-- whatever so many pieces the object holds, it holds more behind them afterwards, where a page that begins as its last one takes
-- the place of that
abbrev pub AppendsBehind : ℕ → ℕ → List ℕ → List (List ℕ) → Option Pages → Option Pages → Type 0
AppendsBehind w count last more before after = (pieces : List (List ℕ)) → length pieces ≡ count → BeginsAs w count last pieces → HoldsObject before w pieces → HoldsObject after w (pieces ++ more)

-- where the pages of an object are told, it holds these pieces and nothing else afterwards
abbrev pub HoldsAnew : ℕ → List (List ℕ) → Option Pages → Option Pages → Type 0
HoldsAnew w pieces before after = (pages : Pages) → before ≡ Some pages → HoldsObject after w pieces

-- a list of pages with one of them, or the one behind them, written
abbrev pub put_page : ℕ → List ℕ → Pages → Pages
put_page n page pages = take n pages ++ page ∷ drop (n + 1) pages

-- where the object's pages are told, page n is written
abbrev pub SavesPage : ℕ → List ℕ → Option Pages → Option Pages → Type 0
SavesPage n page before after = (pages : Pages) → before ≡ Some pages → after ≡ Some (put_page n page pages)

-- whatever pieces fill p pages and the first places of one more, which begins as this page does, the object holds more behind them afterwards
abbrev pub AddsPage : ℕ → ℕ → ℕ → List ℕ → List (List ℕ) → Option Pages → Option Pages → Type 0
AddsPage w p first page more before after = (pieces : List (List ℕ)) → length pieces ≡ per_page w * p + first → ((j : ℕ) → j < first → piece_in w page j ≡ piece_at (per_page w * p + j) pieces) → HoldsObject before w pieces → HoldsObject after w (pieces ++ more)
