-- What taking in the pieces of a page gives.
use Rattle.std.specs.Prelude.{◌≡◌, ℕ, List, ◌++◌, Option, Some}
use Rattle.iq_pages.specs.Pages.{Pages}
use Rattle.iq_pieces.specs.Objects.{page_at, pieces_in}

-- n pieces came behind others, whatever the pages are, and where they are told these are the first of page p
pub record TakesPage (told : Option Pages) (w p n : ℕ) (old new : List (List ℕ)) : Type 0 where
  pub page : List ℕ
  pub page_is : (pages : Pages) → told ≡ Some pages → page_at p pages ≡ page
  pub more : new ≡ old ++ pieces_in w page n
