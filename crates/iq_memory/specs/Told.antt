-- The pages of tables in memory, each table's under its own numbers of objects.
use Rattle.std.specs.Prelude.{◌≡◌, ◌≢◌, ◌/◌, ℕ, List, Option, Some, None, ◌%◌, length}
use Rattle.std.specs.List.{slice_get}
use Rattle.iq_pages.specs.Pages.{Pages}
use Rattle.iq_pages.specs.MemoryView.{memory_pages}
use Rattle.iq_memory.specs.declared.sure_pages.SurePages.{SurePages}

-- ONE TABLE'S

abbrev pub pages_of : SurePages → ℕ → Pages
pages_of pages object = memory_pages pages.memory object

-- each object has the pages that it had
abbrev pub AreKept : SurePages → SurePages → Type 0
AreKept old new = (object : ℕ) → pages_of new object ≡ pages_of old object

-- one object has these pages, and each other those that it had
pub record AreChanged (object : ℕ) (pages : Pages) (old new : SurePages) : Type 0 where
  pub here : pages_of new object ≡ pages
  pub others : (other : ℕ) → other ≢ object → pages_of new other ≡ pages_of old other

-- ALL TABLES'

abbrev pub told_of : Option SurePages → ℕ → Option Pages
told_of None k = None
told_of (Some pages) k = Some (pages_of pages k)

abbrev pub count_of : Option SurePages → ℕ → ℕ
count_of None k = 0
count_of (Some pages) k = length (pages_of pages k)

-- the pages of an object: of the table at a place, the objects have 256 numbers
abbrev pub told_in : List SurePages → ℕ → Option Pages
told_in tables object = told_of (slice_get tables (object / 256)) (object % 256)

abbrev pub count_in : List SurePages → ℕ → ℕ
count_in tables object = count_of (slice_get tables (object / 256)) (object % 256)
