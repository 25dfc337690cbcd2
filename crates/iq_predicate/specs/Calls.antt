-- What a test reads, and why rows aren't found.
use Rattle.std.specs.Prelude.{◌<◌, ◌⊎◌, ⊤, ℕ, ◌+◌, List, length}
use Rattle.iq_base.specs.declared.schemas.Column.{Column}
use Rattle.iq_base.specs.declared.descriptors.Descriptor.{Descriptor}
use Rattle.iq_ast.specs.declared.conditions.Test.{Test}
use Rattle.iq_ast.specs.declared.conditions.Test.TheVariants as tests
use Rattle.iq_outside.specs.Faults.{RoseWithin}
use Rattle.iq_pages.specs.declared.page_faults.PageFault.{PageFault}
use Rattle.iq_pages.specs.declared.page_faults.PageFault.TheVariants as pages
use Rattle.iq_pages.specs.Pages.{Seen}
use Rattle.iq_chunks.specs.Chunks.{HasBitsCause}
use Rattle.iq_fp.specs.Calls.{HasReadCause, all_pages}
use Rattle.iq_table.specs.declared.table.Table.{Table}
use Rattle.iq_table.specs.Places.{existence_of, fp_at}
use Rattle.iq_predicate.specs.Found.{fp_named}

-- how many pages of columns a test reads: those of the one that it names, or of both
abbrev pub pages_tested : Table → List Column → Test → ℕ
pages_tested table columns (tests.Compare column op value) = all_pages (fp_named table columns column)
pages_tested table columns (tests.Columns left op right) = all_pages (fp_named table columns left) + all_pages (fp_named table columns right)
pages_tested table columns (tests.Between column negated low high) = all_pages (fp_named table columns column)
pages_tested table columns (tests.OneOf column negated values) = all_pages (fp_named table columns column)
pages_tested table columns (tests.Null column negated) = all_pages (fp_named table columns column)

-- why a table isn't read: the store failed, or the page that the fault names isn't sound, of existence or of a column
abbrev pub IsBadPageOf : ℕ → Descriptor → Seen → Seen → ℕ → ℕ → Type 0
IsBadPageOf place d before after object page =
    HasBitsCause (existence_of place) d.slots before after (pages.BadPage object page)
    ⊎ ((c : ℕ) × (c < length d.columns) × HasReadCause (fp_at place d c) before after (pages.BadPage object page))

abbrev pub HasTableCause : ℕ → Descriptor → Seen → Seen → PageFault → Type 0
HasTableCause place d before after (pages.Failed x y) = RoseWithin before.faults x y after.faults
HasTableCause place d before after (pages.BadPage object page) = IsBadPageOf place d before after object page
HasTableCause place d before after pages.NoMemory = ⊤
