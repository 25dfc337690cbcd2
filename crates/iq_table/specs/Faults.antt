-- Faults of pages as faults of a table.
use Rattle.iq_pages.specs.declared.page_faults.PageFault.{PageFault}
use Rattle.iq_pages.specs.declared.page_faults.PageFault.TheVariants as pages
use Rattle.iq_table.specs.declared.faults.TableFault.{TableFault}
use Rattle.iq_table.specs.declared.faults.TableFault.TheVariants as faults

-- the same fault
abbrev pub table_fault : PageFault → TableFault
table_fault (pages.Failed x y) = faults.Failed x y
table_fault (pages.BadPage object page) = faults.BadPage object page
table_fault pages.NoMemory = faults.NoMemory
