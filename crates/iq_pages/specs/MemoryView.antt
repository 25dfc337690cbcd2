-- What contracts see of pages in memory.
use Rattle.std.specs.Prelude.{ℕ, Option, Some, length}
use Rattle.iq_pages.specs.declared.memory_pages.MemoryPages.{MemoryPages}
use Rattle.iq_outside.specs.Calls.{Plan}
use Rattle.iq_pages.specs.Pages.{Pages, Seen}
use Rattle.iq_pages.specs.MemoryPages.{pages_in, told_count}

-- the pages of each object
abbrev pub memory_pages : MemoryPages → ℕ → Pages
memory_pages memory object = pages_in memory.objects.items object

-- which calls fail
abbrev pub memory_plan : MemoryPages → Plan
memory_plan memory = memory.calls

-- how many pages were read, as long as that is told
abbrev pub memory_reads : MemoryPages → Option ℕ
memory_reads memory = told_count memory.reads

-- how many pages were written, as long as that is told
abbrev pub memory_writes : MemoryPages → Option ℕ
memory_writes memory = told_count memory.writes

-- all that is seen of them as a source
abbrev pub memory_seen : MemoryPages → Seen
memory_seen memory = record {
  counts = λ object. length (memory_pages memory object);
  told = λ object. Some (memory_pages memory object);
  reads = memory_reads memory;
  writes = memory_writes memory;
  faults = (memory_plan memory).faults;
}
