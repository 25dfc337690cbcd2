-- What is seen of a source of pages, at a bound `S: PageSource`.
use Rattle.iq_pages.specs.declared.pages.PageSource.{Ghosts}
use Rattle.iq_pages.specs.Pages.{Seen, seen}

-- what is seen of a source
abbrev pub view : {S : Type 0} → Ghosts S → S → Seen
view g = seen g.counts g.told g.reads g.writes g.faults
