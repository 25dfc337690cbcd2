-- What contracts see of a source of pages, and what each of its calls does.
use Rattle.std.specs.Prelude.{◌≡◌, ◌≢◌, ◌≤◌, ℕ, ◌+◌, List, [], ◌∷◌, ◌++◌, Option, Some, None, Result, slice_get, slice_set, IfSome, IfErr, OnOk, OnErr, ⊤}
use Rattle.std.specs.Option.{option_map}
use Rattle.iq_outside.specs.Faults.{RoseWithin}
use Rattle.iq_pages.specs.declared.page_faults.PageFault.{PageFault}
use Rattle.iq_pages.specs.declared.page_faults.PageFault.TheVariants.{Failed, BadPage, NoMemory}

-- an object is the list of its pages, and a page the list of its bytes
abbrev pub Pages : Type 0
Pages = List (List ℕ)

-- how many pages each object has; the pages of each object, how many were read and written, and how often the store failed, the
-- first three of these where they are told
pub record Seen : Type 0 where
  pub counts : ℕ → ℕ
  pub told : ℕ → Option Pages
  pub reads : Option ℕ
  pub writes : Option ℕ
  pub faults : ℕ

-- what is seen of a value, by the five meanings of its type
abbrev pub seen : {S : Type 0} → (S → ℕ → ℕ) → (S → ℕ → Option Pages) → (S → Option ℕ) → (S → Option ℕ) → (S → ℕ) → S → Seen
seen counts told reads writes faults s =
    record { counts = counts s; told = told s; reads = reads s; writes = writes s; faults = faults s }

-- so many more were counted, where that is told now; what isn't told is not told again
abbrev pub CountsMore : ℕ → Option ℕ → Option ℕ → Type 0
CountsMore n before None = ⊤
CountsMore n None (Some now) = ⊥
CountsMore n (Some before) (Some now) = now ≡ before + n

-- why a call on an object may fail: the store failed, or the pages of the object, which the fault names, aren't told
abbrev pub HasCause : ℕ → Seen → Seen → PageFault → Type 0
HasCause object before after (Failed x y) = RoseWithin before.faults x y after.faults
HasCause object before after (BadPage named page) = (named ≡ object) × (before.told object ≡ None)
HasCause object before after NoMemory = ⊤

-- a fault of a page names that page
abbrev pub NamesPage : ℕ → PageFault → Type 0
NamesPage n (Failed x y) = ⊤
NamesPage n (BadPage object page) = page ≡ n
NamesPage n NoMemory = ⊤

-- the object has this page at this place, where its pages are told
abbrev pub IsPageOf : Option Pages → ℕ → List ℕ → Type 0
IsPageOf told n page = IfSome told (λ pages. slice_get pages n ≡ Some page)

-- every object has the pages that it had
pub record KeepsObjects (before after : Seen) : Type 0 where
  pub told : (object : ℕ) → after.told object ≡ before.told object
  pub counts : (object : ℕ) → after.counts object ≡ before.counts object

-- one object has other pages, so many of them, and every other object those that it had
pub record ChangesObject (object : ℕ) (change : Pages → Pages) (count : ℕ) (before after : Seen) : Type 0 where
  pub told_here : after.told object ≡ option_map change (before.told object)
  pub count_here : after.counts object ≡ count
  pub told_others : (other : ℕ) → other ≢ object → after.told other ≡ before.told other
  pub counts_others : (other : ℕ) → other ≢ object → after.counts other ≡ before.counts other

-- a call that changes one object and writes so many pages: at Ok it is changed, at Err every object is as before and no page is
-- counted as written
pub record Writes (object : ℕ) (change : Pages → Pages) (count pages : ℕ) (result : Result (Unit {0}) PageFault) (before after : Seen) : Type 0 where
  pub done : OnOk result (ChangesObject object change count before after)
  pub kept : OnErr result (KeepsObjects before after)
  pub reads : after.reads ≡ before.reads
  pub writes : OnOk result (CountsMore pages before.writes after.writes)
  pub unwritten : OnErr result (after.writes ≡ before.writes)
  pub later : before.faults ≤ after.faults
  pub cause : IfErr result (HasCause object before after)

-- a read of page n of an object into a buffer: at Ok the buffer is the page; one more read is counted; no object changes
pub record ReadsPage (object n : ℕ) (into : List ℕ) (result : Result (Unit {0}) PageFault) (before after : Seen) : Type 0 where
  pub done : OnOk result (IsPageOf (before.told object) n into)
  pub kept : KeepsObjects before after
  pub reads : CountsMore 1 before.reads after.reads
  pub writes : after.writes ≡ before.writes
  pub later : before.faults ≤ after.faults
  pub cause : IfErr result (HasCause object before after)
  pub names : IfErr result (NamesPage n)

-- page n of an object is written anew
abbrev pub SetsPage : ℕ → ℕ → List ℕ → Result (Unit {0}) PageFault → Seen → Seen → Type 0
SetsPage object n page result before after =
    Writes object (λ (pages : Pages). slice_set pages n page) (before.counts object) 1 result before after × IfErr result (NamesPage n)

-- a page is put at the end of an object
abbrev pub PushesPage : ℕ → List ℕ → Result (Unit {0}) PageFault → Seen → Seen → Type 0
PushesPage object page result before after =
    Writes object (λ (pages : Pages). pages ++ page ∷ []) (before.counts object + 1) 1 result before after

-- an object is made, or made anew, without pages
abbrev pub MakesObject : ℕ → Result (Unit {0}) PageFault → Seen → Seen → Type 0
MakesObject object result before after = Writes object (λ (pages : Pages). []) 0 0 result before after
