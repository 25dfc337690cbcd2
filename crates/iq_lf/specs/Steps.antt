-- How an index grows: an entry, a bitmap, a chunk of rows at a time.
use Rattle.std.specs.Prelude.{◌≡◌, ◌≢◌, ◌<◌, ◌≤◌, ℕ, zero, suc, ◌+◌, ◌*◌, ◌/◌, Bool, true, false, List, ◌++◌, Option, Some, length, map, replicate, nat_eq, if◌then◌else◌, slice_index_or, slice_set, ⊤}
use Rattle.iq_outside.specs.Faults.{RoseWithin}
use Rattle.iq_pages.specs.declared.page_faults.PageFault.{PageFault}
use Rattle.iq_pages.specs.declared.page_faults.PageFault.TheVariants.{Failed, BadPage, NoMemory}
use Rattle.iq_pages.specs.Pages.{Pages, Seen}
use Rattle.iq_bitmap.specs.Bits.{page_bits, chunk_of, either}
use Rattle.iq_pieces.specs.Objects.{page_at, SavesPage}
use Rattle.iq_base.specs.declared.values.Value.{Value}
use Rattle.iq_pieces.specs.Faults.{HasPage}
use Rattle.iq_lf.specs.declared.lf.Lf.{Lf}
use Rattle.iq_lf.specs.declared.lf.TheConstants.{MOST_CHUNKS, MOST_DISTINCT}
use Rattle.iq_lf.specs.Entries.{entry_in, HoldsBitmaps}
use Rattle.iq_lf.specs.Stands.{Stands, due, entries_in}

-- one entry is a number, and each other is as before
pub record SetsEntry (k number : ℕ) (old new : Pages) : Type 0 where
  pub long : length new ≡ length old
  pub here : entry_in new k ≡ number
  pub others : (j : ℕ) → j ≢ k → entry_in new j ≡ entry_in old j

-- each page that isn't marked as changed is one of those before, as it was
abbrev pub KeepsUnchanged : Pages → Pages → List Bool → Type 0
KeepsUnchanged before pages changed =
    (p : ℕ) → p < length pages → slice_index_or changed p true ≡ false → (p < length before) × (page_at p pages ≡ page_at p before)

-- a page is written where it changed, else nothing is
abbrev pub SavesWhere : Bool → ℕ → List ℕ → Option Pages → Option Pages → Type 0
SavesWhere true n page before after = SavesPage n page before after
SavesWhere false n page before after = after ≡ before

-- where the object has pages that the unchanged ones are, it has all of these pages afterwards
abbrev pub SavesTable : Pages → List Bool → Option Pages → Option Pages → Type 0
SavesTable pages changed before after =
    (first : Pages) → before ≡ Some first → length first ≤ length pages → KeepsUnchanged first pages changed → after ≡ Some pages

-- why pages aren't written: the store failed, or the object, which the fault names, doesn't have the unchanged ones
abbrev pub HasSaveCause : ℕ → Pages → List Bool → Seen → Seen → PageFault → Type 0
HasSaveCause object pages changed before after (Failed x y) = RoseWithin before.faults x y after.faults
HasSaveCause object pages changed before after (BadPage named page) =
    (named ≡ object) × ((first : Pages) → before.told object ≡ Some first → length first ≤ length pages → ¬ (KeepsUnchanged first pages changed))
HasSaveCause object pages changed before after NoMemory = ⊤

-- why a page isn't written: the store failed, or the object, which the fault names, lacks a page before it
abbrev pub HasShortCause : ℕ → ℕ → Seen → Seen → PageFault → Type 0
HasShortCause object n before after (Failed x y) = RoseWithin before.faults x y after.faults
HasShortCause object n before after (BadPage named page) = (named ≡ object) × ((pages : Pages) → before.told object ≡ Some pages → length pages < n)
HasShortCause object n before after NoMemory = ⊤

-- the needed pages are those of the entries, whatever values the index stands for
abbrev pub AreNeeded : Lf → (ℕ → Option Pages) → List Bool → Pages → Type 0
AreNeeded lf told needed pages =
    (values : List Value) (stands : Stands lf told values) (p : ℕ) → slice_index_or needed p false ≡ true → page_at p pages ≡ page_at p stands.numbers

-- the pages of the entries of each hit are needed
abbrev pub CoversHits : List Bool → List Bool → Type 0
CoversHits hits needed =
    (v chunk : ℕ) → slice_index_or hits (v + 1) false ≡ true → chunk < MOST_CHUNKS → slice_index_or needed ((MOST_CHUNKS * v + chunk) / 252) false ≡ true

-- bits are due to one entry beside its own
abbrev pub with_rows : ℕ → List Bool → (ℕ → List Bool) → ℕ → List Bool
with_rows k rows bits j = if nat_eq j k then either (bits k) rows else bits j

-- whatever bits are due to the entries, one has others beside its own afterwards
abbrev pub AddsRows : ℕ → List Bool → Option Pages → Option Pages → Pages → Pages → Type 0
AddsRows k rows before after numbers numbers' =
    (count : ℕ) (bits : ℕ → List Bool) → k < count → count ≤ MOST_CHUNKS * MOST_DISTINCT → length (bits k) ≡ 8064
    → HoldsBitmaps before count numbers bits → HoldsBitmaps after count numbers' (with_rows k rows bits)

-- so many entries hold no bits, whatever these are
abbrev pub HoldNothing : Option Pages → Pages → ℕ → Type 0
HoldNothing told numbers k =
    (count : ℕ) (bits : ℕ → List Bool) → k < count → count ≤ MOST_CHUNKS * MOST_DISTINCT → ¬ (HoldsBitmaps told count numbers bits)

-- why a bitmap isn't written: the store failed, or the object, which the fault names, doesn't hold what the entries say
abbrev pub HasMergeCause : ℕ → Pages → ℕ → Seen → Seen → PageFault → Type 0
HasMergeCause object numbers k before after (Failed x y) = RoseWithin before.faults x y after.faults
HasMergeCause object numbers k before after (BadPage named page) = (named ≡ object) × HoldNothing (before.told object) numbers k
HasMergeCause object numbers k before after NoMemory = ⊤

-- whatever codes the rows have, so many rows, they have more behind them afterwards
abbrev pub AddsCodes : ℕ → ℕ → List ℕ → Option Pages → Option Pages → Pages → Pages → Type 0
AddsCodes count slots more before after numbers numbers' =
    (codes : List ℕ) → length codes ≡ slots → HoldsBitmaps before count numbers (due codes) → HoldsBitmaps after count numbers' (due (codes ++ more))

-- rows with any codes, so many rows, aren't what the entries say
abbrev pub HoldNoCodes : ℕ → ℕ → Option Pages → Pages → Type 0
HoldNoCodes count slots told numbers =
    (codes : List ℕ) → length codes ≡ slots → ¬ (HoldsBitmaps told count numbers (due codes))

-- why rows aren't put behind others: the store failed, or the object, which the fault names, doesn't hold what the entries say
abbrev pub HasRowsCause : ℕ → ℕ → ℕ → Pages → Seen → Seen → PageFault → Type 0
HasRowsCause object count slots numbers before after (Failed x y) = RoseWithin before.faults x y after.faults
HasRowsCause object count slots numbers before after (BadPage named page) = (named ≡ object) × HoldNoCodes count slots (before.told object) numbers
HasRowsCause object count slots numbers before after NoMemory = ⊤

-- whatever values the index stands for, these are its entries, with those of more distinct values, which are 0
pub record AreEntries (lf : Lf) (count : ℕ) (told : ℕ → Option Pages) (numbers : Pages) : Type 0 where
  pub old : (values : List Value) (stands : Stands lf told values) (k : ℕ) → k < entries_in lf → entry_in numbers k ≡ entry_in stands.numbers k
  pub new : (k : ℕ) → entries_in lf ≤ k → k < count → entry_in numbers k ≡ 0

-- whatever values the index stands for, each page that isn't marked as changed is one of its entries' pages
abbrev pub KeepsEntries : Lf → (ℕ → Option Pages) → Pages → List Bool → Type 0
KeepsEntries lf told pages changed = (values : List Value) (stands : Stands lf told values) → KeepsUnchanged stands.numbers pages changed

-- pages, with marks of which changed, have others behind them, up to so many: new pages without an entry, which changed
pub record Lengthens (count : ℕ) (old : Pages) (changed : List Bool) (new : Pages) (changed' : List Bool) : Type 0 where
  pub more : ℕ
  pub count_is : length old + more ≡ count
  pub pages_are : new ≡ old ++ replicate more (replicate 1008 0)
  pub changed_are : changed' ≡ changed ++ replicate more true

-- the entries from one on up to another are 0, and each other is as before
pub record ClearsEntries (from to : ℕ) (old new : Pages) : Type 0 where
  pub long : length new ≡ length old
  pub within : (k : ℕ) → from ≤ k → k < to → entry_in new k ≡ 0
  pub before : (k : ℕ) → k < from → entry_in new k ≡ entry_in old k

-- the object's page has other rows beside its own
abbrev pub Widens : ℕ → List Bool → Option Pages → Option Pages → Type 0
Widens n rows before after =
    (pages : Pages) → before ≡ Some pages → (page : List ℕ) × (after ≡ Some (slice_set pages n page)) × (page_bits page ≡ either (page_bits (page_at n pages)) rows)

-- WHAT IS FOUND

-- rows have those of a page beside their own
abbrev pub AddsBitmap : ℕ → Option Pages → List Bool → List Bool → Type 0
AddsBitmap n told old new = (pages : Pages) → told ≡ Some pages → new ≡ either old (page_bits (page_at n pages))

-- rows have those of the bitmap that an entry names beside their own; an entry that is 0 names none
abbrev pub AddsEntry : ℕ → Option Pages → List Bool → List Bool → Type 0
AddsEntry zero told old new = new ≡ old
AddsEntry (suc n) told old new = AddsBitmap n told old new

-- why the bitmap that an entry names isn't read: the store failed, or the object, which the fault names, isn't told or has no such page
abbrev pub HasEntryCause : ℕ → ℕ → Seen → Seen → PageFault → Type 0
HasEntryCause object named before after (Failed x y) = RoseWithin before.faults x y after.faults
HasEntryCause object named before after (BadPage object' page) = (object' ≡ object) × (named ≡ page + 1) × ¬ (HasPage (before.told object) page)
HasEntryCause object named before after NoMemory = ⊤

-- the entries of the hits are those of the index, whatever values it stands for
abbrev pub AreHitEntries : Lf → (ℕ → Option Pages) → List Bool → Pages → Type 0
AreHitEntries lf told hits pages =
    (values : List Value) (stands : Stands lf told values) (v chunk : ℕ) → v < lf.distinct → chunk < MOST_CHUNKS → slice_index_or hits (v + 1) false ≡ true
    → entry_in pages (MOST_CHUNKS * v + chunk) ≡ entry_in stands.numbers (MOST_CHUNKS * v + chunk)

-- whatever values the index stands for, the page has those rows of a chunk whose code is set among the hits
abbrev pub IsMarkedChunk : Lf → (ℕ → Option Pages) → List Bool → ℕ → List ℕ → Type 0
IsMarkedChunk lf told hits chunk page =
    (values : List Value) (stands : Stands lf told values) → page_bits page ≡ chunk_of chunk (map (λ code. slice_index_or hits code false) stands.codes)

-- AN APPEND

-- what was numbered and what is to be written go together: the index grows by so many values, of which these weren't there
pub record IsGrownBy (old new : Lf) (fresh : ℕ) (more : ℕ) : Type 0 where
  pub first : new.first ≡ old.first
  pub second : new.second ≡ old.second
  pub third : new.third ≡ old.third
  pub kind : new.kind ≡ old.kind
  pub slots : new.slots ≡ old.slots + more
  pub distinct : new.distinct ≡ old.distinct + fresh
