-- What the calls on a column give, and why they fail.
use Rattle.std.specs.Prelude.{◌≡◌, ◌≢◌, ◌<◌, ◌≤◌, ℕ, ◌+◌, ◌-◌, ◌*◌, ◌^◌, max, List, ◌++◌, ◌⊎◌, Option, Some, None, length, nat_eq, if◌then◌else◌, IsSome, ⊤}
use Rattle.iq_pieces.specs.Codes.{AreBelow}
use Rattle.iq_base.specs.declared.values.Value.{Value}
use Rattle.iq_base.specs.Cells.{width}
use Rattle.iq_outside.specs.Faults.{RoseWithin}
use Rattle.iq_pages.specs.declared.page_faults.PageFault.{PageFault}
use Rattle.iq_pages.specs.declared.page_faults.PageFault.TheVariants.{Failed, BadPage, NoMemory}
use Rattle.iq_pages.specs.Pages.{Pages, Seen}
use Rattle.iq_base.specs.declared.sizes.TheConstants.{MOST_PAGES}
use Rattle.iq_cells.specs.Packed.{value_at}
use Rattle.iq_pieces.specs.Counts.{per_page, pages_for, pages_changed}
use Rattle.iq_pieces.specs.Faults.{CellsOf, CodesBelow, HasSoundPage}
use Rattle.iq_numbering.specs.Numbers.{AreDistinct}
use Rattle.iq_fp.specs.declared.fp.Fp.{Fp}
use Rattle.iq_fp.specs.Forms.{code_width}
use Rattle.iq_fp.specs.Stands.{Stands}

-- the value of a row, whatever values the column stands for
abbrev pub IsValueOf : Fp → (ℕ → Option Pages) → ℕ → Value → Type 0
IsValueOf fp told row value = (values : List Value) → Stands fp told values → value ≡ value_at row values

-- the distinct values, whatever values the column stands for
abbrev pub AreKnown : Fp → (ℕ → Option Pages) → List Value → Type 0
AreKnown fp told known = (values : List Value) (stands : Stands fp told values) → known ≡ stands.known

-- the codes, whatever values the column stands for
abbrev pub AreCodesOf : Fp → (ℕ → Option Pages) → List ℕ → Type 0
AreCodesOf fp told codes = (values : List Value) (stands : Stands fp told values) → codes ≡ stands.codes

-- all values, whatever they are
abbrev pub AreValuesOf : Fp → (ℕ → Option Pages) → List Value → Type 0
AreValuesOf fp told got = (values : List Value) → Stands fp told values → got ≡ values

-- whatever values the column stands for, it stands for more afterwards
abbrev pub StandsForMore : Fp → Fp → List Value → (ℕ → Option Pages) → (ℕ → Option Pages) → Type 0
StandsForMore old new more before after = (values : List Value) → Stands old before values → Stands new after (values ++ more)

-- the page that the fault names is one that the codes need, and isn't there or has bytes that are no codes below the number of
-- distinct values
abbrev pub HasBadCodes : Fp → (ℕ → Option Pages) → ℕ → ℕ → Type 0
HasBadCodes fp told named page =
    (named ≡ fp.codes) × (page < pages_for (code_width fp.distinct) fp.slots)
    × ¬ (HasSoundPage (CodesBelow (code_width fp.distinct) fp.distinct) fp.slots (told fp.codes) page)

-- it is one that the distinct values need, and isn't there or has bytes that are no cells of the kind
abbrev pub HasBadValues : Fp → (ℕ → Option Pages) → ℕ → ℕ → Type 0
HasBadValues fp told named page =
    (named ≡ fp.values) × (page < pages_for (width fp.kind) fp.distinct)
    × ¬ (HasSoundPage (CellsOf fp.kind) fp.distinct (told fp.values) page)

-- why a column isn't read: the store failed; or the page that the fault names isn't a sound one of codes or of values
abbrev pub HasReadCause : Fp → Seen → Seen → PageFault → Type 0
HasReadCause fp before after (Failed x y) = RoseWithin before.faults x y after.faults
HasReadCause fp before after (BadPage named page) = HasBadCodes fp before.told named page ⊎ HasBadValues fp before.told named page
HasReadCause fp before after NoMemory = ⊤

-- how many pages have all codes and all distinct values
abbrev pub all_pages : Fp → ℕ
all_pages fp = pages_for (width fp.kind) fp.distinct + pages_for (code_width fp.distinct) fp.slots

-- a place at which a value stands that stands before it too, or none where no value stands twice
abbrev pub IsRepeat : List Value → Option ℕ → Type 0
IsRepeat vs None = AreDistinct vs
IsRepeat vs (Some place) = (place < length vs) × ¬ (AreDistinct vs)

-- the told pages stand for no values
abbrev pub StandsForNone : Fp → (ℕ → Option Pages) → Type 0
StandsForNone fp told = (values : List Value) → ¬ (Stands fp told values)

-- the object is one of the column's two, and its pages aren't told
abbrev pub IsUntold : Fp → (ℕ → Option Pages) → ℕ → Type 0
IsUntold fp told named = ((named ≡ fp.codes) ⊎ (named ≡ fp.values)) × (told named ≡ None)

-- the page is one that the distinct values need, and these repeat one or are more than the rows, so that the pages stand for no values
abbrev pub IsRepeated : Fp → (ℕ → Option Pages) → ℕ → ℕ → Type 0
IsRepeated fp told named page = (named ≡ fp.values) × (page < pages_for (width fp.kind) fp.distinct) × StandsForNone fp told

-- why an append of a column isn't planned: as the column isn't read, or the page that the fault names is one of distinct values that
-- stand for nothing
abbrev pub HasPlanCause : Fp → Seen → Seen → PageFault → Type 0
HasPlanCause fp before after (Failed x y) = RoseWithin before.faults x y after.faults
HasPlanCause fp before after (BadPage named page) = HasReadCause fp before after (BadPage named page) ⊎ IsRepeated fp before.told named page
HasPlanCause fp before after NoMemory = ⊤

-- why a planned append isn't written: the store failed, or one of the column's objects, which the fault names, isn't told
abbrev pub HasSinkCause : Fp → Seen → Seen → PageFault → Type 0
HasSinkCause fp before after (Failed x y) = RoseWithin before.faults x y after.faults
HasSinkCause fp before after (BadPage named page) = IsUntold fp before.told named
HasSinkCause fp before after NoMemory = ⊤

-- why a column isn't appended to: as the append isn't planned, or as it isn't written
abbrev pub HasAppendCause : Fp → Seen → Seen → PageFault → Type 0
HasAppendCause fp before after (Failed x y) = RoseWithin before.faults x y after.faults
HasAppendCause fp before after (BadPage named page) =
    HasPlanCause fp before after (BadPage named page) ⊎ HasSinkCause fp before after (BadPage named page)
HasAppendCause fp before after NoMemory = ⊤

-- the pages of both objects of a column are told
pub record AreTold (fp : Fp) (told : ℕ → Option Pages) : Type 0 where
  pub codes : IsSome (told fp.codes)
  pub values : IsSome (told fp.values)

-- what changed of a column: its two objects, and every other object has the pages that it had
pub record KeepsOtherObjects (fp : Fp) (before after : Seen) : Type 0 where
  pub told : (other : ℕ) → other ≢ fp.codes → other ≢ fp.values → after.told other ≡ before.told other
  pub counts : (other : ℕ) → other ≢ fp.codes → other ≢ fp.values → after.counts other ≡ before.counts other

-- how many pages of codes an append writes: those that change, or all of them where their form changes
abbrev pub codes_written : Fp → Fp → ℕ
codes_written old new = if nat_eq (code_width old.distinct) (code_width new.distinct) then pages_changed (code_width old.distinct) old.slots (new.slots - old.slots) else pages_changed (code_width new.distinct) 0 new.slots

-- how many pages an append writes: those of values that change, and those of codes
abbrev pub pages_written : Fp → Fp → ℕ
pages_written old new = pages_changed (width old.kind) old.distinct (new.distinct - old.distinct) + codes_written old new

-- how many an append of so many rows writes at most: as many as where each row has a value of its own that wasn't there before
abbrev pub most_written : Fp → ℕ → ℕ
most_written old more = pages_written old (record old { slots = old.slots + more; distinct = old.distinct + more })

-- how many it reads at most: all of values, and the last of codes, or all where their form changes
abbrev pub pages_read : Fp → ℕ
pages_read old = pages_for (width old.kind) old.distinct + max 1 (pages_for (code_width old.distinct) old.slots)

-- the objects and the kind of a column stay
pub record SameObjects (old new : Fp) : Type 0 where
  pub codes : new.codes ≡ old.codes
  pub values : new.values ≡ old.values
  pub kind : new.kind ≡ old.kind

-- a column with so many more rows, of which at most so many have values that weren't there before
pub record IsLonger (old new : Fp) (more : ℕ) : Type 0 where
  pub slots : new.slots ≡ old.slots + more
  pub distinct : old.distinct ≤ new.distinct
  pub most : new.distinct ≤ old.distinct + more

-- a column with more distinct values, and more rows, whose codes go behind its own where they stay in their form; else they are the
-- codes of all rows
pub record IsGrown (old new : Fp) (codes : List ℕ) : Type 0 where
  pub objects : SameObjects old new
  pub apart : old.codes ≢ old.values
  pub distinct : old.distinct ≤ new.distinct
  pub behind : code_width new.distinct ≡ code_width old.distinct → new.slots ≡ old.slots + length codes
  pub anew : code_width new.distinct ≢ code_width old.distinct → new.slots ≡ length codes
  pub below : AreBelow codes new.distinct
  pub few : new.distinct ≤ 256 ^ 3
  pub rows : new.slots ≤ 256 ^ 3
  pub room : new.distinct ≤ per_page (width old.kind) * MOST_PAGES

-- all codes, whatever values the column stands for, and more behind them
abbrev pub GoOn : Fp → (ℕ → Option Pages) → List ℕ → List ℕ → Type 0
GoOn fp told more all = (values : List Value) (stands : Stands fp told values) → all ≡ stands.codes ++ more
