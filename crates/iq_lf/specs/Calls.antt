-- What the calls on an index give, and why they fail.
use Rattle.std.specs.Prelude.{◌≡◌, ◌<◌, ℕ, ◌+◌, ◌*◌, Bool, false, List, [], ◌∷◌, ◌++◌, ◌⊎◌, Option, length, map, slice_index_or, ⊤}
use Rattle.iq_outside.specs.Faults.{RoseWithin}
use Rattle.iq_base.specs.declared.values.Value.{Value}
use Rattle.iq_base.specs.declared.values.Value.TheVariants.{Null}
use Rattle.iq_base.specs.Cells.{width, cell}
use Rattle.iq_ast.specs.declared.conditions.Op.TheVariants.{Eq}
use Rattle.iq_ast.specs.declared.conditions.Test.{Test}
use Rattle.iq_truth.specs.declared.truth.Side.{Side}
use Rattle.iq_truth.specs.declared.truth.Side.TheVariants as sides
use Rattle.iq_truth.specs.Sides.{is_on}
use Rattle.iq_truth.specs.Comparisons.{comparison}
use Rattle.iq_pages.specs.declared.page_faults.PageFault.{PageFault}
use Rattle.iq_pages.specs.declared.page_faults.PageFault.TheVariants.{Failed, BadPage, NoMemory}
use Rattle.iq_pages.specs.Pages.{Pages, Seen}
use Rattle.iq_numbering.specs.Numbers.{AreDistinct, IsNumbered}
use Rattle.iq_chunks.specs.Chunks.{chunks_for}
use Rattle.iq_pieces.specs.Counts.{pages_for}
use Rattle.iq_pieces.specs.Objects.{BeginsAs}
use Rattle.iq_fp.specs.Scans.{is_hit}
use Rattle.iq_fp.specs.Stands.{HaveCells}
use Rattle.iq_lf.specs.declared.lf.Lf.{Lf}
use Rattle.iq_lf.specs.declared.lf.LfFault.{LfFault}
use Rattle.iq_lf.specs.declared.lf.LfFault.TheVariants as faults
use Rattle.iq_lf.specs.declared.lf.TheConstants.{MOST_DISTINCT}
use Rattle.iq_lf.specs.Stands.{Stands, entries_in}

-- whatever values the index stands for, these bits are the rows on the side of the test
abbrev pub AreRowsOn : Lf → (ℕ → Option Pages) → Side → Test → List Bool → Type 0
AreRowsOn lf told side test bits = (values : List Value) → Stands lf told values → bits ≡ map (is_hit side test) values

-- whether a value equals another; NULL equals nothing
abbrev pub is_equal : Value → Value → Bool
is_equal value v = is_on sides.True (comparison Eq v value)

-- whatever values the index stands for, these bits are the rows that equal a value
abbrev pub AreEqualTo : Lf → (ℕ → Option Pages) → Value → List Bool → Type 0
AreEqualTo lf told value bits = (values : List Value) → Stands lf told values → bits ≡ map (is_equal value) values

-- whatever values the index stands for, it stands for more afterwards
abbrev pub StandsForMore : Lf → Lf → List Value → (ℕ → Option Pages) → (ℕ → Option Pages) → Type 0
StandsForMore old new more before after = (values : List Value) → Stands old before values → Stands new after (values ++ more)

-- the told pages stand for no values
abbrev pub StandsForNone : Lf → (ℕ → Option Pages) → Type 0
StandsForNone lf told = (values : List Value) → ¬ (Stands lf told values)

-- the values have more distinct ones, NULL left out, than an index takes
pub record HasTooMany (values : List Value) : Type 0 where
  pub known : List Value
  pub codes : List ℕ
  pub numbered : IsNumbered (Null ∷ []) values known codes
  pub many : MOST_DISTINCT < length known

-- the object is one of the index's three
abbrev pub IsPart : Lf → ℕ → Type 0
IsPart lf object = (object ≡ lf.first) ⊎ ((object ≡ lf.second) ⊎ (object ≡ lf.third))

-- why an index isn't read or changed: the store failed; or the page that the fault names is one of its objects, and these stand for
-- no values
abbrev pub HasLfCause : Lf → Seen → Seen → PageFault → Type 0
HasLfCause lf before after (Failed x y) = RoseWithin before.faults x y after.faults
HasLfCause lf before after (BadPage named page) = IsPart lf named × StandsForNone lf before.told
HasLfCause lf before after NoMemory = ⊤

-- why an index isn't appended to: as it isn't changed; or whatever values it stands for, these and the new ones have too many
-- distinct ones
abbrev pub HasAppendCause : Lf → List Value → Seen → Seen → LfFault → Type 0
HasAppendCause lf more before after (faults.Page fault) = HasLfCause lf before after fault
HasAppendCause lf more before after faults.TooManyDistinct =
    (values : List Value) → Stands lf before.told values → HasTooMany (values ++ more)

-- nothing was written where there are too many distinct values
abbrev pub FindsTooManyFirst : Option ℕ → Option ℕ → LfFault → Type 0
FindsTooManyFirst before after (faults.Page fault) = ⊤
FindsTooManyFirst before after faults.TooManyDistinct = after ≡ before

-- the objects and the kind of an index stay
pub record SameObjects (old new : Lf) : Type 0 where
  pub first : new.first ≡ old.first
  pub second : new.second ≡ old.second
  pub third : new.third ≡ old.third
  pub kind : new.kind ≡ old.kind

-- every object but the three has the pages that it had
pub record KeepsOtherObjects (lf : Lf) (before after : Seen) : Type 0 where
  pub told : (other : ℕ) → ¬ (IsPart lf other) → after.told other ≡ before.told other
  pub counts : (other : ℕ) → ¬ (IsPart lf other) → after.counts other ≡ before.counts other

-- how many pages the distinct values and the entries of an index have
abbrev pub number_pages : Lf → ℕ
number_pages lf = pages_for (width lf.kind) lf.distinct + pages_for 4 (entries_in lf)

-- how many pages all rows of an index are read from at most
abbrev pub all_pages : Lf → ℕ
all_pages lf = number_pages lf + lf.distinct * chunks_for lf.slots

-- WHAT IS READ

-- the distinct values, whatever values the index stands for
abbrev pub AreKnown : Lf → (ℕ → Option Pages) → List Value → Type 0
AreKnown lf told known = (values : List Value) (stands : Stands lf told values) → known ≡ stands.known

-- the new values are numbered behind NULL and the distinct ones, whatever values the index stands for; and a page begins as the last
-- one of the distinct ones
pub record AreNumbered (lf : Lf) (told : ℕ → Option Pages) (cells fresh : List Value) (codes page : List ℕ) : Type 0 where
  pub known : List Value
  pub long : length known ≡ lf.distinct
  pub known_are : AreKnown lf told known
  pub of_kind : HaveCells lf.kind fresh
  pub numbered : IsNumbered (Null ∷ known) cells fresh codes
  pub begins : BeginsAs (width lf.kind) lf.distinct page (map (cell lf.kind) known)

-- whatever values the index stands for, these bits are the rows whose code is set among the hits
abbrev pub AreMarked : Lf → (ℕ → Option Pages) → List Bool → List Bool → Type 0
AreMarked lf told hits bits =
    (values : List Value) (stands : Stands lf told values) → bits ≡ map (λ code. slice_index_or hits code false) stands.codes

-- distinct values aren't taken where NULL or one of them stands twice, named at their object
abbrev pub HasRepeatCause : ℕ → List Value → PageFault → Type 0
HasRepeatCause first known (Failed x y) = ⊥
HasRepeatCause first known (BadPage named page) = (named ≡ first) × ¬ (AreDistinct (Null ∷ known))
HasRepeatCause first known NoMemory = ⊤
