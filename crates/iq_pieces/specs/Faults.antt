-- Why the pieces of an object aren't read, or others not put behind them.
use Rattle.std.specs.Prelude.{◌≡◌, ◌<◌, ℕ, ◌-◌, ◌*◌, min, List, Option, Some, length, ⊤}
use Rattle.byteorder.specs.Endian.{little_number}
use Rattle.iq_base.specs.declared.values.Kind.{Kind}
use Rattle.iq_base.specs.Cells.{width, IsCell}
use Rattle.iq_outside.specs.Faults.{RoseWithin}
use Rattle.iq_pages.specs.declared.page_faults.PageFault.{PageFault}
use Rattle.iq_pages.specs.declared.page_faults.PageFault.TheVariants.{Failed, BadPage, NoMemory}
use Rattle.iq_pages.specs.Pages.{Pages, Seen}
use Rattle.iq_cells.specs.Pieces.{piece_in}
use Rattle.iq_cells.specs.Packed.{value_of_cell}
use Rattle.iq_pieces.specs.Counts.{per_page, pages_for, WritesNothing}
use Rattle.iq_pieces.specs.Objects.{page_at}

-- what each piece has to be: the cell of a value of a kind, or a code of w bytes that is below a number
pub data Form : Type 0 where
  CellsOf : Kind → Form
  CodesBelow : ℕ → ℕ → Form

-- how many bytes a piece has
abbrev pub form_width : Form → ℕ
form_width (CellsOf kind) = width kind
form_width (CodesBelow w bound) = w

-- the bytes are such a piece
abbrev pub IsPiece : Form → List ℕ → Type 0
IsPiece (CellsOf kind) bytes = IsCell kind (value_of_cell kind bytes) bytes
IsPiece (CodesBelow w bound) bytes = little_number w bytes < bound

-- the first n pieces of a page are
abbrev pub ArePieces : Form → List ℕ → ℕ → Type 0
ArePieces form page n = (i : ℕ) → i < n → IsPiece form (piece_in (form_width form) page i)

-- how many of so many pieces stand on page p
abbrev pub pieces_on : ℕ → ℕ → ℕ → ℕ
pieces_on w count p = min (per_page w) (count - per_page w * p)

-- the object has such a page, where its pages are told
abbrev pub HasPage : Option Pages → ℕ → Type 0
HasPage told page = (pages : Pages) × (told ≡ Some pages) × (page < length pages)

-- the object has a page whose pieces are of the form, so many as stand on it
abbrev pub HasSoundPage : Form → ℕ → Option Pages → ℕ → Type 0
HasSoundPage form count told page = (pages : Pages) × (told ≡ Some pages) × (page < length pages) × ArePieces form (page_at page pages) (pieces_on (form_width form) count page)

-- why a page isn't read or written: the store failed; or the object, which the fault names, isn't told or has no such page
abbrev pub HasPageCause : ℕ → Seen → Seen → PageFault → Type 0
HasPageCause object before after (Failed x y) = RoseWithin before.faults x y after.faults
HasPageCause object before after (BadPage named page) = (named ≡ object) × ¬ (HasPage (before.told object) page)
HasPageCause object before after NoMemory = ⊤

-- why so many pieces of an object aren't read: the store failed; or the object, which the fault names, isn't told, lacks a page that
-- they need, or has there a piece that isn't of its form
abbrev pub HasPiecesCause : Form → ℕ → ℕ → Seen → Seen → PageFault → Type 0
HasPiecesCause form count object before after (Failed x y) = RoseWithin before.faults x y after.faults
HasPiecesCause form count object before after (BadPage named page) =
    (named ≡ object) × (page < pages_for (form_width form) count) × ¬ (HasSoundPage form count (before.told object) page)
HasPiecesCause form count object before after NoMemory = ⊤

-- why the last page of so many pieces of w bytes isn't read, so that others can be put behind them: the store failed, or the object,
-- which the fault names, isn't told or lacks a page that they need
abbrev pub HasBehindCause : ℕ → ℕ → ℕ → Seen → Seen → PageFault → Type 0
HasBehindCause w count object before after (Failed x y) = RoseWithin before.faults x y after.faults
HasBehindCause w count object before after (BadPage named page) = (named ≡ object) × (page < pages_for w count) × ¬ (HasPage (before.told object) page)
HasBehindCause w count object before after NoMemory = ⊤

-- a bad page was found before the first page was written
abbrev pub FindsBadFirst : Seen → Seen → PageFault → Type 0
FindsBadFirst before after (Failed x y) = ⊤
FindsBadFirst before after (BadPage named page) = WritesNothing before after
FindsBadFirst before after NoMemory = ⊤
