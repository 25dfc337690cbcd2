-- What stands on a page of a column.
use Rattle.std.proofs.Common.{◌≡◌, ◌<◌, ◌≤◌, ℕ, ◌+◌, ◌-◌, ◌*◌, ◌/◌, ◌%◌, ◌^◌, min, inl, inr, Bool, false, List, [], map, Option, Some, None, length, slice_index, slice_index_or, append-nil, sym, ap, ◌∙◌, subst, arith}
use Rattle.std.proofs.lemmas.Bool.{cases_lt}
use Rattle.std.proofs.lemmas.Option.{get_or_from_slice_get}
use Rattle.std.proofs.lemmas.List.{get_or-map, length-map, ext_get_or}
use Rattle.byteorder.specs.Endian.{little_number, little_bytes}
use Rattle.byteorder.specs.Numbers.{little_number-reads_back}
use Rattle.iq_base.specs.declared.values.Value.{Value}
use Rattle.iq_base.specs.declared.values.Value.TheVariants.{Null}
use Rattle.iq_base.specs.Cells.{width, cell, IsCell}
use Rattle.iq_base.proofs.CellLaws.{only_cell}
use Rattle.iq_pages.specs.declared.page_faults.PageFault.{PageFault}
use Rattle.iq_pages.specs.declared.page_faults.PageFault.TheVariants.{Failed, BadPage, NoMemory}
use Rattle.iq_pages.specs.Pages.{Pages, Seen, IsPageOf, NamesPage}
use Rattle.iq_cells.specs.Pieces.{piece_in}
use Rattle.iq_cells.specs.Packed.{value_at}
use Rattle.iq_cells.specs.Codes.{code_in}
use Rattle.iq_pieces.specs.Counts.{per_page, pages_for}
use Rattle.iq_pieces.specs.Objects.{piece_at, page_at, HoldsObject}
use Rattle.iq_pieces.specs.Faults.{Form, form_width, IsPiece, ArePieces, pieces_on, HasSoundPage, HasPageCause}
use Rattle.iq_fp.specs.declared.fp.Fp.{Fp}
use Rattle.iq_fp.specs.Forms.{code_width}
use Rattle.iq_fp.specs.Stands.{Stands}
use Rattle.iq_fp.specs.Calls.{AreKnown, HasReadCause}
use Rattle.iq_fp.specs.Scans.{MarksRows, AreMarked}
use Rattle.iq_fp.proofs.Readings.{width_enough, codes_below}
use Rattle.iq_fp.proofs.Growth.{stands_there}

-- the page that was read is the told one
pub page_is : (told : Option Pages) (p : ℕ) (page : List ℕ) (pages : Pages) → IsPageOf told p page → told ≡ Some pages → page_at p pages ≡ page
page_is None p page pages is e = absurd (cc)
page_is (Some ps) p page pages is e =
    let same : ps ≡ pages = cc in
    ap (page_at p) (sym same) ∙ get_or_from_slice_get ps p page [] is

-- a piece of it is that of its place
piece_there : (told : Option Pages) (w p i : ℕ) (page : List ℕ) (pieces : List (List ℕ)) → IsPageOf told p page → i < per_page w → per_page w * p + i < length pieces → HoldsObject told w pieces → piece_in w page i ≡ piece_at (per_page w * p + i) pieces
piece_there told w p i page pieces is small less h =
    ap (λ (b : List ℕ). piece_in w b i) (sym (page_is told p page h.pages is h.told_is)) ∙ h.holds.held p i small less

-- a code of it is that of its row
pub code_there : (fp : Fp) (told : ℕ → Option Pages) (values : List Value) (stands : Stands fp told values) (w p i : ℕ) (page : List ℕ) → w ≡ code_width fp.distinct → IsPageOf (told fp.codes) p page → i < per_page w → per_page w * p + i < fp.slots → code_in w page i ≡ slice_index stands.codes (per_page w * p + i)
code_there fp told values stands w p i page wide is small less =
    let n = per_page w * p + i in
    let held : HoldsObject (told fp.codes) w (map (little_bytes w) stands.codes) = rw wide stands.codes_held in
    let within : n < length stands.codes = omega (arith, stands.numbered.long, stands.slots) in
    let among : n < length (map (little_bytes w) stands.codes) = omega (arith, length-map stands.codes (little_bytes w)) in
    let piece : piece_in w page i ≡ little_bytes w (slice_index stands.codes n) =
    piece_there (told fp.codes) w p i page (map (little_bytes w) stands.codes) is small among held ∙ get_or-map (little_bytes w) stands.codes n 0 [] within in
    let enough : fp.distinct ≤ 256 ^ w = rw wide (width_enough fp.distinct stands.few) in
    let below : slice_index stands.codes n < fp.distinct = codes_below fp told values stands n within in
    ap (little_number w) (piece ∙ sym (append-nil (little_bytes w (slice_index stands.codes n)))) ∙ little_number-reads_back w (slice_index stands.codes n) [] (omega arith)

-- so is the one that was read for a row
pub code_of_row : (fp : Fp) (told : ℕ → Option Pages) (values : List Value) (stands : Stands fp told values) (w row : ℕ) (page : List ℕ) → 0 < per_page w → w ≡ code_width fp.distinct → IsPageOf (told fp.codes) (row / per_page w) page → row < fp.slots → code_in w page (row % per_page w) ≡ slice_index stands.codes row
code_of_row fp told values stands w row page some wide is less =
    let place : per_page w * (row / per_page w) + row % per_page w ≡ row = omega arith in
    code_there fp told values stands w (row / per_page w) (row % per_page w) page wide is (omega arith) (omega arith) ∙ ap (slice_index stands.codes) place

-- the value of a cell of it is the distinct one at its place
pub value_there : (fp : Fp) (told : ℕ → Option Pages) (values : List Value) (stands : Stands fp told values) (code : ℕ) (page : List ℕ) (v : Value) → 0 < per_page (width fp.kind) → IsPageOf (told fp.values) (code / per_page (width fp.kind)) page → code < fp.distinct → IsCell fp.kind v (piece_in (width fp.kind) page (code % per_page (width fp.kind))) → v ≡ value_at code stands.known
value_there fp told values stands code page v some is less c =
    let w = width fp.kind in
    let per = per_page w in
    let place : per * (code / per) + code % per ≡ code = omega arith in
    let within : code < length stands.known = omega (arith, stands.distinct) in
    let among : per * (code / per) + code % per < length (map (cell fp.kind) stands.known) = omega (arith, length-map stands.known (cell fp.kind)) in
    let piece : piece_in w page (code % per) ≡ cell fp.kind (value_at code stands.known) =
    piece_there (told fp.values) w (code / per) (code % per) page (map (cell fp.kind) stands.known) is (omega arith) among stands.values_held
    ∙ ap (λ (i : ℕ). piece_at i (map (cell fp.kind) stands.known)) place ∙ get_or-map (cell fp.kind) stands.known code Null [] within in
    only_cell fp.kind (value_at code stands.known) v (cell fp.kind (value_at code stands.known)) (stands.of_kind code within) (subst (IsCell fp.kind v) piece c)

-- a page with a piece that isn't of its form isn't sound
pub unsound_piece : (form : Form) (count : ℕ) (told : Option Pages) (p i : ℕ) (page : List ℕ) → IsPageOf told p page → i < pieces_on (form_width form) count p → ¬ (IsPiece form (piece_in (form_width form) page i)) → ¬ (HasSoundPage form count told p)
unsound_piece form count told p i page is small bad = λ h. bad (subst (λ (b : List ℕ). IsPiece form (piece_in (form_width form) b i)) (page_is told p page h.0 is h.1) (h.3 i small))

-- so is one whose first pieces aren't all of it
pub unsound_pieces : (form : Form) (count : ℕ) (told : Option Pages) (p n : ℕ) (page : List ℕ) → IsPageOf told p page → n ≡ pieces_on (form_width form) count p → ¬ (ArePieces form page n) → ¬ (HasSoundPage form count told p)
unsound_pieces form count told p n page is size bad = λ h. bad (λ i small. subst (λ (b : List ℕ). IsPiece form (piece_in (form_width form) b i)) (page_is told p page h.0 is h.1) (h.3 i (omega arith)))

-- a page of values that isn't read
pub values_unread : (fp : Fp) (n : ℕ) (a b : Seen) (fault : PageFault) → n < pages_for (width fp.kind) fp.distinct → NamesPage n fault → HasPageCause fp.values a b fault → HasReadCause fp a b fault
values_unread fp n a b (Failed x y) less names h = h
values_unread fp n a b (BadPage named page) less names h = inr (h.0, omega (arith, names), λ there. h.1 (there.0, there.1, there.2))
values_unread fp n a b NoMemory less names h = tt

-- the rows before an end have the bits of their codes
abbrev pub AreMarkedTo : Fp → (ℕ → Option Pages) → List Bool → ℕ → List Bool → Type 0
AreMarkedTo fp told hits end bits =
    (values : List Value) (stands : Stands fp told values) (i : ℕ) → i < end → i < fp.slots → slice_index_or bits i false ≡ slice_index_or hits (slice_index stands.codes i) false

-- those of one more page
pub marked_next : (fp : Fp) (told : ℕ → Option Pages) (hits : List Bool) (w p n : ℕ) (page : List ℕ) (bits bits' : List Bool) → w ≡ code_width fp.distinct → IsPageOf (told fp.codes) p page → n ≡ min (per_page w) (fp.slots - per_page w * p) → MarksRows w page n hits (per_page w * p) bits bits' → AreMarkedTo fp told hits (per_page w * p) bits → AreMarkedTo fp told hits (per_page w * (p + 1)) bits'
marked_next fp told hits w p n page bits bits' wide is size m to = λ values stands i early less.
    let per = per_page w in
    let up : per * (p + 1) ≡ per * p + per = omega arith in
    elim (cases_lt i (per * p)) [
      | inl before ↦ m.before i before ∙ to values stands i before less
      | inr from ↦ (
          let k : per * p + (i - per * p) ≡ i = omega arith in
          let small : i - per * p < per = omega (arith, up) in
          ap (λ (j : ℕ). slice_index_or bits' j false) (sym k) ∙ m.here (i - per * p) (omega arith)
          ∙ ap (λ (code : ℕ). slice_index_or hits code false) (code_there fp told values stands w p (i - per * p) page wide is small (omega arith) ∙ ap (slice_index stands.codes) k))
    ]

-- so all rows are marked
pub all_marked : (fp : Fp) (told : ℕ → Option Pages) (hits : List Bool) (end : ℕ) (bits : List Bool) → fp.slots ≤ end → length bits ≡ fp.slots → AreMarkedTo fp told hits end bits → AreMarked fp told hits bits
all_marked fp told hits end bits enough long to = λ values stands.
    let size : length stands.codes ≡ fp.slots = stands.numbered.long ∙ stands.slots in
    let mapped = length-map stands.codes (λ (code : ℕ). slice_index_or hits code false) in
    ext_get_or false bits (map (λ (code : ℕ). slice_index_or hits code false) stands.codes) (omega (arith, mapped))
    (λ i h. to values stands i (omega arith) (omega arith) ∙ sym (get_or-map (λ (code : ℕ). slice_index_or hits code false) stands.codes i 0 false (omega arith)))

-- the rows whose code is a hit are those whose value is
pub hits_are : (fp : Fp) (told told' : ℕ → Option Pages) (f : Value → Bool) (known : List Value) (hits bits : List Bool) → told' fp.codes ≡ told fp.codes → told' fp.values ≡ told fp.values → AreKnown fp told known → hits ≡ map f known → AreMarked fp told' hits bits → (values : List Value) → Stands fp told values → bits ≡ map f values
hits_are fp told told' f known hits bits ec ev are is marked = λ values stands.
    let codes = stands.codes in
    let same : hits ≡ map f stands.known = is ∙ ap (map f) (are values stands) in
    let hit = λ (code : ℕ). slice_index_or hits code false in
    let long = length-map codes hit in
    marked values (stands_there fp told told' values ec ev stands)
    ∙ ext_get_or false (map hit codes) (map f values) (omega (arith, long, length-map values f, stands.numbered.long)) (λ i h.
    let less : i < length values = omega (arith, long, stands.numbered.long) in
    let at = stands.numbered.each i less in
    get_or-map hit codes i 0 false (omega (arith, long)) ∙ ap (λ (hs : List Bool). slice_index_or hs (slice_index codes i) false) same
    ∙ get_or-map f stands.known (slice_index codes i) Null false at.within ∙ ap f at.there ∙ sym (get_or-map f values i Null false less))
