-- What was read of the objects of a column is what they stand for.
use Rattle.std.proofs.Common.{◌≡◌, ◌<◌, ◌≤◌, ℕ, ◌+◌, ◌*◌, ◌/◌, ◌%◌, ◌^◌, inl, inr, List, [], ◌++◌, map, Option, length, slice_index, sym, ap, ◌∙◌, arith}
use Rattle.std.proofs.Math.Nat.{zero-mul}
use Rattle.std.proofs.lemmas.Bool.{cases_lt}
use Rattle.std.proofs.lemmas.Bool.Decides.{nat_tests}
use Rattle.std.proofs.lemmas.List.{ext_get_or, get_or-map, length-map}
use Rattle.byteorder.specs.Endian.{little_number, little_bytes}
use Rattle.byteorder.specs.Numbers.{little_number-reads_back}
use Rattle.iq_base.specs.declared.values.Kind.{Kind}
use Rattle.iq_base.specs.declared.values.Value.{Value}
use Rattle.iq_base.specs.declared.values.Value.TheVariants.{Null}
use Rattle.iq_base.specs.Cells.{width, cell, IsCell}
use Rattle.iq_base.proofs.CellLaws.{cell_tells}
use Rattle.iq_pages.specs.Pages.{Pages}
use Rattle.iq_cells.specs.Pieces.{piece_in}
use Rattle.iq_cells.specs.Packed.{value_at}
use Rattle.iq_pieces.specs.Counts.{per_page}
use Rattle.iq_pieces.specs.Codes.{AreBelow}
use Rattle.iq_pieces.specs.Objects.{piece_at, page_at, HoldsObject, AreFirst}
use Rattle.iq_fp.specs.declared.fp.Fp.{Fp}
use Rattle.iq_fp.specs.Forms.{code_width}
use Rattle.iq_fp.specs.Stands.{Stands, HaveCells}

-- the bytes of a value's cell are its own
pub own_cell : (kind : Kind) (v : Value) (bytes : List ℕ) → IsCell kind v bytes → IsCell kind v (cell kind v)
own_cell kind v bytes is = rw is.bytes_are is

-- the first pieces of an object that holds so many are these
pub first_are_all : (told : Option Pages) (w : ℕ) (taken pieces : List (List ℕ)) → AreFirst told w taken → HoldsObject told w pieces → length taken ≡ length pieces → taken ≡ pieces
first_are_all told w taken pieces first h long = ext_get_or [] taken pieces long (λ k less.
    let per = per_page w in
    elim (cases_lt 0 per) [
      | inl some ↦ (
          let place : per * (k / per) + k % per ≡ k = omega arith in
          let small : k % per < per = omega arith in
          let a : piece_in w (page_at (k / per) h.pages) (k % per) ≡ piece_at (per * (k / per) + k % per) taken = first h.pages h.told_is (k / per) (k % per) small (omega arith) in
          let b : piece_in w (page_at (k / per) h.pages) (k % per) ≡ piece_at (per * (k / per) + k % per) pieces = h.holds.held (k / per) (k % per) small (omega arith) in
          ap (λ (i : ℕ). piece_at i taken) (sym place) ∙ sym a ∙ b ∙ ap (λ (i : ℕ). piece_at i pieces) place)
      | inr none ↦ (
          let zero : per ≡ 0 = omega arith in
          let empty : per * length h.pages ≡ 0 = ap (λ (n : ℕ). n * length h.pages) zero ∙ zero-mul (length h.pages) in
          absurd (omega (arith, h.holds.enough)))
    ])

-- lists of values whose cells are the same are the same
same_cells : (kind : Kind) (xs ys : List Value) → HaveCells kind xs → HaveCells kind ys → map (cell kind) xs ≡ map (cell kind) ys → xs ≡ ys
same_cells kind xs ys p q e =
    let long : length xs ≡ length ys = sym (length-map xs (cell kind)) ∙ ap length e ∙ length-map ys (cell kind) in
    ext_get_or Null xs ys long (λ i h.
    let less : i < length ys = omega arith in
    cell_tells kind (value_at i xs) (value_at i ys) (p i h).of_kind (q i less).of_kind
    (sym (get_or-map (cell kind) xs i Null [] h) ∙ ap (λ (ps : List (List ℕ)). piece_at i ps) e ∙ get_or-map (cell kind) ys i Null [] less))

-- numbers whose bytes are the same are the same
same_bytes : (w a b : ℕ) → a < 256 ^ w → b < 256 ^ w → little_bytes w a ≡ little_bytes w b → a ≡ b
same_bytes w a b p q e =
    sym (little_number-reads_back w a [] p) ∙ ap (λ (bs : List ℕ). little_number w (bs ++ [])) e ∙ little_number-reads_back w b [] q

-- and so are lists of them
same_codes : (w : ℕ) (xs ys : List ℕ) → AreBelow xs (256 ^ w) → AreBelow ys (256 ^ w) → map (little_bytes w) xs ≡ map (little_bytes w) ys → xs ≡ ys
same_codes w xs ys p q e =
    let long : length xs ≡ length ys = sym (length-map xs (little_bytes w)) ∙ ap length e ∙ length-map ys (little_bytes w) in
    ext_get_or 0 xs ys long (λ i h.
    let less : i < length ys = omega arith in
    same_bytes w (slice_index xs i) (slice_index ys i) (p i h) (q i less)
    (sym (get_or-map (little_bytes w) xs i 0 [] h) ∙ ap (λ (ps : List (List ℕ)). piece_at i ps) e ∙ get_or-map (little_bytes w) ys i 0 [] less))

-- codes of so many distinct values fit their bytes
pub width_enough : (distinct : ℕ) → distinct ≤ 256 ^ 3 → distinct ≤ 256 ^ code_width distinct
width_enough distinct few = grind (arith, nat_tests)

-- the codes that a column stands for are below the number of its distinct values
pub codes_below : (fp : Fp) (told : ℕ → Option Pages) (values : List Value) (stands : Stands fp told values) → AreBelow stands.codes fp.distinct
codes_below fp told values stands = λ k h.
    let at = stands.numbered.each k (omega (arith, stands.numbered.long)) in
    omega (arith, at.within, stands.distinct)

-- the values that were read are the distinct ones
pub known_are : (fp : Fp) (told : ℕ → Option Pages) (values got : List Value) (stands : Stands fp told values) → HaveCells fp.kind got → length got ≡ fp.distinct → AreFirst (told fp.values) (width fp.kind) (map (cell fp.kind) got) → got ≡ stands.known
known_are fp told values got stands cells long first =
    same_cells fp.kind got stands.known cells stands.of_kind
    (first_are_all (told fp.values) (width fp.kind) (map (cell fp.kind) got) (map (cell fp.kind) stands.known) first stands.values_held
    (length-map got (cell fp.kind) ∙ long ∙ sym stands.distinct ∙ sym (length-map stands.known (cell fp.kind))))

-- the codes that were read are those of the rows
pub codes_are : (fp : Fp) (told : ℕ → Option Pages) (values : List Value) (got : List ℕ) (w : ℕ) (stands : Stands fp told values) → w ≡ code_width fp.distinct → AreBelow got fp.distinct → length got ≡ fp.slots → AreFirst (told fp.codes) w (map (little_bytes w) got) → got ≡ stands.codes
codes_are fp told values got w stands wide below long first =
    let enough : fp.distinct ≤ 256 ^ w = rw wide (width_enough fp.distinct stands.few) in
    let held : HoldsObject (told fp.codes) w (map (little_bytes w) stands.codes) = rw wide stands.codes_held in
    let small : AreBelow stands.codes fp.distinct = codes_below fp told values stands in
    same_codes w got stands.codes (λ k h. let l = below k h in omega arith) (λ k h. let l = small k h in omega arith)
    (first_are_all (told fp.codes) w (map (little_bytes w) got) (map (little_bytes w) stands.codes) first held
    (length-map got (little_bytes w) ∙ long ∙ sym stands.slots ∙ sym stands.numbered.long ∙ sym (length-map stands.codes (little_bytes w))))
