-- What a table stands for is moved with its pages, and kept where they are kept.
use Rattle.std.proofs.Common.{◌≡◌, ◌<◌, ◌≤◌, ℕ, zero, suc, ◌+◌, ◌*◌, Bool, List, Option, length, map, slice_index, zero-add, inl, inr, sym, ap, ◌∙◌, subst, arith}
use Rattle.std.proofs.lemmas.Bool.{cases_lt}
use Rattle.byteorder.specs.Endian.{little_bytes}
use Rattle.iq_base.specs.declared.values.Value.{Value}
use Rattle.iq_base.specs.declared.descriptors.ColumnPart.{ColumnPart}
use Rattle.iq_base.specs.declared.descriptors.Descriptor.{Descriptor}
use Rattle.iq_base.specs.Cells.{width, cell}
use Rattle.iq_pages.specs.Pages.{Pages}
use Rattle.iq_pieces.specs.Objects.{HoldsObject}
use Rattle.iq_numbering.specs.Numbers.{IsFirstUse}
use Rattle.iq_chunks.specs.Chunks.{HoldsBits}
use Rattle.iq_cells.specs.Tables.{column_of}
use Rattle.iq_fp.specs.declared.fp.Fp.{Fp}
use Rattle.iq_fp.specs.Forms.{code_width}
use Rattle.iq_fp.specs.Stands.{Stands}
use Rattle.iq_fp.specs.Calls.{StandsForNone}
use Rattle.iq_table.specs.Places.{existence_of, codes_of, values_of, part_at, fp_of}
use Rattle.iq_table.specs.Table.{TableStands, SameObjectsAt}

-- a column stands for its values wherever its two objects have the same pages
pub column_moved : (place place' slots c : ℕ) (part : ColumnPart) (told told' : ℕ → Option Pages) (values : List Value) → told' (codes_of place' c) ≡ told (codes_of place c) → told' (values_of place' c) ≡ told (values_of place c) → Stands (fp_of place slots c part) told values → Stands (fp_of place' slots c part) told' values
column_moved place place' slots c part told told' values ec ev s = record {
  known = s.known;
  codes = s.codes;
  slots = s.slots;
  distinct = s.distinct;
  few = s.few;
  numbered = s.numbered;
  of_kind = s.of_kind;
  codes_held = subst (λ (o : Option Pages). HoldsObject o (code_width part.distinct) (map (little_bytes (code_width part.distinct)) s.codes)) (sym ec) s.codes_held;
  values_held = subst (λ (o : Option Pages). HoldsObject o (width part.kind) (map (cell part.kind) s.known)) (sym ev) s.values_held;
}

-- so does a table
pub table_moved : (told told' : ℕ → Option Pages) (place place' : ℕ) (parts : Descriptor) (rows : List (List Value)) (alive : List Bool) → SameObjectsAt place told place' told' → TableStands told place parts rows alive → TableStands told' place' parts rows alive
table_moved told told' place place' parts rows alive same s =
    let at : (k object object' : ℕ) → k < 256 → object ≡ 256 * place + k → object' ≡ 256 * place' + k → told' object' ≡ told object =
    λ k object object' h e e'. ap told' e' ∙ same k h ∙ ap told (sym e) in
    record {
      few = s.few;
      slots = s.slots;
      bits = s.bits;
      shapes = s.shapes;
      existence = subst (λ (o : Option Pages). HoldsBits o alive) (sym (at 0 (existence_of place) (existence_of place') (omega arith) (omega arith) (omega arith))) s.existence;
      columns = λ c h. (
          let few : c < 32 = omega (arith, s.few) in
          column_moved place place' parts.slots c (part_at c parts.columns) told told' (column_of c rows)
          (at (1 + 2 * c) (codes_of place c) (codes_of place' c) (omega arith) (omega arith) (omega arith))
          (at (2 + 2 * c) (values_of place c) (values_of place' c) (omega arith) (omega arith) (omega arith))
          (s.columns c h));
      forms = s.forms;
    }

-- the first use of a code is no earlier than its number
first_late : (codes : List ℕ) (n : ℕ) (first : (j : ℕ) → j < n → IsFirstUse codes j) (j : ℕ) (h : j < n) → j ≤ (first j h).at
first_late codes n first zero h = omega arith
first_late codes n first (suc j) h =
    let less : j < n = omega arith in
    let was = first j less in
    let now = first (suc j) h in
    let so_far : j ≤ was.at = first_late codes n first j less in
    elim (cases_lt was.at now.at) [
      | inl before ↦ omega arith
      | inr on ↦ elim (cases_lt now.at was.at) [
        | inl early ↦ (let small = was.before now.at early in absurd (omega (arith, small, now.here)))
        | inr same ↦ (
            let at : now.at ≡ was.at = omega arith in
            let code : slice_index codes now.at ≡ slice_index codes was.at = ap (slice_index codes) at in
            absurd (omega (arith, code, now.here, was.here)))
      ]
    ]

-- numbers that are all used are no more than the codes
few_used : (codes : List ℕ) (n : ℕ) → ((j : ℕ) → j < n → IsFirstUse codes j) → n ≤ length codes
few_used codes zero first = omega arith
few_used codes (suc n) first =
    let h : n < suc n = omega arith in
    let late = first_late codes (suc n) first n h in
    let within = (first n h).within in
    omega (arith, late, within)

-- a column has no more distinct values than rows
pub few_distinct : (fp : Fp) (told : ℕ → Option Pages) (values : List Value) → Stands fp told values → fp.distinct ≤ fp.slots
few_distinct fp told values s =
    let used : length s.known ≤ length s.codes = few_used s.codes (length s.known) (λ j h. rw zero-add at (s.numbered.first j h)) in
    omega (arith, used, s.distinct, s.slots, s.numbered.long)

pub none_of_more : (fp : Fp) (told : ℕ → Option Pages) → fp.slots < fp.distinct → StandsForNone fp told
none_of_more fp told more = λ values stands. let few = few_distinct fp told values stands in absurd (omega arith)
