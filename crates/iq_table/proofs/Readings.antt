-- Rows put together from columns of chosen rows.
use Rattle.std.proofs.Common.{◌≡◌, ◌<◌, ◌≤◌, ℕ, zero, suc, ◌+◌, ◌∷◌, ◌++◌, [], inl, inr, Bool, true, false, List, Option, take, drop, length, map, slice_index, refl, sym, ap, ◌∙◌, subst, arith}
use Rattle.std.specs.Prelude.{count_by, cond}
use Rattle.std.specs.List.{range_with_len}
use Rattle.std.proofs.lemmas.Bool.{cases_lt}
use Rattle.std.proofs.lemmas.List.{length-map, get_or-map, get_or_append_left, get_or-append-add, ext_get_or, take_more, take-append-drop}
use Rattle.std.proofs.lemmas.List.Sums.{sum_by-append}
use Rattle.std.proofs.lemmas.List.FromFn.{length-map-range_with_len, get_or-map-range_with_len}
use Rattle.iq_base.specs.declared.values.Kind.TheVariants.{Int}
use Rattle.iq_base.specs.declared.values.Value.{Value}
use Rattle.iq_base.specs.declared.values.Value.TheVariants.{Null}
use Rattle.iq_pages.specs.declared.page_faults.PageFault.{PageFault}
use Rattle.iq_pages.specs.declared.page_faults.PageFault.TheVariants.{Failed, BadPage, NoMemory}
use Rattle.iq_pages.specs.Pages.{Pages, Seen, KeepsObjects}
use Rattle.iq_pages.proofs.PageLaws.{rose_since}
use Rattle.iq_bitmap.specs.Bits.{rows_from}
use Rattle.iq_pieces.specs.Faults.{HasSoundPage, CodesBelow, CellsOf}
use Rattle.iq_cells.specs.Packed.{Column, value_at}
use Rattle.iq_cells.specs.Tables.{rows_in, row_in, row_at, column_at, column_of, AreLong}
use Rattle.iq_cells.proofs.RowLaws.{value_of_row}
use Rattle.iq_fp.specs.Forms.{code_width}
use Rattle.iq_fp.specs.Calls as fps
use Rattle.iq_fp.specs.Scans.{AreValuesOfRows}
use Rattle.iq_fp.proofs.Growth.{stands_there}
use Rattle.iq_table.specs.declared.table.Table.{Table}
use Rattle.iq_table.specs.Places.{part_at, kinds_at, fp_at}
use Rattle.iq_table.specs.Table.{TableStands, values_at, GivesRows}
use Rattle.iq_table.specs.Calls.{HasRowsCause, pages_of_columns}

-- as many rows are set as are counted
pub rows_counted : (set : List Bool) (a : ℕ) → length (rows_from a set) ≡ count_by (λ on. on) set
rows_counted [] a = refl
rows_counted (true ∷ set) a =
    let more = rows_counted set (a + 1) in
    let one : count_by (λ (on : Bool). on) (true ∷ set) ≡ 1 + count_by (λ (on : Bool). on) set = sum_by-append (λ (on : Bool). cond on 1 0) (true ∷ []) set in
    omega (arith, more, one)
rows_counted (false ∷ set) a = rows_counted set (a + 1)

-- a row that is set is one of the rows
row_below : (set : List Bool) (a i : ℕ) → i < length (rows_from a set) → slice_index (rows_from a set) i < a + length set
row_below [] a i h = absurd (omega (arith, h))
row_below (true ∷ set) a zero h = omega arith
row_below (true ∷ set) a (suc i) h = let more = row_below set (a + 1) i (omega (arith, h)) in omega (arith, more)
row_below (false ∷ set) a i h = let more = row_below set (a + 1) i h in omega (arith, more)

-- a column that was read for a mention of it
pub record IsRead (table : Table) (told : ℕ → Option Pages) (set : List Bool) (c : ℕ) (cells : Column) : Type 0 where
  pub kind : cells.kind ≡ (part_at c table.parts.columns).kind
  pub long : length cells.values ≡ length (rows_from 0 set)
  pub values : AreValuesOfRows (fp_at table.place table.parts c) told set cells.values

-- one more is read
pub read_more : (table : Table) (told : ℕ → Option Pages) (set : List Bool) (columns : List ℕ) (read : List Column) (cells : Column) (i : ℕ) → length read ≡ i → ((j : ℕ) → j < i → IsRead table told set (slice_index columns j) (column_at j read)) → IsRead table told set (slice_index columns i) cells → (j : ℕ) → j < i + 1 → IsRead table told set (slice_index columns j) (column_at j (read ++ cells ∷ []))
read_more table told set columns read cells i long each here j h =
    let none : Column = record { kind = Int; values = [] } in
    elim (cases_lt j i) [
      | inl less ↦ subst (λ (x : Column). IsRead table told set (slice_index columns j) x) (sym (get_or_append_left read (cells ∷ []) none j (omega arith))) (each j less)
      | inr on ↦ (
          let same : j ≡ i = omega arith in
          let place : j ≡ length read + 0 = omega arith in
          let there : column_at j (read ++ cells ∷ []) ≡ cells = ap (λ (k : ℕ). column_at k (read ++ cells ∷ [])) place ∙ get_or-append-add read (cells ∷ []) 0 none in
          subst (λ (x : Column). IsRead table told set (slice_index columns j) x) (sym there) (subst (λ (k : ℕ). IsRead table told set (slice_index columns k) cells) (sym same) here))
    ]

-- a read that was of pages which are as they were
pub values_still : (table : Table) (c : ℕ) (told told' : ℕ → Option Pages) (set : List Bool) (values : List Value) → ((object : ℕ) → told' object ≡ told object) → AreValuesOfRows (fp_at table.place table.parts c) told' set values → AreValuesOfRows (fp_at table.place table.parts c) told set values
values_still table c told told' set values same are = λ vs stands.
    are vs (stands_there (fp_at table.place table.parts c) told told' vs (same (fp_at table.place table.parts c).codes) (same (fp_at table.place table.parts c).values) stands)

-- each column has as many values as rows are set
pub are_long : (table : Table) (told : ℕ → Option Pages) (set : List Bool) (columns : List ℕ) (read : List Column) → length read ≡ length columns → ((j : ℕ) → j < length columns → IsRead table told set (slice_index columns j) (column_at j read)) → AreLong read (count_by (λ on. on) set)
are_long table told set columns read long each = λ c h. (each c (omega arith)).long ∙ rows_counted set 0

-- what they may hold
pub kinds_are : (table : Table) (told : ℕ → Option Pages) (set : List Bool) (columns : List ℕ) (read : List Column) (n : ℕ) → length read ≡ length columns → ((j : ℕ) → j < length columns → IsRead table told set (slice_index columns j) (column_at j read)) → (rows_in read n).kinds ≡ kinds_at table.parts.columns columns
unfolding rows_in
kinds_are table told set columns read n long each =
    let kind = λ (column : Column). column.kind in
    let of = λ (c : ℕ). (part_at c table.parts.columns).kind in
    ext_get_or Int (map kind read) (map of columns) (length-map read kind ∙ long ∙ sym (length-map columns of))
    (λ i h. let within : i < length columns = omega (arith, length-map read kind) in
    get_or-map kind read i (record { kind = Int; values = [] }) Int (omega arith) ∙ (each i within).kind ∙ sym (get_or-map of columns i 0 Int within))

-- a row of them is the table's in these columns
row_is : (table : Table) (told : ℕ → Option Pages) (set : List Bool) (columns : List ℕ) (read : List Column) (rows : List (List Value)) (alive : List Bool) (i : ℕ) → length read ≡ length columns → length set ≡ table.parts.slots → ((j : ℕ) → j < length columns → slice_index columns j < length table.parts.columns) → ((j : ℕ) → j < length columns → IsRead table told set (slice_index columns j) (column_at j read)) → TableStands told table.place table.parts rows alive → i < length (rows_from 0 set) → row_in read i ≡ values_at columns (row_at (slice_index (rows_from 0 set) i) rows)
row_is table told set columns read rows alive i long size named each stands h =
    let r = slice_index (rows_from 0 set) i in
    let below : r < length rows = omega (arith, row_below set 0 i h, size, stands.slots) in
    let f = λ (column : Column). value_at i column.values in
    let g = λ (c : ℕ). value_at c (row_at r rows) in
    ext_get_or Null (map f read) (map g columns) (length-map read f ∙ long ∙ sym (length-map columns g))
    (λ j l. let within : j < length columns = omega (arith, length-map read f) in
    let c = slice_index columns j in
    let is = (each j within).values (column_of c rows) (stands.columns c (named j within)) in
    get_or-map f read j (record { kind = Int; values = [] }) Null (omega arith)
    ∙ ap (value_at i) is ∙ get_or-map (λ (q : ℕ). value_at q (column_of c rows)) (rows_from 0 set) i 0 Null h
    ∙ value_of_row c r rows below ∙ sym (get_or-map g columns j 0 Null within))

-- so the rows are
pub rows_are : (table : Table) (told : ℕ → Option Pages) (set : List Bool) (columns : List ℕ) (read : List Column) → length read ≡ length columns → length set ≡ table.parts.slots → ((j : ℕ) → j < length columns → slice_index columns j < length table.parts.columns) → ((j : ℕ) → j < length columns → IsRead table told set (slice_index columns j) (column_at j read)) → GivesRows table told set columns (rows_in read (count_by (λ on. on) set)).rows
unfolding rows_in
rows_are table told set columns read long size named each = λ rows alive stands.
    let n = count_by (λ on. on) set in
    let count : length (rows_from 0 set) ≡ n = rows_counted set 0 in
    let f = λ (r : ℕ). values_at columns (row_at r rows) in
    ext_get_or [] (map (row_in read) (range_with_len 0 n)) (map f (rows_from 0 set)) (length-map-range_with_len (row_in read) 0 n ∙ sym count ∙ sym (length-map (rows_from 0 set) f))
    (λ i h. let less : i < n = omega (arith, length-map-range_with_len (row_in read) 0 n) in
    get_or-map-range_with_len (row_in read) 0 n i i [] less (omega arith)
    ∙ row_is table told set columns read rows alive i long size named each stands (omega (arith, count)) ∙ sym (get_or-map f (rows_from 0 set) i 0 [] (omega (arith, count))))

-- pages of one column more
pub pages_next : (table : Table) (columns : List ℕ) (i : ℕ) → i < length columns → pages_of_columns table (take (i + 1) columns) ≡ pages_of_columns table (take i columns) + fps.all_pages (fp_at table.place table.parts (slice_index columns i))
pages_next table columns i h =
    let f = λ (c : ℕ). fps.all_pages (fp_at table.place table.parts c) in
    ap (pages_of_columns table) (take_more columns i 0 h) ∙ sum_by-append f (take i columns) (slice_index columns i ∷ []) ∙ (omega arith)

pub pages_first : (table : Table) (columns : List ℕ) (i : ℕ) → pages_of_columns table (take i columns) ≤ pages_of_columns table columns
pages_first table columns i =
    let f = λ (c : ℕ). fps.all_pages (fp_at table.place table.parts c) in
    let whole : pages_of_columns table (take i columns ++ drop i columns) ≡ pages_of_columns table (take i columns) + pages_of_columns table (drop i columns) = sum_by-append f (take i columns) (drop i columns) in
    let same : pages_of_columns table (take i columns ++ drop i columns) ≡ pages_of_columns table columns = ap (pages_of_columns table) (take-append-drop i columns) in
    omega (arith, whole, same)

-- the cause of a column, whose pages are as they were
pub rows_cause : (table : Table) (columns : List ℕ) (i : ℕ) (a b d : Seen) (fault : PageFault) → i < length columns → KeepsObjects a b → a.faults ≤ b.faults → fps.HasReadCause (fp_at table.place table.parts (slice_index columns i)) b d fault → HasRowsCause table columns a d fault
rows_cause table columns i a b d (Failed x y) within kept later h = rose_since _ _ _ _ _ later h
rows_cause table columns i a b d (BadPage named page) within kept later h =
    let fp = fp_at table.place table.parts (slice_index columns i) in (
      i,
      within,
      elim h [
        | inl codes ↦ inl (codes.0, codes.1, subst (λ (o : Option Pages). ¬ (HasSoundPage (CodesBelow (code_width fp.distinct) fp.distinct) fp.slots o page)) (kept.told fp.codes) codes.2)
        | inr values ↦ inr (values.0, values.1, subst (λ (o : Option Pages). ¬ (HasSoundPage (CellsOf fp.kind) fp.distinct o page)) (kept.told fp.values) values.2)
      ],
    )
rows_cause table columns i a b d NoMemory within kept later h = tt
