-- What a query reads of one table.
use Rattle.std.proofs.Common.{◌≡◌, ◌≤◌, ℕ, Bool, List, Option, length, map, sym, ◌∙◌, ap, subst, arith, inl, inr, Result, Ok, Err}
use Rattle.std.specs.Prelude.{count_by, IfErr, slice_index}
use Rattle.iq_base.specs.declared.values.Value.{Value}
use Rattle.iq_pages.specs.declared.page_faults.PageFault.{PageFault}
use Rattle.iq_pages.specs.declared.page_faults.PageFault.TheVariants.{Failed, BadPage, NoMemory}
use Rattle.iq_pages.specs.Pages.{Pages, Seen, KeepsObjects}
use Rattle.iq_bitmap.specs.Bits.{rows_from}
use Rattle.iq_cells.specs.Tables.{row_at}
use Rattle.iq_chunks.specs.Chunks.{HasBitsCause}
use Rattle.iq_table.specs.declared.table.Table.{Table}
use Rattle.iq_table.specs.Places.{existence_of}
use Rattle.iq_table.specs.Table.{TableStands, GivesRows, values_at}
use Rattle.iq_table.specs.Calls.{HasRowsCause}
use Rattle.iq_table.proofs.Readings.{rows_cause}
use Rattle.iq_ast.specs.declared.conditions.Test.{Test}
use Rattle.iq_statements.specs.Tables.{Table as PlainTable}
use Rattle.iq_database.specs.Standing.{StandsAt, slot_rows, slot_bits}
use Rattle.iq_database.proofs.Slots.{kept_by_place, kept_counted}
use Rattle.iq_predicate.specs.Calls.{HasTableCause}
use Rattle.iq_query.specs.Calls.{AreWithin, is_kept, chosen, is_chosen}

-- how many rows are chosen
pub rows_counted : (test : Option Test) (t : PlainTable) (set : List Bool) → set ≡ map (is_chosen t.columns test) t.slots → count_by (λ on. on) set ≡ length (chosen test t)
rows_counted test t set are = ap (count_by (λ on. on)) are ∙ kept_counted (is_kept t.columns test) t

-- what was read of the rows that are chosen, of pages that are the same
pub rows_read : (table : Table) (told told' : ℕ → Option Pages) (test : Option Test) (t : PlainTable) (places : List ℕ) (set : List Bool) (got : List (List Value)) → ((object : ℕ) → told' object ≡ told object)
    → set ≡ map (is_chosen t.columns test) t.slots → GivesRows table told' set places got → StandsAt told table.place table.parts t → got ≡ map (values_at places) (chosen test t)
rows_read table told told' test t places set got same are rows stands =
    let there : TableStands told' table.place table.parts (slot_rows t) (slot_bits t) =
    subst (λ (pages : ℕ → Option Pages). TableStands pages table.place table.parts (slot_rows t) (slot_bits t)) (λ i object. sym (same object) i) stands.holds in
    rows (slot_rows t) (slot_bits t) there
    ∙ ap (λ (bits : List Bool). map (λ (r : ℕ). values_at places (row_at r (slot_rows t))) (rows_from 0 bits)) are
    ∙ kept_by_place (values_at places) (is_kept t.columns test) t

-- why bits or columns aren't read, as of the table
pub bits_cause : (table : Table) (a d : Seen) (fault : PageFault) → HasBitsCause (existence_of table.place) table.parts.slots a d fault → HasTableCause table.place table.parts a d fault
bits_cause table a d (Failed x y) h = h
bits_cause table a d (BadPage object page) h = inl h
bits_cause table a d NoMemory h = tt

pub columns_cause : (table : Table) (columns : List ℕ) (a b d : Seen) (fault : PageFault) → AreWithin (length table.parts.columns) columns → KeepsObjects a b → a.faults ≤ b.faults → HasRowsCause table columns b d fault → HasTableCause table.place table.parts a d fault
columns_cause table columns a b d (Failed x y) within kept later h = record { since = omega (arith, h.since, later); risen = h.risen; until = h.until }
columns_cause table columns a b d (BadPage object page) within kept later h =
    let moved = rows_cause table columns h.0 a b d (BadPage object page) h.1 kept later h.2 in
    inr (slice_index columns moved.0, within moved.0 moved.1, moved.2)
columns_cause table columns a b d NoMemory within kept later h = tt

pub if_err : {A E : Type 0} (P Q : E → Type 0) (r : Result A E) → ((e : E) → P e → Q e) → IfErr r P → IfErr r Q
if_err P Q (Ok x) f p = tt
if_err P Q (Err e) f p = f e p
