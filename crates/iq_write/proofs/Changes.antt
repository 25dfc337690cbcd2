-- What a write does to descriptors and to what they stand for.
use Rattle.std.proofs.Common.{◌≡◌, ◌≢◌, ◌<◌, ◌≤◌, ◌+◌, ◌*◌, ℕ, suc, true, false, List, [], ◌∷◌, ◌++◌, Option, Some, length, map, replicate, refl, sym, ◌∙◌, ap, subst, arith, get_or, nat_lt, nat_eq}
use Rattle.std.specs.Prelude.{◌/◌, insert, remove}
use Rattle.std.proofs.Math.ListN.{set}
use Rattle.std.proofs.lemmas.List.{length-map, length-append}
use Rattle.std.proofs.lemmas.Bool.Decides.{nat_tests}
use Rattle.iq_base.specs.Shorts.{Name}
use Rattle.iq_base.specs.declared.values.Value.{Value}
use Rattle.iq_base.specs.declared.schemas.Column.{Column}
use Rattle.iq_base.specs.declared.values.Kind.{Kind}
use Rattle.iq_cells.specs.Growing.{kinds_of}
use Rattle.iq_base.specs.declared.descriptors.ColumnPart.{ColumnPart}
use Rattle.iq_base.specs.declared.descriptors.Descriptor.{Descriptor}
use Rattle.iq_ast.specs.declared.statements.Write.TheVariants as writes
use Rattle.iq_pages.specs.Pages.{Pages}
use Rattle.iq_table.specs.declared.table.Table.{Table as PagedTable}
use Rattle.iq_base.specs.Cells.{width}
use Rattle.iq_fp.specs.Forms.{code_width}
use Rattle.iq_fp.proofs.ColumnLaws.{begins}
use Rattle.iq_table.proofs.Making.{unused_new}
use Rattle.iq_table.specs.Places.{as_column, new_part, part_at, part_kinds, fp_at}
use Rattle.iq_table.specs.Limits.{as_columns}
use Rattle.iq_table.specs.Table.{TableStands, StandsForMore}
use Rattle.iq_table.specs.Calls.{new_parts, HasGrown, IsPartGrown}
use Rattle.iq_statements.specs.Tables.{Table, Database, placed, empty_table, without_table, with_rows, live_slot}
use Rattle.iq_statements.specs.Effects.{effect}
use Rattle.iq_database.specs.Standing.{Describes, Describe, StandsAt, Stand, as_indexes, slot_rows, slot_bits, coming_at, going_at, AreDistinct}
use Rattle.iq_database.specs.LookUps.{place_from, before_from}
use Rattle.iq_database.proofs.LookUps.{replaced_match, placed_match, removed_match, table_of-named}
use Rattle.iq_database.proofs.Frames.{stands_moved}
use Rattle.iq_database.proofs.At.{describes_name, stands_name, found_at}
use Rattle.iq_database.proofs.Slots.{rows_more, bits_more}

-- ROWS PUT INTO A TABLE

columns_grown : (olds news : List ColumnPart) (more : ℕ) → length news ≡ length olds → ((c : ℕ) → c < length olds → IsPartGrown more (part_at c olds) (part_at c news)) → as_columns news ≡ as_columns olds
columns_grown [] [] more long each = refl
columns_grown [] (new ∷ news) more long each = absurd (omega (arith, long))
columns_grown (old ∷ olds) [] more long each = absurd (omega (arith, long))
columns_grown (old ∷ olds) (new ∷ news) more long each =
    ap (λ (column : Column). column ∷ as_columns news) (ap as_column (each 0 (omega arith)).rest)
    ∙ ap (λ (columns : List Column). as_column old ∷ columns) (columns_grown olds news more (omega (arith, long)) (λ c h. each (suc c) (omega (arith, h))))

-- what columns may hold, by the descriptor
pub kinds_as : (parts : List ColumnPart) → kinds_of (as_columns parts) ≡ part_kinds parts
kinds_as [] = refl
kinds_as (part ∷ parts) = ap (λ (kinds : List Kind). part.kind ∷ kinds) (kinds_as parts)

-- the descriptor of a table that has grown tells the plain one with more rows
pub describes_more : (old new : PagedTable) (t : Table) (rows : List (List Value)) → HasGrown old new (length rows) → Describes old.parts t → Describes new.parts (with_rows rows t)
describes_more old new t rows grown h = record {
  name_is = ap (λ (x : PagedTable). x.parts.name) grown.rest ∙ h.name_is;
  columns_are = columns_grown old.parts.columns new.parts.columns (length rows) grown.columns.long grown.columns.each ∙ h.columns_are;
  indexes_are = ap (λ (x : PagedTable). as_indexes x.parts.indexes) grown.rest ∙ h.indexes_are;
  slots_are = omega (arith, grown.slots, h.slots_are, length-append t.slots (map live_slot rows), length-map rows live_slot);
}

-- and its pages stand for it
pub stands_more : (old new : PagedTable) (t : Table) (rows : List (List Value)) (told told' : ℕ → Option Pages) → HasGrown old new (length rows) → StandsForMore old new rows told told' → StandsAt told old.place old.parts t → StandsAt told' old.place new.parts (with_rows rows t)
stands_more old new t rows told told' grown gains s = record {
  describes = describes_more old new t rows grown s.describes;
  holds =
      rw (rows_more t rows, bits_more t rows)
      (subst (λ (p : ℕ). TableStands told' p new.parts (slot_rows t ++ rows) (slot_bits t ++ replicate (length rows) true)) (ap (λ (x : PagedTable). x.place) grown.rest)
      (gains (slot_rows t) (slot_bits t) s.holds));
}

-- so the descriptors tell the effect, and with the pages stand for it
pub insert_tells : (name : Name) (rows : List (List Value)) (ds : List Descriptor) (i : ℕ) (at new : Descriptor) → place_from 0 name ds ≡ Some i → at ≡ get_or ds i at → ((t : Table) → Describes at t → Describes new (with_rows rows t))
    → (db : Database) → Describe ds db → Describe (set ds i new) (effect (writes.Insert name rows) db)
insert_tells name rows ds i at new place is more db m =
    let f = found_at (λ (place : ℕ) (d : Descriptor) (t : Table). Describes d t) describes_name name ds db i at place is m in
    rw f.1
    (replaced_match (λ (place : ℕ) (d : Descriptor) (t : Table). Describes d t) (λ (place : ℕ) (d : Descriptor) (t : Table). Describes d t) describes_name 0 name ds db i 0 new (with_rows rows f.0)
    (place ∙ ap Some (omega arith)) (table_of-named name db f.0 f.1) (more f.0 f.2) (λ q d t other h. h) m)

pub insert_stands : (name : Name) (rows : List (List Value)) (ds : List Descriptor) (i : ℕ) (at new : Descriptor) (told told' : ℕ → Option Pages) → place_from 0 name ds ≡ Some i → at ≡ get_or ds i at
    → ((t : Table) → StandsAt told i at t → StandsAt told' i new (with_rows rows t)) → ((object : ℕ) → object / 256 ≢ i → told' object ≡ told object)
    → (db : Database) → Stand told ds db → Stand told' (set ds i new) (effect (writes.Insert name rows) db)
insert_stands name rows ds i at new told told' place is more kept db m =
    let f = found_at (StandsAt told) (stands_name told) name ds db i at place is m in
    rw f.1
    (replaced_match (StandsAt told) (StandsAt told') (stands_name told) 0 name ds db i 0 new (with_rows rows f.0)
    (place ∙ ap Some (omega arith)) (table_of-named name db f.0 f.1) (subst (λ (q : ℕ). StandsAt told' q new (with_rows rows f.0)) (omega arith) (more f.0 f.2))
    (λ q d t other h. stands_moved told told' q q d t (λ k small. kept (256 * q + k) (λ same. other (let here : (256 * q + k) / 256 ≡ q = omega (arith, small) in omega (arith, here, same)))) h) m)

-- A TABLE WITHOUT ROWS

columns_new : (columns : List Column) → as_columns (map new_part columns) ≡ columns
columns_new [] = refl
columns_new (column ∷ columns) = ap (λ (cs : List Column). column ∷ cs) (columns_new columns)

pub describes_new : (name : Name) (columns : List Column) → Describes (new_parts name columns) (empty_table name columns)
describes_new name columns = record { name_is = refl; columns_are = columns_new columns; indexes_are = refl; slots_are = refl }

pub create_tells : (name : Name) (columns : List Column) (ds : List Descriptor) (db : Database) → Describe ds db → Describe (insert ds (before_from 0 name ds) (new_parts name columns)) (placed (empty_table name columns) db)
create_tells name columns ds db m =
    placed_match (λ (place : ℕ) (d : Descriptor) (t : Table). Describes d t) (λ (place : ℕ) (d : Descriptor) (t : Table). Describes d t) describes_name 0 ds db (new_parts name columns) (empty_table name columns)
    (describes_new name columns) (λ q d t less h. h) (λ q d t less h. h) m

-- objects before a table that comes, and behind it
before_coming : (place : ℕ) (told : ℕ → Option Pages) (q k : ℕ) → q < place → k < 256 → coming_at place told (256 * q + k) ≡ told (256 * q + k)
before_coming place told q k less small =
    let here : (256 * q + k) / 256 ≡ q = omega (arith, small) in
    let on : nat_lt ((256 * q + k) / 256) place ≡ true = rw here (yes q place less) in
    rw on refl
  where
    yes : (a b : ℕ) → a < b → nat_lt a b ≡ true
    yes a b h = grind (arith, nat_tests)

behind_coming : (place : ℕ) (told : ℕ → Option Pages) (q k : ℕ) → place ≤ q → k < 256 → coming_at place told (256 * (q + 1) + k) ≡ told (256 * q + k)
behind_coming place told q k less small =
    let here : (256 * (q + 1) + k) / 256 ≡ q + 1 = omega (arith, small) in
    let off : nat_lt ((256 * (q + 1) + k) / 256) place ≡ false = rw here (no (q + 1) place (omega (arith, less))) in
    let other : nat_eq ((256 * (q + 1) + k) / 256) place ≡ false = rw here (differ (q + 1) place (omega (arith, less))) in
    rw (off, other) (ap told (omega arith))
  where
    no : (a b : ℕ) → b ≤ a → nat_lt a b ≡ false
    no a b h = grind (arith, nat_tests)

    differ : (a b : ℕ) → b < a → nat_eq a b ≡ false
    differ a b h = grind (arith, nat_tests)

-- the objects of the table that comes have no pages
of_coming : (place : ℕ) (told : ℕ → Option Pages) (k : ℕ) → k < 256 → coming_at place told (256 * place + k) ≡ Some []
of_coming place told k small =
    let here : (256 * place + k) / 256 ≡ place = omega (arith, small) in
    let off : nat_lt ((256 * place + k) / 256) place ≡ false = rw here (no place) in
    let on : nat_eq ((256 * place + k) / 256) place ≡ true = rw here (yes place) in
    rw (off, on) refl
  where
    no : (a : ℕ) → nat_lt a a ≡ false
    no a = grind (arith, nat_tests)

    yes : (a : ℕ) → nat_eq a a ≡ true
    yes a = grind (arith, nat_tests)

-- cells of columns fit pages
abbrev pub FitPages : List ColumnPart → Type 0
FitPages parts = (c : ℕ) → c < length parts → (2 ≤ width (part_at c parts).kind) × (width (part_at c parts).kind ≤ 257)

-- so a table without rows stands on such objects
pub empty_stands : (name : Name) (columns : List Column) (place : ℕ) (told : ℕ → Option Pages) → length columns ≤ 32 → FitPages (map new_part columns) → ((k : ℕ) → k < 256 → told (256 * place + k) ≡ Some []) → StandsAt told place (new_parts name columns) (empty_table name columns)
empty_stands name columns place told few fit empty =
    let unused = unused_new name columns in
    let long : length (map new_part columns) ≡ length columns = length-map columns new_part in
    record {
      describes = describes_new name columns;
      holds = record {
        few = omega (arith, few, long);
        slots = refl;
        bits = refl;
        shapes = λ r h. absurd (omega (arith, h));
        existence = record { pages = []; told_is = ap told (omega arith) ∙ empty 0 (omega arith); count = refl; held = λ chunk h. absurd (omega (arith, h)) };
        columns = λ c h.
            begins (fp_at place (new_parts name columns) c) (fit c h).0 (fit c h).1 refl (unused.distinct c h) told
            (ap told (omega arith) ∙ empty (1 + 2 * c) (omega (arith, h, long, few))) (ap told (omega arith) ∙ empty (2 + 2 * c) (omega (arith, h, long, few)));
        forms = λ c h. unused.forms c h ∙ sym (ap code_width (unused.distinct c h));
      };
    }

pub create_stands : (name : Name) (columns : List Column) (ds : List Descriptor) → length columns ≤ 32 → FitPages (map new_part columns) → (told : ℕ → Option Pages) (db : Database) → Stand told ds db
    → Stand (coming_at (before_from 0 name ds) told) (insert ds (before_from 0 name ds) (new_parts name columns)) (placed (empty_table name columns) db)
create_stands name columns ds few fit told db m =
    let place = before_from 0 name ds in
    placed_match (StandsAt told) (StandsAt (coming_at place told)) (stands_name told) 0 ds db (new_parts name columns) (empty_table name columns)
    (subst (λ (q : ℕ). StandsAt (coming_at place told) q (new_parts name columns) (empty_table name columns)) (omega arith) (empty_stands name columns place (coming_at place told) few fit (of_coming place told)))
    (λ q d t less h. stands_moved told (coming_at place told) q q d t (λ k small. before_coming place told q k (omega (arith, less)) small) h)
    (λ q d t less h. stands_moved told (coming_at place told) q (q + 1) d t (λ k small. behind_coming place told q k (omega (arith, less)) small) h)
    m

-- A TABLE THAT GOES

pub remove_tells : (name : Name) (ds : List Descriptor) (i : ℕ) (db : Database) → place_from 0 name ds ≡ Some i → AreDistinct ds → Describe ds db → Describe (remove ds i) (without_table name db)
remove_tells name ds i db place distinct m =
    removed_match (λ (place : ℕ) (d : Descriptor) (t : Table). Describes d t) (λ (place : ℕ) (d : Descriptor) (t : Table). Describes d t) describes_name 0 name ds db i 0 (place ∙ ap Some (omega arith)) distinct (λ q d t less h. h) (λ q d t less h. h) m

before_going : (place : ℕ) (told : ℕ → Option Pages) (q k : ℕ) → q < place → k < 256 → going_at place told (256 * q + k) ≡ told (256 * q + k)
before_going place told q k less small =
    let here : (256 * q + k) / 256 ≡ q = omega (arith, small) in
    let on : nat_lt ((256 * q + k) / 256) place ≡ true = rw here (yes q place less) in
    rw on refl
  where
    yes : (a b : ℕ) → a < b → nat_lt a b ≡ true
    yes a b h = grind (arith, nat_tests)

behind_going : (place : ℕ) (told : ℕ → Option Pages) (q k : ℕ) → place ≤ q → k < 256 → going_at place told (256 * q + k) ≡ told (256 * (q + 1) + k)
behind_going place told q k less small =
    let here : (256 * q + k) / 256 ≡ q = omega (arith, small) in
    let off : nat_lt ((256 * q + k) / 256) place ≡ false = rw here (no q place less) in
    rw off (ap told (omega arith))
  where
    no : (a b : ℕ) → b ≤ a → nat_lt a b ≡ false
    no a b h = grind (arith, nat_tests)

pub remove_stands : (name : Name) (ds : List Descriptor) (i : ℕ) → place_from 0 name ds ≡ Some i → AreDistinct ds → (told : ℕ → Option Pages) (db : Database) → Stand told ds db → Stand (going_at i told) (remove ds i) (without_table name db)
remove_stands name ds i place distinct told db m =
    removed_match (StandsAt told) (StandsAt (going_at i told)) (stands_name told) 0 name ds db i 0 (place ∙ ap Some (omega arith)) distinct
    (λ q d t less h. stands_moved told (going_at i told) q q d t (λ k small. before_going i told q k (omega (arith, less)) small) h)
    (λ q d t less h. stands_moved told (going_at i told) (q + 1) q d t (λ k small. behind_going i told q k (omega (arith, less)) small) h)
    m
