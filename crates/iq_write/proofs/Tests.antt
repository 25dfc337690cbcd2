-- What the tests of a write find over the tables that descriptors tell.
use Rattle.std.proofs.Common.{◌≡◌, ◌<◌, ◌≤◌, ◌+◌, ℕ, true, false, List, [], ◌∷◌, ◌++◌, Option, Some, None, length, refl, sym, ◌∙◌, ap, arith, get_or, nat_lt}
use Rattle.std.specs.Prelude.{is_some, nat_le}
use Rattle.std.specs.Option.{option_or}
use Rattle.std.proofs.lemmas.Bool.Decides.{nat_tests}
use Rattle.iq_base.specs.Shorts.{Name}
use Rattle.iq_base.specs.Limits.{row_limit}
use Rattle.iq_base.specs.declared.values.Value.{Value}
use Rattle.iq_base.specs.declared.schemas.Column.{Column}
use Rattle.iq_base.specs.declared.descriptors.Descriptor.{Descriptor}
use Rattle.iq_base.specs.declared.refusals.Refusal.{Refusal}
use Rattle.iq_base.specs.declared.refusals.Refusal.TheVariants as refusals
use Rattle.iq_ast.specs.declared.statements.Write.TheVariants as writes
use Rattle.iq_table.specs.Limits.{as_columns, limit_of}
use Rattle.iq_statements.specs.Checks.{Check, first_refusal}
use Rattle.iq_statements.specs.Named.{create_checks, on_table, fitting, first_bad_row}
use Rattle.iq_statements.specs.Room.{at_table, append_checks}
use Rattle.iq_statements.specs.Tables.{Table, Database, table_of}
use Rattle.iq_database.specs.Standing.{Describes, Describe, OfDescribed, as_indexes}
use Rattle.iq_database.specs.LookUps.{place_from}
use Rattle.iq_database.proofs.LookUps.{found, none_found, length-match}
use Rattle.iq_database.proofs.At.{describes_name, of_described, missing}
use Rattle.iq_write.specs.Effects.{drop_checks, insert_checks, all_checks}

-- a table of a name is there, or isn't
some_there : (name : Name) (ds : List Descriptor) (i : ℕ) (db : Database) → place_from 0 name ds ≡ Some i → Describe ds db → is_some (table_of name db) ≡ true
some_there name ds i db place m =
    let f = found (λ (place : ℕ) (d : Descriptor) (t : Table). Describes d t) describes_name 0 name ds db i 0 (place ∙ ap Some (omega arith)) m in
    rw f.table_is refl

none_there : (name : Name) (ds : List Descriptor) (db : Database) → place_from 0 name ds ≡ None → Describe ds db → table_of name db ≡ None
none_there name ds db place m = none_found (λ (place : ℕ) (d : Descriptor) (t : Table). Describes d t) describes_name 0 0 name ds db place m

many : (ds : List Descriptor) (db : Database) → Describe ds db → length ds ≡ length db
many ds db m = length-match (λ (place : ℕ) (d : Descriptor) (t : Table). Describes d t) 0 ds db m

-- CREATE TABLE

pub create_exists : (name : Name) (ds : List Descriptor) (i : ℕ) → place_from 0 name ds ≡ Some i → OfDescribed ds (λ db. first_refusal (create_checks name db) ≡ Some (refusals.TableExists name))
create_exists name ds i place = λ db m. rw (some_there name ds i db place m) refl

pub create_known : (name : Name) (ds : List Descriptor) → is_some (place_from 0 name ds) ≡ true → OfDescribed ds (λ db. first_refusal (create_checks name db) ≡ Some (refusals.TableExists name))
create_known name ds h = by_place (place_from 0 name ds) refl h
  where
    by_place : (o : Option ℕ) → place_from 0 name ds ≡ o → is_some o ≡ true → OfDescribed ds (λ db. first_refusal (create_checks name db) ≡ Some (refusals.TableExists name))
    by_place None is h = cc
    by_place (Some i) is h = create_exists name ds i is

pub none_known : (o : Option ℕ) → is_some o ≡ false → o ≡ None
none_known None h = refl
none_known (Some i) h = cc

pub create_full : (name : Name) (ds : List Descriptor) → place_from 0 name ds ≡ None → 64 ≤ length ds → OfDescribed ds (λ db. first_refusal (create_checks name db) ≡ Some refusals.CatalogFull)
create_full name ds place full = λ db m.
    let at : nat_le 64 (length db) ≡ true = yes (length db) (omega (arith, many ds db m)) in
    rw (none_there name ds db place m, at) refl
  where
    yes : (n : ℕ) → 64 ≤ n → nat_le 64 n ≡ true
    yes n h = grind (arith, nat_tests)

pub create_free : (name : Name) (ds : List Descriptor) → place_from 0 name ds ≡ None → length ds < 64 → OfDescribed ds (λ db. first_refusal (create_checks name db) ≡ None)
create_free name ds place few = λ db m.
    let at : nat_le 64 (length db) ≡ false = no (length db) (omega (arith, many ds db m)) in
    rw (none_there name ds db place m, at) refl
  where
    no : (n : ℕ) → n < 64 → nat_le 64 n ≡ false
    no n h = grind (arith, nat_tests)

-- DROP TABLE

pub drop_missing : (name : Name) (ds : List Descriptor) → place_from 0 name ds ≡ None → OfDescribed ds (λ db. first_refusal (drop_checks name db) ≡ Some (refusals.NoTable name))
drop_missing name ds place = missing name ds (λ (o : Option Table). first_refusal (on_table name o (λ t. [])) ≡ Some (refusals.NoTable name)) place refl

pub drop_known : (name : Name) (ds : List Descriptor) (i : ℕ) → place_from 0 name ds ≡ Some i → OfDescribed ds (λ db. first_refusal (drop_checks name db) ≡ None)
drop_known name ds i place = λ db m.
    let f = found (λ (place : ℕ) (d : Descriptor) (t : Table). Describes d t) describes_name 0 name ds db i 0 (place ∙ ap Some (omega arith)) m in
    rw f.table_is refl

-- INSERT

pub insert_missing : (name : Name) (rows : List (List Value)) (ds : List Descriptor) → place_from 0 name ds ≡ None → OfDescribed ds (λ db. first_refusal (insert_checks name rows db) ≡ Some (refusals.NoTable name))
insert_missing name rows ds place = missing name ds (λ (o : Option Table). first_refusal (on_table name o (λ t. fitting (first_bad_row 1 t.columns rows) ∷ [])) ≡ Some (refusals.NoTable name)) place refl

or_none : (o : Option Refusal) → option_or o None ≡ o
or_none None = refl
or_none (Some r) = refl

-- what the test of rows finds over the columns is what the tests of an INSERT find
pub insert_found : (name : Name) (rows : List (List Value)) (ds : List Descriptor) (i : ℕ) (at : Descriptor) (columns : List Column) (o : Option Refusal) → place_from 0 name ds ≡ Some i → at ≡ get_or ds i at → columns ≡ as_columns at.columns
    → first_bad_row 1 columns rows ≡ o → OfDescribed ds (λ db. first_refusal (insert_checks name rows db) ≡ o)
insert_found name rows ds i at columns o place is are found =
    of_described name ds i at (λ (p : Option Table). first_refusal (on_table name p (λ t. fitting (first_bad_row 1 t.columns rows) ∷ [])) ≡ o) place is
    (λ t h. or_none (first_bad_row 1 t.columns rows) ∙ ap (λ (cs : List Column). first_bad_row 1 cs rows) (sym (are ∙ h.columns_are)) ∙ found)

-- all tests of an INSERT, over the table of its name
abbrev pub insert_tests : Name → List (List Value) → Option Table → List Check
insert_tests name rows o = on_table name o (λ t. fitting (first_bad_row 1 t.columns rows) ∷ []) ++ at_table o (append_checks rows)

pub all_missing : (name : Name) (rows : List (List Value)) (ds : List Descriptor) → place_from 0 name ds ≡ None → OfDescribed ds (λ db. first_refusal (all_checks (writes.Insert name rows) db) ≡ Some (refusals.NoTable name))
all_missing name rows ds place = missing name ds (λ (o : Option Table). first_refusal (insert_tests name rows o) ≡ Some (refusals.NoTable name)) place refl

pub all_bad : (name : Name) (rows : List (List Value)) (ds : List Descriptor) (i : ℕ) (at : Descriptor) (columns : List Column) (e : Refusal) → place_from 0 name ds ≡ Some i → at ≡ get_or ds i at → columns ≡ as_columns at.columns
    → first_bad_row 1 columns rows ≡ Some e → OfDescribed ds (λ db. first_refusal (all_checks (writes.Insert name rows) db) ≡ Some e)
all_bad name rows ds i at columns e place is are found =
    of_described name ds i at (λ (o : Option Table). first_refusal (insert_tests name rows o) ≡ Some e) place is
    (λ t h. let bad : first_bad_row 1 t.columns rows ≡ Some e = ap (λ (cs : List Column). first_bad_row 1 cs rows) (sym (are ∙ h.columns_are)) ∙ found in rw bad refl)

-- a table without indexes
none_indexed : (at : Descriptor) (t : Table) → at.indexes ≡ [] → Describes at t → t.indexes ≡ []
none_indexed at t plain h = sym h.indexes_are ∙ ap as_indexes plain

limit_is : (at : Descriptor) (t : Table) → at.indexes ≡ [] → Describes at t → limit_of at ≡ row_limit t.columns false
limit_is at t plain h = rw plain (ap (λ (cs : List Column). row_limit cs false) h.columns_are)

pub all_granted : (name : Name) (rows : List (List Value)) (ds : List Descriptor) (i : ℕ) (at : Descriptor) (columns : List Column) → place_from 0 name ds ≡ Some i → at ≡ get_or ds i at → columns ≡ as_columns at.columns → at.indexes ≡ []
    → first_bad_row 1 columns rows ≡ None → at.slots + length rows ≤ limit_of at → OfDescribed ds (λ db. first_refusal (all_checks (writes.Insert name rows) db) ≡ None)
all_granted name rows ds i at columns place is are plain good room =
    of_described name ds i at (λ (o : Option Table). first_refusal (insert_tests name rows o) ≡ None) place is
    (λ t h.
    let fit : first_bad_row 1 t.columns rows ≡ None = ap (λ (cs : List Column). first_bad_row 1 cs rows) (sym (are ∙ h.columns_are)) ∙ good in
    let none : t.indexes ≡ [] = none_indexed at t plain h in
    let off : nat_lt (row_limit t.columns false) (length t.slots + length rows) ≡ false = no _ _ (omega (arith, room, limit_is at t plain h, h.slots_are)) in
    rw (fit, none, off) refl)
  where
    no : (a b : ℕ) → b ≤ a → nat_lt a b ≡ false
    no a b h = grind (arith, nat_tests)

pub all_full : (name : Name) (rows : List (List Value)) (ds : List Descriptor) (i : ℕ) (at : Descriptor) (columns : List Column) (limit : ℕ) → place_from 0 name ds ≡ Some i → at ≡ get_or ds i at → columns ≡ as_columns at.columns → at.indexes ≡ []
    → first_bad_row 1 columns rows ≡ None → limit ≡ limit_of at → limit < at.slots + length rows → OfDescribed ds (λ db. first_refusal (all_checks (writes.Insert name rows) db) ≡ Some (refusals.TableFull limit))
all_full name rows ds i at columns limit place is are plain good same full =
    of_described name ds i at (λ (o : Option Table). first_refusal (insert_tests name rows o) ≡ Some (refusals.TableFull limit)) place is
    (λ t h.
    let fit : first_bad_row 1 t.columns rows ≡ None = ap (λ (cs : List Column). first_bad_row 1 cs rows) (sym (are ∙ h.columns_are)) ∙ good in
    let none : t.indexes ≡ [] = none_indexed at t plain h in
    let limit_at : limit ≡ row_limit t.columns false = same ∙ limit_is at t plain h in
    let on : nat_lt (row_limit t.columns false) (length t.slots + length rows) ≡ true = yes _ _ (omega (arith, full, limit_at, h.slots_are)) in
    rw (fit, none, on, limit_at) refl)
  where
    yes : (a b : ℕ) → a < b → nat_lt a b ≡ true
    yes a b h = grind (arith, nat_tests)
