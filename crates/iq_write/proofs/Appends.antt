-- Why an INSERT isn't run.
use Rattle.std.proofs.Common.{◌≡◌, ◌≢◌, Bool, true, false, nat_lt, ◌<◌, ◌≤◌, ◌+◌, ℕ, List, [], Option, Some, None, Result, Ok, Err, ◌⊎◌, inl, inr, sym, ◌∙◌, ap, subst, get_or, length, arith, refl}
use Rattle.std.specs.Prelude.{◌/◌}
use Rattle.std.specs.List.{All}
use Rattle.std.proofs.Math.ListN.{set}
use Rattle.std.proofs.lemmas.List.{get_or_default}
use Rattle.std.proofs.lemmas.Bool.Decides.{nat_tests}
use Rattle.iq_base.specs.Shorts.{Name}
use Rattle.iq_base.specs.declared.values.Value.{Value}
use Rattle.iq_base.specs.declared.schemas.Column.{Column}
use Rattle.iq_base.specs.declared.descriptors.Descriptor.{Descriptor}
use Rattle.iq_base.specs.declared.refusals.Refusal.{Refusal}
use Rattle.iq_base.specs.declared.refusals.Refusal.TheVariants as refusals
use Rattle.iq_ast.specs.declared.statements.Write.TheVariants as writes
use Rattle.iq_pages.specs.Pages.{Pages, Seen}
use Rattle.iq_table.specs.declared.table.Table.{Table}
use Rattle.iq_table.specs.Table.{StandsForMore}
use Rattle.iq_table.specs.declared.faults.TableFault.{TableFault}
use Rattle.iq_table.specs.declared.faults.TableFault.TheVariants as faults
use Rattle.iq_table.specs.Limits.{as_columns, limit_of}
use Rattle.iq_table.specs.Calls.{HasAppendCause, HasGrown}
use Rattle.iq_statements.specs.Named.{first_bad_row}
use Rattle.iq_statements.specs.Tables.{with_rows}
use Rattle.iq_database.specs.Standing.{Describes, StandsAt}
use Rattle.iq_database.specs.LookUps.{place_from}
use Rattle.iq_database.proofs.At.{got_there}
use Rattle.iq_write.specs.Simple.{ArePlain}
use Rattle.iq_write.specs.Effects.{HasEffect, HasWriteCause, table_refusal}
use Rattle.iq_write.proofs.Tests.{all_missing, all_bad, all_full, all_granted}
use Rattle.iq_write.proofs.Changes.{describes_more, stands_more, insert_tells, insert_stands}
use Rattle.iq_write.proofs.Lists.{plain_set}

pub missing_cause : (name : Name) (rows : List (List Value)) (ds : List Descriptor) (before after : Seen) → place_from 0 name ds ≡ None → HasWriteCause ds (writes.Insert name rows) before after (refusals.NoTable name)
missing_cause name rows ds before after place = inl (all_missing name rows ds place)

pub bad_cause : (name : Name) (rows : List (List Value)) (ds : List Descriptor) (i : ℕ) (at : Descriptor) (columns : List Column) (before after : Seen) (e : Refusal) → place_from 0 name ds ≡ Some i → at ≡ get_or ds i at → columns ≡ as_columns at.columns
    → (e ≡ refusals.NoMemory) ⊎ (first_bad_row 1 columns rows ≡ Some e) → HasWriteCause ds (writes.Insert name rows) before after e
bad_cause name rows ds i at columns before after e place is are (inl memory) = inr (inr memory)
bad_cause name rows ds i at columns before after e place is are (inr found) = inl (all_bad name rows ds i at columns e place is are found)

pub append_cause : (name : Name) (rows : List (List Value)) (ds : List Descriptor) (i : ℕ) (at : Descriptor) (columns : List Column) (before after : Seen) (fault : TableFault) → place_from 0 name ds ≡ Some i → i < length ds → at ≡ get_or ds i at → columns ≡ as_columns at.columns
    → at.indexes ≡ [] → first_bad_row 1 columns rows ≡ None → HasAppendCause (record { place = i; parts = at }) (length rows) before after fault → HasWriteCause ds (writes.Insert name rows) before after (table_refusal fault)
append_cause name rows ds i at columns before after (faults.Failed x y) place less is are plain good h = inr (inl (record { fault = faults.Failed x y; of_pages = tt; cause_is = refl; place = i; table = at; there = got_there ds i at less is; why = h }))
append_cause name rows ds i at columns before after (faults.BadPage object page) place less is are plain good h = inr (inl (record { fault = faults.BadPage object page; of_pages = tt; cause_is = refl; place = i; table = at; there = got_there ds i at less is; why = h }))
append_cause name rows ds i at columns before after faults.NoMemory place less is are plain good h = inr (inr refl)
append_cause name rows ds i at columns before after (faults.TableFull limit) place less is are plain good h = inl (all_full name rows ds i at columns limit place is are plain good h.0 h.1)

-- where rows were put in, they found room
pub room_left : {A E : Type 0} (limit n : ℕ) (r : Result A E) (e : E) (x : A) (Q : Type 0) → (limit < n → (r ≡ Err e) × Q) → r ≡ Ok x → n ≤ limit
room_left limit n r e x Q f is = by_test (nat_lt limit n) refl
  where
    yes : nat_lt limit n ≡ true → limit < n
    yes h = grind (arith, nat_tests)

    no : nat_lt limit n ≡ false → n ≤ limit
    no h = grind (arith, nat_tests)

    by_test : (b : Bool) → nat_lt limit n ≡ b → n ≤ limit
    by_test true h = let clash : Err e ≡ Ok x = sym (f (yes h)).0 ∙ is in cc
    by_test false h = no h

-- what is said of all descriptors is said of the one that was read
pub read_of_all : (P : Descriptor → Type 0) (ds : List Descriptor) (i : ℕ) (at : Descriptor) → i < length ds → at ≡ get_or ds i at → All P ds → P at
read_of_all P ds i at less is all = subst P (sym is) (all i at less)

-- a table that has grown bears its name, and has as many columns and the indexes that it had
pub set_plain : (ds : List Descriptor) (i : ℕ) (at : Descriptor) (old new : Table) (more : ℕ) → i < length ds → at ≡ get_or ds i at → old.parts ≡ at → HasGrown old new more → ArePlain ds → ArePlain (set ds i new.parts)
set_plain ds i at old new more less is copy grown h =
    let name : new.parts.name ≡ at.name = ap (λ (x : Table). x.parts.name) grown.rest ∙ ap (λ (d : Descriptor). d.name) copy in
    let narrow = read_of_all (λ (d : Descriptor). length d.columns ≤ 32) ds i at less is h.tables.narrow in
    let plain = read_of_all (λ (d : Descriptor). d.indexes ≡ []) ds i at less is h.plain in
    plain_set ds i new.parts (name ∙ ap (λ (d : Descriptor). d.name) (is ∙ get_or_default ds i at new.parts less)) (omega (arith, narrow, grown.columns.long, ap (λ (d : Descriptor). length d.columns) copy))
    (ap (λ (x : Table). x.parts.indexes) grown.rest ∙ ap (λ (d : Descriptor). d.indexes) copy ∙ plain) h

-- an INSERT took effect
pub insert_effect : (name : Name) (rows put : List (List Value)) (ds : List Descriptor) (i : ℕ) (at : Descriptor) (columns : List Column) (old new : Table) (told told' : ℕ → Option Pages) → place_from 0 name ds ≡ Some i → i < length ds → at ≡ get_or ds i at → columns ≡ as_columns at.columns
    → ArePlain ds → old.place ≡ i → old.parts ≡ at → put ≡ rows → first_bad_row 1 columns rows ≡ None → at.slots + length rows ≤ limit_of at → HasGrown old new (length put) → StandsForMore old new put told told' → ((object : ℕ) → object / 256 ≢ i → told' object ≡ told object)
    → HasEffect (writes.Insert name rows) ds (set ds i new.parts) told told'
insert_effect name rows put ds i at columns old new told told' there less is are h place copy same good room grown gains kept =
    let plain = read_of_all (λ (d : Descriptor). d.indexes ≡ []) ds i at less is h.plain in
    let grown' : HasGrown old new (length rows) = subst (λ (rs : List (List Value)). HasGrown old new (length rs)) same grown in
    let gains' : StandsForMore old new rows told told' = subst (λ (rs : List (List Value)). StandsForMore old new rs told told') same gains in
    record {
      granted = all_granted name rows ds i at columns there is are plain good room;
      tells = insert_tells name rows ds i at new.parts there is (λ t d. describes_more old new t rows grown' (subst (λ (x : Descriptor). Describes x t) (sym copy) d));
      stands = insert_stands name rows ds i at new.parts told told' there is
          (λ t s. subst (λ (p : ℕ). StandsAt told' p new.parts (with_rows rows t)) place
          (stands_more old new t rows told told' grown' gains' (subst (λ (x : Descriptor). StandsAt told old.place x t) (sym copy) (subst (λ (p : ℕ). StandsAt told p at t) (sym place) s))))
          kept;
    }
