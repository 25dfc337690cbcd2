-- What is told of descriptors and pages is told of the tables for which they stand.
use Rattle.std.proofs.Common.{◌≡◌, ◌≢◌, ◌<◌, ◌≤◌, ℕ, ◌+◌, Bool, true, false, cond, List, [], ◌∷◌, Option, Some, None, nat_eq, slice_set, slice_index_or, Result, Ok, Err, ◌⊎◌, inl, inr, refl, sym, ◌∙◌, ap, subst, arith, length}
use Rattle.std.specs.Prelude.{◌/◌, ◌%◌, OnOk, IfErr}
use Rattle.iq_base.specs.declared.refusals.Refusal.{Refusal}
use Rattle.iq_base.specs.declared.refusals.Refusal.TheVariants as refusals
use Rattle.iq_base.specs.declared.descriptors.Descriptor.{Descriptor}
use Rattle.iq_ast.specs.declared.statements.Write.{Write}
use Rattle.iq_ast.specs.declared.statements.Select.{Select}
use Rattle.iq_pages.specs.Pages.{Seen}
use Rattle.iq_statements.specs.Checks.{Check, first_refusal}
use Rattle.iq_base.specs.Shorts.{Name}
use Rattle.iq_base.specs.declared.schemas.Schema.{Schema}
use Rattle.iq_ast.specs.declared.statements.Write.TheVariants as writes
use Rattle.iq_history.specs.Placed.{IsPlacedRefusal}
use Rattle.iq_conditions.specs.Servers.{same_name}
use Rattle.iq_statements.specs.Effects.{effect, count}
use Rattle.iq_statements.specs.Tables.{Table, Database, table_of, without_table}
use Rattle.iq_statements.specs.Named.{query_checks}
use Rattle.iq_table.specs.declared.faults.TableFault.{TableFault}
use Rattle.iq_table.specs.declared.faults.TableFault.TheVariants as faults
use Rattle.iq_pages.specs.declared.page_faults.PageFault.{PageFault}
use Rattle.iq_pages.specs.declared.page_faults.PageFault.TheVariants as pages
use Rattle.iq_database.specs.Standing.{Describes, Describe, Stand, OfDescribed, coming_at, going_at}
use Rattle.iq_database.specs.LookUps.{place_from, before_from}
use Rattle.iq_database.proofs.LookUps.{length-match}
use Rattle.iq_database.proofs.Frames.{described, stands_on}
use Rattle.iq_query.specs.Calls.{HasQueryCause, page_refusal}
use Rattle.iq_write.specs.Effects.{HasWriteCause, HasEffect, IsOfPages, all_checks, table_refusal, gone_from, changed_place, drop_checks}
use Rattle.iq_write.proofs.Tests.{all_missing, drop_missing}
use Rattle.iq_memory.specs.declared.sure_pages.SurePages.{SurePages}
use Rattle.iq_memory.specs.declared.tables.MemoryTables.{MemoryTables}
use Rattle.iq_memory.specs.Told.{told_in, AreKept}
use Rattle.iq_memory.proofs.Places.{get_set_same, get_set_other, got}
use Rattle.std.proofs.lemmas.Bool.{eqb-true, eqb-false}
use Rattle.iq_base.specs.declared.values.Value.{Value}
use Rattle.iq_memory.specs.Holding.{Hold, OfHeld, IsCause, HasWritten}

-- RESULTS

pub on_ok : {X E : Type 0} (r : Result X E) (A B : Type 0) → (A → B) → OnOk r A → OnOk r B
on_ok (Ok x) A B f h = f h
on_ok (Err e) A B f h = tt

pub if_err : {X E : Type 0} (r : Result X E) (P Q : E → Type 0) → ((e : E) → P e → Q e) → IfErr r P → IfErr r Q
if_err (Ok x) P Q f h = tt
if_err (Err e) P Q f h = f e h

-- DATABASES

pub of_held : (t : MemoryTables) (ds : List Descriptor) (P : Database → Type 0) → ds ≡ t.parts.items → OfDescribed ds P → OfHeld t P
of_held t ds P same f = λ db h. f db (subst (λ (xs : List Descriptor). Describe xs db) (sym same) (described (told_in t.pages.tables.items) t.parts.items db h))

-- tests found it, or memory wants
pub checked_cause : (t : MemoryTables) (ds : List Descriptor) (checks : Database → List Check) (e : Refusal) → ds ≡ t.parts.items → (e ≡ refusals.NoMemory) ⊎ OfDescribed ds (λ db. first_refusal (checks db) ≡ Some e) → IsCause t checks e
checked_cause t ds checks e same (inl memory) = inl memory
checked_cause t ds checks e same (inr found) = inr (of_held t ds (λ db. first_refusal (checks db) ≡ Some e) same found)

-- the same as it is told: a fault of pages is want of memory
pub record IsSure (cause told : Refusal) : Type 0 where
  pub same : (told ≡ cause) ⊎ (told ≡ refusals.NoMemory)
  pub fault : (x y : ℕ) → cause ≡ refusals.StoreFault x y → told ≡ refusals.NoMemory
  pub page : (object n : ℕ) → cause ≡ refusals.BadPage object n → told ≡ refusals.NoMemory

found_told : (t : MemoryTables) (checks : Database → List Check) (cause told : Refusal) → (told ≡ cause) ⊎ (told ≡ refusals.NoMemory) → OfHeld t (λ db. first_refusal (checks db) ≡ Some cause) → IsCause t checks told
found_told t checks cause told (inl same) found = inr (λ db h. found db h ∙ ap Some (sym same))
found_told t checks cause told (inr memory) found = inl memory

memory_told : (t : MemoryTables) (checks : Database → List Check) (cause told : Refusal) → (told ≡ cause) ⊎ (told ≡ refusals.NoMemory) → cause ≡ refusals.NoMemory → IsCause t checks told
memory_told t checks cause told (inl same) is = inl (same ∙ is)
memory_told t checks cause told (inr memory) is = inl memory

written_fault : (cause told : Refusal) (fault : TableFault) → IsSure cause told → IsOfPages fault → cause ≡ table_refusal fault → told ≡ refusals.NoMemory
written_fault cause told (faults.Failed x y) sure of_pages is = sure.fault x y is
written_fault cause told (faults.BadPage object page) sure of_pages is = sure.page object page is
written_fault cause told faults.NoMemory sure of_pages is = absurd of_pages
written_fault cause told (faults.TableFull limit) sure of_pages is = absurd of_pages

pub write_cause : (t : MemoryTables) (ds : List Descriptor) (write : Write) (before after : Seen) (cause told : Refusal) → ds ≡ t.parts.items → IsSure cause told → HasWriteCause ds write before after cause → IsCause t (all_checks write) told
write_cause t ds write before after cause told same sure (inl found) = found_told t (all_checks write) cause told sure.same (of_held t ds (λ db. first_refusal (all_checks write db) ≡ Some cause) same found)
write_cause t ds write before after cause told same sure (inr (inl unwritten)) = inl (written_fault cause told unwritten.fault sure unwritten.of_pages unwritten.cause_is)
write_cause t ds write before after cause told same sure (inr (inr memory)) = memory_told t (all_checks write) cause told sure.same memory

read_fault : (cause told : Refusal) (fault : PageFault) → IsSure cause told → cause ≡ page_refusal fault → told ≡ refusals.NoMemory
read_fault cause told (pages.Failed x y) sure is = sure.fault x y is
read_fault cause told (pages.BadPage object page) sure is = sure.page object page is
read_fault cause told pages.NoMemory sure is = by_same sure.same
  where
    by_same : (told ≡ cause) ⊎ (told ≡ refusals.NoMemory) → told ≡ refusals.NoMemory
    by_same (inl same) = same ∙ is
    by_same (inr memory) = memory

pub query_cause : (t : MemoryTables) (ds : List Descriptor) (select : Select) (before after : Seen) (cause told : Refusal) → ds ≡ t.parts.items → IsSure cause told → HasQueryCause ds select before after cause → IsCause t (query_checks select) told
query_cause t ds select before after cause told same sure (inl found) = found_told t (query_checks select) cause told sure.same (of_held t ds (λ db. first_refusal (query_checks select db) ≡ Some cause) same found)
query_cause t ds select before after cause told same sure (inr (inl unread)) = inl (read_fault cause told unread.unread.fault sure unread.unread.cause_is)
query_cause t ds select before after cause told same sure (inr (inr memory)) = memory_told t (query_checks select) cause told sure.same memory

-- pages that are as they were stand for the same
pub held_again : (t : MemoryTables) (ds : List Descriptor) (tables : List SurePages) → ds ≡ t.parts.items → ((object : ℕ) → told_in tables object ≡ told_in t.pages.tables.items object) → OfHeld t (λ db. Stand (told_in tables) ds db)
held_again t ds tables same told = λ db h.
    stands_on (told_in t.pages.tables.items) (told_in tables) ds db (λ object less. told object) (subst (λ (xs : List Descriptor). Stand (told_in t.pages.tables.items) xs db) (sym same) h)

pub held_on : (old new : List SurePages) (ds : List Descriptor) (db : Database) → ((object : ℕ) → told_in new object ≡ told_in old object) → Stand (told_in old) ds db → Stand (told_in new) ds db
held_on old new ds db same h = stands_on (told_in old) (told_in new) ds db (λ object less. same object) h

-- WRITES

-- a write took effect, and each database that the old tables stand for is changed so
pub written_ok : (write : Write) (old new : MemoryTables) (rows : ℕ) → OfDescribed old.parts.items (λ db. first_refusal (all_checks write db) ≡ None) → ((db : Database) → Hold old db → Hold new (effect write db)) → OfDescribed old.parts.items (λ db. rows ≡ count write db)
    → HasWritten write old new (Ok rows)
written_ok write old new rows granted ok counted = record {
  granted = of_held old old.parts.items (λ db. first_refusal (all_checks write db) ≡ None) refl granted;
  ok = ok;
  rows = of_held old old.parts.items (λ db. rows ≡ count write db) refl counted;
  unchanged = tt;
  placed = tt;
  cause = tt;
}

-- it was refused, and the tables stand as they stood
pub written_err : (write : Write) (old new : MemoryTables) (cause : Refusal) → ((db : Database) → Hold old db → Hold new db) → ((n : ℕ) → IsPlacedRefusal n cause) → IsCause old (all_checks write) cause → HasWritten write old new (Err cause)
written_err write old new cause same placed why = record { granted = tt; ok = tt; rows = tt; unchanged = same; placed = placed; cause = why }

-- where a table came in
create_stands : (name : Name) (schema : Schema) (ds ds' : List Descriptor) (ts us vs : List SurePages) (place : ℕ) → HasEffect (writes.CreateTable name schema) ds ds' (told_in ts) (told_in us) → place ≡ before_from 0 name ds → length ds' ≤ 64
    → ((object : ℕ) → object / 256 < 64 → told_in vs object ≡ coming_at place (told_in us) object) → (db : Database) → Stand (told_in ts) ds db → Stand (told_in vs) ds' (effect (writes.CreateTable name schema) db)
create_stands name schema ds ds' ts us vs place changes at few came db h =
    stands_on (coming_at (before_from 0 name ds) (told_in us)) (told_in vs) ds' (effect (writes.CreateTable name schema) db)
    (λ object less. subst (λ (i : ℕ). told_in vs object ≡ coming_at i (told_in us) object) at (came object (omega (arith, less, few)))) (changes.stands db h)

pub created : (write : Write) (name : Name) (schema : Schema) (ds ds' : List Descriptor) (ts us vs : List SurePages) (place : ℕ) → write ≡ writes.CreateTable name schema → HasEffect write ds ds' (told_in ts) (told_in us) → place ≡ before_from 0 name ds → length ds' ≤ 64
    → ((object : ℕ) → object / 256 < 64 → told_in vs object ≡ coming_at place (told_in us) object) → (db : Database) → Stand (told_in ts) ds db → Stand (told_in vs) ds' (effect write db)
created write name schema ds ds' ts us vs place is changes at few came =
    subst (λ (w : Write). (db : Database) → Stand (told_in ts) ds db → Stand (told_in vs) ds' (effect w db)) (sym is)
    (create_stands name schema ds ds' ts us vs place (subst (λ (w : Write). HasEffect w ds ds' (told_in ts) (told_in us)) is changes) at few came)

-- a database without a table that it has is shorter
no_longer : (name : Name) (db : Database) → length (without_table name db) ≤ length db
no_longer name [] = omega arith
no_longer name (u ∷ us) = by_name (same_name u.name name) refl (no_longer name us)
  where
    by_name : (b : Bool) → same_name u.name name ≡ b → length (without_table name us) ≤ length us → length (without_table name (u ∷ us)) ≤ length (u ∷ us)
    by_name true same most = rw same (omega (arith, most))
    by_name false same most = rw same (omega (arith, most))

shorter : (name : Name) (db : Database) (t : Table) → table_of name db ≡ Some t → length (without_table name db) < length db
shorter name [] t is = cc is
shorter name (u ∷ us) t is = by_name (same_name u.name name) refl is (shorter name us t) (no_longer name us)
  where
    by_name : (b : Bool) → same_name u.name name ≡ b → cond b (Some u) (table_of name us) ≡ Some t → (table_of name us ≡ Some t → length (without_table name us) < length us) → length (without_table name us) ≤ length us
        → length (without_table name (u ∷ us)) < length (u ∷ us)
    by_name true same is further most = rw same (omega (arith, most))
    by_name false same is further most = rw same (omega (arith, further is))

named_there : (name : Name) (o : Option Table) (db : Database) → table_of name db ≡ o → first_refusal (all_checks (writes.DropTable name) db) ≡ None → length (without_table name db) < length db
named_there name None db is granted = let refused : Some (refusals.NoTable name) ≡ None = rw is at granted in cc refused
named_there name (Some t) db is granted = shorter name db t is

-- where one went
remove_stands : (name : Name) (ds ds' : List Descriptor) (ts us vs : List SurePages) (place : ℕ) → HasEffect (writes.DropTable name) ds ds' (told_in ts) (told_in us) → place_from 0 name ds ≡ Some place → length ds ≤ 64
    → ((object : ℕ) → object / 256 + 1 < 64 → told_in vs object ≡ going_at place (told_in us) object) → (db : Database) → Stand (told_in ts) ds db → Stand (told_in vs) ds' (effect (writes.DropTable name) db)
remove_stands name ds ds' ts us vs place changes at few went db h =
    let told = described (told_in ts) ds db h in
    let less = named_there name (table_of name db) db refl (changes.granted db told) in
    let long : length ds ≡ length db = length-match (λ (p : ℕ) (d : Descriptor) (t : Table). Describes d t) 0 ds db told in
    let left : length ds' ≡ length (without_table name db) = length-match (λ (p : ℕ) (d : Descriptor) (t : Table). Describes d t) 0 ds' (without_table name db) (changes.tells db told) in
    let stands : Stand (going_at place (told_in us)) ds' (effect (writes.DropTable name) db) =
    subst (λ (o : Option ℕ). Stand (gone_from o (told_in us)) ds' (effect (writes.DropTable name) db)) at (changes.stands db h) in
    stands_on (going_at place (told_in us)) (told_in vs) ds' (effect (writes.DropTable name) db) (λ object within. went object (omega (arith, within, less, long, left, few))) stands

pub removed : (write : Write) (name : Name) (ds ds' : List Descriptor) (ts us vs : List SurePages) (place : ℕ) → write ≡ writes.DropTable name → HasEffect write ds ds' (told_in ts) (told_in us) → place_from 0 name ds ≡ Some place → length ds ≤ 64
    → ((object : ℕ) → object / 256 + 1 < 64 → told_in vs object ≡ going_at place (told_in us) object) → (db : Database) → Stand (told_in ts) ds db → Stand (told_in vs) ds' (effect write db)
removed write name ds ds' ts us vs place is changes at few went =
    subst (λ (w : Write). (db : Database) → Stand (told_in ts) ds db → Stand (told_in vs) ds' (effect w db)) (sym is)
    (remove_stands name ds ds' ts us vs place (subst (λ (w : Write). HasEffect w ds ds' (told_in ts) (told_in us)) is changes) at few went)

-- where rows were put in
pub inserted : (write : Write) (name : Name) (rows : List (List Value)) (ds ds' : List Descriptor) (ts us : List SurePages) → write ≡ writes.Insert name rows → HasEffect write ds ds' (told_in ts) (told_in us)
    → (db : Database) → Stand (told_in ts) ds db → Stand (told_in us) ds' (effect write db)
inserted write name rows ds ds' ts us is changes =
    subst (λ (w : Write). (db : Database) → Stand (told_in ts) ds db → Stand (told_in us) ds' (effect w db)) (sym is) ((subst (λ (w : Write). HasEffect w ds ds' (told_in ts) (told_in us)) is changes).stands)

-- no table of the name
pub insert_missing : (t : MemoryTables) (write : Write) (name : Name) (rows : List (List Value)) → write ≡ writes.Insert name rows → place_from 0 name t.parts.items ≡ None → IsCause t (all_checks write) (refusals.NoTable name)
insert_missing t write name rows is none =
    subst (λ (w : Write). IsCause t (all_checks w) (refusals.NoTable name)) (sym is)
    (inr (of_held t t.parts.items (λ db. first_refusal (all_checks (writes.Insert name rows) db) ≡ Some (refusals.NoTable name)) refl (all_missing name rows t.parts.items none)))

pub remove_missing : (t : MemoryTables) (write : Write) (name : Name) → write ≡ writes.DropTable name → place_from 0 name t.parts.items ≡ None → IsCause t (all_checks write) (refusals.NoTable name)
remove_missing t write name is none =
    subst (λ (w : Write). IsCause t (all_checks w) (refusals.NoTable name)) (sym is)
    (inr (of_held t t.parts.items (λ db. first_refusal (all_checks (writes.DropTable name) db) ≡ Some (refusals.NoTable name)) refl (λ db m. found db (drop_missing name t.parts.items none db m))))
  where
    found : (db : Database) → first_refusal (drop_checks name db) ≡ Some (refusals.NoTable name) → first_refusal (all_checks (writes.DropTable name) db) ≡ Some (refusals.NoTable name)
    found db h = by_table (table_of name db) refl h
      where
        by_table : (o : Option Table) → table_of name db ≡ o → first_refusal (drop_checks name db) ≡ Some (refusals.NoTable name) → first_refusal (all_checks (writes.DropTable name) db) ≡ Some (refusals.NoTable name)
        by_table None is h = rw is refl
        by_table (Some t) is h = let none : None ≡ Some (refusals.NoTable name) = rw is at h in cc none

-- PAGES PUT BACK

pub put_back : (ts us : List SurePages) (place : ℕ) (old kept : SurePages) → place < length ts → place < length us → old ≡ slice_index_or ts place old → AreKept old kept → ((object : ℕ) → object / 256 ≢ place → told_in us object ≡ told_in ts object)
    → (object : ℕ) → told_in (slice_set us place kept) object ≡ told_in ts object
put_back ts us place old kept there here is same others object = either (nat_eq (object / 256) place) refl
  where
    either : (b : Bool) → nat_eq (object / 256) place ≡ b → told_in (slice_set us place kept) object ≡ told_in ts object
    either true e =
        let at : object / 256 ≡ place = eqb-true (object / 256) place e in
        rw (at, get_set_same us place kept here, got ts place old there is) (ap Some (same (object % 256)))
    either false e = rw (get_set_other us place (object / 256) kept (eqb-false (object / 256) place e)) (others object (eqb-false (object / 256) place e))

pub other_place : (write : Write) (name : Name) (rows : List (List Value)) (ds : List Descriptor) (place n : ℕ) → write ≡ writes.Insert name rows → place_from 0 name ds ≡ Some place → n ≢ place → Some n ≢ changed_place write ds
other_place write name rows ds place n is at other same =
    let here : Some n ≡ Some place = same ∙ ap (λ (w : Write). changed_place w ds) is ∙ at in
    other (cc here)

pub no_place : (write : Write) (name : Name) (ds : List Descriptor) (n : ℕ) → write ≡ writes.DropTable name → Some n ≢ changed_place write ds
no_place write name ds n is same = let clash : Some n ≡ None = same ∙ ap (λ (w : Write). changed_place w ds) is in cc clash

pub no_place_made : (write : Write) (name : Name) (schema : Schema) (ds : List Descriptor) (n : ℕ) → write ≡ writes.CreateTable name schema → Some n ≢ changed_place write ds
no_place_made write name schema ds n is same = let clash : Some n ≡ None = same ∙ ap (λ (w : Write). changed_place w ds) is in cc clash
