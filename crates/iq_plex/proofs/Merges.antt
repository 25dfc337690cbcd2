-- A commit's tables after a write that began at the latest commit are those that it leaves.
use Rattle.std.specs.Prelude.{◌≡◌, refl, Bool, true, false, List, [], ◌∷◌, Option, Some, None, cond, is_some}
use Rattle.std.specs.Ordering.{nat_cmp, is_gt}
use Rattle.std.specs.Cmp.Lexicographic.{slice_cmp}
use Rattle.std.proofs.Common.{sym, subst}
use Rattle.iq_base.specs.Shorts.{Name}
use Rattle.iq_base.specs.Locks.{catalog_name}
use Rattle.iq_base.specs.declared.values.Value.{Value}
use Rattle.iq_base.specs.declared.schemas.Schema.{Schema}
use Rattle.iq_base.specs.declared.refusals.Refusal.{Refusal}
use Rattle.iq_base.specs.declared.refusals.Refusal.TheVariants as refusals
use Rattle.iq_ast.specs.declared.statements.Write.{Write}
use Rattle.iq_ast.specs.declared.statements.Write.TheVariants as writes
use Rattle.iq_conditions.specs.Servers.{same_name}
use Rattle.iq_statements.specs.Checks.{first_refusal, found_if}
use Rattle.iq_statements.specs.Named.{write_checks}
use Rattle.iq_statements.specs.Statements.{names_of, created_by}
use Rattle.iq_statements.specs.Tables.{Table, Database, table_of, placed, empty_table, replaced, without_table, with_rows}
use Rattle.iq_statements.specs.Effects.{effect}
use Rattle.iq_replay.specs.Commits.{committed, with_seen, table_names}
use Rattle.iq_control.proofs.Early.{or_none}
use Rattle.iq_locks.proofs.Tables.{same_name-refl}
use Rattle.iq_database.proofs.LookUps.{table_of-named}
use Rattle.iq_plex.specs.Doing.{NamesTable}

-- LOOK-UPS IN A CHANGED DATABASE

-- a table that was put in, where there was none of its name
found_placed : (t : Table) (db : Database) → table_of t.name db ≡ None → table_of t.name (placed t db) ≡ Some t
found_placed t [] none = rw (same_name-refl t.name) refl
found_placed t (u ∷ us) none = by_name (same_name u.name t.name) (is_gt (slice_cmp nat_cmp t.name u.name)) refl refl none (found_placed t us)
  where
    by_name : (b g : Bool) → same_name u.name t.name ≡ b → is_gt (slice_cmp nat_cmp t.name u.name) ≡ g → cond b (Some u) (table_of t.name us) ≡ None → (table_of t.name us ≡ None → table_of t.name (placed t us) ≡ Some t) → table_of t.name (placed t (u ∷ us)) ≡ Some t
    by_name true g same order none further = cc none
    by_name false true same order none further = rw (order, same) (further none)
    by_name false false same order none further = rw (order, same_name-refl t.name) refl

-- one that was put in the place of the one of its name
found_replaced : (new old : Table) (db : Database) → table_of new.name db ≡ Some old → table_of new.name (replaced new db) ≡ Some new
found_replaced new old [] is = cc is
found_replaced new old (u ∷ us) is = by_name (same_name u.name new.name) refl is (found_replaced new old us)
  where
    by_name : (b : Bool) → same_name u.name new.name ≡ b → cond b (Some u) (table_of new.name us) ≡ Some old → (table_of new.name us ≡ Some old → table_of new.name (replaced new us) ≡ Some new) → table_of new.name (replaced new (u ∷ us)) ≡ Some new
    by_name true same is further = rw (same, same_name-refl new.name) refl
    by_name false same is further = rw (same, same) (further is)

-- one that was taken out
none_removed : (name : Name) (db : Database) → table_of name (without_table name db) ≡ None
none_removed name [] = refl
none_removed name (u ∷ us) = by_name (same_name u.name name) refl (none_removed name us)
  where
    by_name : (b : Bool) → same_name u.name name ≡ b → table_of name (without_table name us) ≡ None → table_of name (without_table name (u ∷ us)) ≡ None
    by_name true same further = rw same further
    by_name false same further = rw (same, same) further

-- WHAT THE TESTS TELL

is_free : (o : Option Table) (refusal : Refusal) → found_if (is_some o) refusal ≡ None → o ≡ None
is_free None refusal h = refl
is_free (Some t) refusal h = cc h

-- THE TABLES OF A COMMIT

-- the names of tables are those of the work but the catalog's
one_name : (name : Name) → same_name name catalog_name ≡ false → table_names (name ∷ []) ≡ name ∷ []
one_name name other = rw other refl

behind_catalog : (name : Name) → same_name name catalog_name ≡ false → table_names (catalog_name ∷ name ∷ []) ≡ name ∷ []
behind_catalog name other = rw other refl

create_merges : (name : Name) (schema : Schema) (db : Database) → same_name name catalog_name ≡ false → table_of name db ≡ None
    → with_seen (effect (writes.CreateTable name schema) db) db name ≡ effect (writes.CreateTable name schema) db
create_merges name schema db other none = rw (found_placed (empty_table name schema.columns) db none, none) refl

drop_merges : (name : Name) (db : Database) → with_seen (effect (writes.DropTable name) db) db name ≡ effect (writes.DropTable name) db
drop_merges name db = rw (none_removed name db) refl

insert_merges : (name : Name) (rows : List (List Value)) (t : Table) (db : Database) → table_of name db ≡ Some t
    → with_seen (effect (writes.Insert name rows) db) db name ≡ effect (writes.Insert name rows) db
insert_merges name rows t db is =
    let same : t.name ≡ name = table_of-named name db t is in
    let here = subst (λ (n : Name). table_of n db ≡ Some t) (sym same) is in
    let seen = subst (λ (n : Name). table_of n (replaced (with_rows rows t) db) ≡ Some (with_rows rows t)) same (found_replaced (with_rows rows t) t db here) in
    rw (is, seen, here) refl

insert_found : (name : Name) (rows : List (List Value)) (o : Option Table) (db : Database) → table_of name db ≡ o → first_refusal (write_checks (writes.Insert name rows) db) ≡ None
    → with_seen (effect (writes.Insert name rows) db) db name ≡ effect (writes.Insert name rows) db
insert_found name rows None db is granted = let refused : Some (refusals.NoTable name) ≡ None = rw is at granted in cc refused
insert_found name rows (Some t) db is granted = insert_merges name rows t db is

-- The commit of a write that nothing refuses has the tables that the write leaves.
pub write_merges : (write : Write) (db : Database) → NamesTable write → first_refusal (write_checks write db) ≡ None
    → committed (record { seen = effect write db; held = names_of write; created = created_by write }) db ≡ effect write db
write_merges (writes.CreateTable name schema) db other granted =
    rw (behind_catalog name other) (create_merges name schema db other (is_free (table_of name db) (refusals.TableExists name) (or_none (found_if (is_some (table_of name db)) (refusals.TableExists name)) _ granted).0))
write_merges (writes.DropTable name) db other granted = rw (behind_catalog name other) (drop_merges name db)
write_merges (writes.CreateIndex name kind table column second) db other granted = absurd other
write_merges (writes.DropIndex table name) db other granted = absurd other
write_merges (writes.Insert table rows) db other granted = rw (one_name table other) (insert_found table rows (table_of table db) db refl granted)
write_merges (writes.Load table rows text) db other granted = absurd other
write_merges (writes.Delete table cond) db other granted = absurd other
write_merges (writes.Update table changes cond) db other granted = absurd other
