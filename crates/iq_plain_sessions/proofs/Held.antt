-- The names of a statement that aren't held.
use Rattle.std.specs.Prelude.{◌≡◌, refl, Bool, true, false, not, ◌&&◌, List, [], ◌∷◌, Option, Some, None}
use Rattle.iq_base.specs.Shorts.{Name}
use Rattle.iq_base.specs.Locks.{catalog_name, table_locks, locks_of}
use Rattle.iq_replay.specs.State.{has_name, not_held}
use Rattle.iq_plain_sessions.specs.Plain.{table_not_held}

-- the table's lock, where it isn't held
not_held_table : (held : List Name) (table : Option Name) → not_held held (table_locks table) ≡ table_locks (table_not_held held table)
not_held_table held None = refl
not_held_table held (Some name) = at_held (has_name held name) refl
  where
    at_held : (b : Bool) → has_name held name ≡ b → not_held held (name ∷ []) ≡ table_locks (table_not_held held (Some name))
    at_held true q = rw (q) refl
    at_held false q = rw (q) refl

-- the locks that aren't held are those of the catalog, where it isn't held, and of the table, where it isn't
pub not_held_locks : (held : List Name) (of_all : Bool) (table : Option Name)
    → not_held held (locks_of of_all table) ≡ locks_of (of_all && not (has_name held catalog_name)) (table_not_held held table)
not_held_locks held false table = not_held_table held table
not_held_locks held true table = at_held (has_name held catalog_name) refl
  where
    at_held : (b : Bool) → has_name held catalog_name ≡ b → not_held held (catalog_name ∷ table_locks table) ≡ locks_of (true && not (has_name held catalog_name)) (table_not_held held table)
    at_held true q = rw (q) (not_held_table held table)
    at_held false q = rw (q, not_held_table held table) refl
