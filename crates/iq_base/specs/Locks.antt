-- The names that a statement locks, as contracts see them.
use Rattle.std.specs.Prelude.{ℕ, Bool, true, false, List, [], ◌∷◌, Option, Some, None}

-- the name under which the list of tables is locked: catalog
abbrev pub catalog_name : List ℕ
catalog_name = 99 ∷ 97 ∷ 116 ∷ 97 ∷ 108 ∷ 111 ∷ 103 ∷ []

-- a table's name, if there is one
abbrev pub table_locks : Option (List ℕ) → List (List ℕ)
table_locks None = []
table_locks (Some name) = name ∷ []

-- the names in order: the catalog's first, where it is locked
abbrev pub locks_of : Bool → Option (List ℕ) → List (List ℕ)
locks_of true table = catalog_name ∷ table_locks table
locks_of false table = table_locks table
