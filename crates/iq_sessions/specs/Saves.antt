-- Names of savepoints, the newest first.
use Rattle.std.specs.Prelude.{Bool, List, [], ◌∷◌, if◌then◌else◌}
use Rattle.std.specs.List.{list_any}
use Rattle.iq_base.specs.Shorts.{Name}
use Rattle.iq_conditions.specs.Servers.{same_name}

-- whether a savepoint of this name stands
abbrev pub has_save : Name → List Name → Bool
has_save name names = list_any (λ (n : Name). same_name n name) names

-- the names from the newest of this one on, and none where none is it
abbrev pub names_from : Name → List Name → List Name
names_from name [] = []
names_from name (n ∷ names) = if same_name n name then n ∷ names else names_from name names
