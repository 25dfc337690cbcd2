-- Savepoints: marks under names, the newest first.
use Rattle.std.specs.Prelude.{Bool, List, [], ◌∷◌, Option, Some, None, nat_eq, if◌then◌else◌}
use Rattle.std.specs.List.{list_any}
use Rattle.std.specs.Cmp.Lexicographic.{pointwise}
use Rattle.iq_base.specs.Shorts.{Name}
use Rattle.iq_txn.specs.declared.marks.Mark.{Mark}

-- a name, and what its transaction had then
pub record Saved : Type 0 where
  pub name : Name
  pub mark : Mark

-- whether one of a name stands
abbrev pub has_save : Name → List Saved → Bool
has_save name saves = list_any (λ (save : Saved). pointwise nat_eq save.name name) saves

-- the savepoints from the newest of a name on, and none where none has it
abbrev pub saves_from : Name → List Saved → List Saved
saves_from name [] = []
saves_from name (save ∷ saves) = if pointwise nat_eq save.name name then save ∷ saves else saves_from name saves

-- the mark of the newest
abbrev pub first_mark : List Saved → Option Mark
first_mark [] = None
first_mark (save ∷ saves) = Some save.mark
