-- Look-ups of tables by name among their descriptors.
use Rattle.std.specs.Prelude.{ℕ, ◌+◌, List, [], ◌∷◌, Option, Some, None, if◌then◌else◌}
use Rattle.std.specs.Ordering.{nat_cmp, is_gt}
use Rattle.std.specs.Cmp.Lexicographic.{slice_cmp}
use Rattle.iq_base.specs.Shorts.{Name}
use Rattle.iq_base.specs.declared.descriptors.Descriptor.{Descriptor}
use Rattle.iq_conditions.specs.Servers.{same_name}

-- the place of the first table of a name, where places are counted from this one on
abbrev pub place_from : ℕ → Name → List Descriptor → Option ℕ
place_from n name [] = None
place_from n name (d ∷ ds) = if same_name d.name name then Some n else place_from (n + 1) name ds

-- how many tables stand before the first whose name isn't below this one
abbrev pub before_from : ℕ → Name → List Descriptor → ℕ
before_from n name [] = n
before_from n name (d ∷ ds) = if is_gt (slice_cmp nat_cmp name d.name) then before_from (n + 1) name ds else n
