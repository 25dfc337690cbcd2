-- What an empty store has.
use Rattle.std.specs.Prelude.{ℕ, List, []}
use Rattle.iq_root.specs.Publishing.{with_slot}
use Rattle.iq_root.specs.declared.root.Root.{Root}

-- a root without tables, of the format that is made now
abbrev pub empty_root : ℕ → ℕ → Root
empty_root generation count = record { generation = generation; format = 2; count = count; tables = [] }

-- blocks with a closed slot 0, and the empty root of generation 1 in slot 1
abbrev pub formatted : ℕ → List (List ℕ) → List (List ℕ)
formatted count all = with_slot 1 (empty_root 1 count) 1 (with_slot 0 (empty_root 0 count) 0 all)
