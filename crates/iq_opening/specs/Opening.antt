-- How a store opens: its newest root, and the way through what that root names; or the first fault.
use Rattle.std.specs.Prelude.{◌≡◌, ℕ, ◌%◌, Bool, false, ◌&&◌, List, [], length, map, replicate, nat_eq, nat_le, if◌then◌else◌, Option, Some, None, Result, Ok, Err}
use Rattle.iq_root.specs.Roots.{newest, body_place}
use Rattle.iq_root.specs.declared.root.Root.{Root}
use Rattle.iq_opening.specs.declared.faults.StoreCause.TheVariants.{NoRoot, OldFormat, Size}
use Rattle.iq_opening.specs.declared.opening.StoredTable.{StoredTable}
use Rattle.iq_opening.specs.declared.opening.Opening.{Opening}
use Rattle.iq_descriptors.specs.Parts.{table_at}
use Rattle.iq_opening.specs.Tables.{Format, coded}
use Rattle.iq_opening.specs.Steps.{Step, tables_steps}
use Rattle.iq_opening.specs.Walk.{Fault, fault, walked}

-- the block of a root's body, which stands in the slot of the generation's parity
abbrev pub body_of : Root → ℕ
body_of root = body_place (root.generation % 2)

-- no block is reached yet
unfoldable pub none_reached : ℕ → List Bool
none_reached count = replicate count false

-- the way through what a root names, by the rules of a format
abbrev pub root_steps : List (List ℕ) → Format → Root → List Step
root_steps all format root = tables_steps all format (body_of root) [] root.tables

-- a root says how many blocks the store has
abbrev pub is_size : ℕ → Root → Bool
is_size count root = nat_le 4 count && nat_eq count root.count

-- what a root reaches, or the first fault
abbrev pub root_opened : List (List ℕ) → Root → Result (List Bool) Fault
root_opened all root =
    if nat_eq root.format 1 then Err (fault (body_of root) OldFormat)
    else (if is_size (length all) root then walked all (none_reached (length all)) (root_steps all coded root)
    else Err (fault (body_of root) Size))

abbrev pub newest_opened : List (List ℕ) → Option Root → Result (List Bool) Fault
newest_opened all None = Err (fault 0 NoRoot)
newest_opened all (Some root) = root_opened all root

-- the blocks that a store's newest root reaches, or the first fault
abbrev pub opened : List (List ℕ) → Result (List Bool) Fault
opened all = newest_opened all (newest all)

-- the tables that heads of descriptors lead to
abbrev pub stored_at : List (List ℕ) → ℕ → StoredTable
stored_at all head = record { head = head; table = table_at all head }

abbrev pub tables_at : List (List ℕ) → List ℕ → List StoredTable
tables_at all heads = map (stored_at all) heads

-- this is how a store opens
pub record Opens (all : List (List ℕ)) (opening : Opening) : Type 0 where
  pub newest : newest all ≡ Some opening.root
  pub tables : opening.tables ≡ tables_at all opening.root.tables
  pub reached : opened all ≡ Ok opening.reached
