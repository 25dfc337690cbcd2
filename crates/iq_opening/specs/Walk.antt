-- Which step of the way through a store is the first at fault. The blocks that earlier steps reached are kept as a set: a bit for each
-- block of the store.
use Rattle.std.specs.Prelude.{ℕ, Bool, true, false, List, [], ◌∷◌, length, drop, nat_eq, ◌&&◌, not, slice_index_or, slice_set, Option, Some, None, Result, Ok, Err}
use Rattle.std.specs.List.{list_all}
use Rattle.iq_outside.specs.Devices.{block_of}
use Rattle.iq_block_store.specs.Frames.{number_at, map_kind, has_header}
use Rattle.iq_block_map.specs.Maps.{is_address, places}
use Rattle.iq_opening.specs.declared.faults.StoreCause.{StoreCause}
use Rattle.iq_opening.specs.declared.faults.StoreCause.TheVariants.{OutOfRange, Shared, BadHeader, BadMap, BadCatalog}
use Rattle.iq_descriptors.specs.Parts.{more_of, pages_at}
use Rattle.iq_opening.specs.Tables.{is_table}
use Rattle.iq_opening.specs.Steps.{Step}

-- what is wrong, and the block that shows it
pub record Fault : Type 0 where
  pub block : ℕ
  pub cause : StoreCause

abbrev pub fault : ℕ → StoreCause → Fault
fault block cause = record { block = block; cause = cause }

-- this is at fault unless the test holds
abbrev pub unless : Bool → ℕ → StoreCause → Option Fault
unless true block cause = None
unless false block cause = Some (fault block cause)

-- the first fault of two tests
abbrev pub first_of : Option Fault → Option Fault → Option Fault
first_of (Some f) other = Some f
first_of None other = other

-- a block was reached before
abbrev pub is_reached : List Bool → ℕ → Bool
is_reached reached at = slice_index_or reached at false

-- an address is one of the store's, and leads to a block that wasn't reached before
abbrev pub reach_fault : ℕ → List Bool → ℕ → ℕ → Option Fault
reach_fault count reached holder at =
    first_of (unless (is_address count at) holder OutOfRange) (unless (not (is_reached reached at)) at Shared)

-- a block is a map of this level
abbrev pub is_map_of : ℕ → ℕ → List ℕ → Bool
is_map_of level at block = has_header map_kind at block && nat_eq (number_at block 12) level

-- the places of a map behind those in use are zero
abbrev pub is_spare_zero : ℕ → List ℕ → Bool
is_spare_zero used block = list_all (nat_eq 0) (drop used (places block))

-- what is wrong with a step: the address, then the block's header, then what a map or a descriptor says
unfoldable pub fault_at : List (List ℕ) → List Bool → Step → Option Fault
fault_at all reached (Step.visit holder at kind) =
    first_of (reach_fault (length all) reached holder at) (unless (has_header kind at (block_of all at)) at BadHeader)
fault_at all reached (Step.visit_map holder at level used) =
    first_of (reach_fault (length all) reached holder at)
    (first_of (unless (is_map_of level at (block_of all at)) at BadHeader) (unless (is_spare_zero used (block_of all at)) at BadMap))
fault_at all reached (Step.table format head before) =
    unless (is_table format before (more_of (block_of all head)) (pages_at all head)) head BadCatalog

-- the blocks that are reached after a step
abbrev pub reached_after : List Bool → Step → List Bool
reached_after reached (Step.visit holder at kind) = slice_set reached at true
reached_after reached (Step.visit_map holder at level used) = slice_set reached at true
reached_after reached (Step.table format head before) = reached

abbrev pub unless_fault : Option Fault → Result (List Bool) Fault → Result (List Bool) Fault
unless_fault (Some f) rest = Err f
unless_fault None rest = rest

-- the blocks that are reached after some steps, or the first fault
unfoldable pub walked : List (List ℕ) → List Bool → List Step → Result (List Bool) Fault
walked all reached [] = Ok reached
walked all reached (step ∷ steps) = unless_fault (fault_at all reached step) (walked all (reached_after reached step) steps)
