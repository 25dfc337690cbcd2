-- On which pages a database stands.
use Rattle.std.proofs.Common.{◌≡◌, ◌<◌, ◌+◌, ◌*◌, ℕ, List, Option, length, arith}
use Rattle.std.specs.Prelude.{◌/◌}
use Rattle.iq_base.specs.declared.descriptors.Descriptor.{Descriptor}
use Rattle.iq_pages.specs.Pages.{Pages}
use Rattle.iq_statements.specs.Tables.{Table, Database}
use Rattle.iq_table.specs.Table.{SameObjectsAt}
use Rattle.iq_table.proofs.Moves.{table_moved}
use Rattle.iq_database.specs.Standing.{Describes, Describe, StandsAt, Stand, slot_rows, slot_bits}
use Rattle.iq_database.proofs.LookUps.{match_as}

-- a table stands at each place at which its objects have the same pages
pub stands_moved : (told told' : ℕ → Option Pages) (place place' : ℕ) (d : Descriptor) (t : Table) → SameObjectsAt place told place' told' → StandsAt told place d t → StandsAt told' place' d t
stands_moved told told' place place' d t same s = record {
  describes = s.describes;
  holds = table_moved told told' place place' d (slot_rows t) (slot_bits t) same s.holds;
}

-- what stands is told
pub described : (told : ℕ → Option Pages) (ds : List Descriptor) (db : Database) → Stand told ds db → Describe ds db
described told ds db stand = match_as (StandsAt told) (λ p d t. Describes d t) 0 ds db (λ q d t less s. s.describes) stand

-- a database stands on the objects of its tables' places
pub stands_on : (told told' : ℕ → Option Pages) (ds : List Descriptor) (db : Database) → ((object : ℕ) → object / 256 < length ds → told' object ≡ told object) → Stand told ds db → Stand told' ds db
stands_on told told' ds db same stand =
    match_as (StandsAt told) (StandsAt told') 0 ds db
    (λ q d t less s. stands_moved told told' q q d t (λ k small. same (256 * q + k) (let place : (256 * q + k) / 256 ≡ q = omega (arith, small) in omega (arith, place, less))) s)
    stand
