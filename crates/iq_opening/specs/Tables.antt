-- Which descriptors may stand in a store, and where. What the blocks of a descriptor say is told in iq_descriptors.
use Rattle.std.specs.Prelude.{ℕ, Bool, ◌&&◌, List}
use Rattle.iq_base.specs.declared.descriptors.Descriptor.{Descriptor}
use Rattle.iq_catalog.specs.Sizes.{fits_slots}
use Rattle.iq_descriptors.specs.Parts.{said_by, are_packed, is_descriptor}
use Rattle.iq_descriptors.specs.Stored.{comes_behind}

-- by which rules a store keeps its tables: columns as codes of distinct values
pub data Format : Type 0 where
  coded : Format

-- each object has as many pages as the table's slots and distinct values ask for
abbrev pub has_sizes : Format → Descriptor → Bool
has_sizes coded t = fits_slots t

-- a table may stand in a store behind a name, with these addresses of its descriptor's other blocks
abbrev pub may_stand : Format → List ℕ → List ℕ → Descriptor → Bool
may_stand format before more t = are_packed more && comes_behind before t.name && has_sizes format t

-- pages are those of a table that may stand there
abbrev pub is_table : Format → List ℕ → List ℕ → List (List ℕ) → Bool
is_table format before more pages = is_descriptor pages && may_stand format before more (said_by pages)
