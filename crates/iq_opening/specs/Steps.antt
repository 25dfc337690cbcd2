-- The way through a store: which addresses come up, in which order, and what is wanted at each. It is a list of steps that is made of
-- the blocks alone, whatever they hold; what is wrong with a step, and which step is the first such, is said in Walk.
use Rattle.std.specs.Prelude.{ℕ, ◌+◌, ◌-◌, ◌*◌, ◌/◌, min, List, [], ◌∷◌, ◌++◌, length, take, map, flat_map, nat_eq, nat_le, if◌then◌else◌, slice_index}
use Rattle.iq_outside.specs.Devices.{block_of}
use Rattle.iq_block_store.specs.Frames.{descriptor_kind, page_kind}
use Rattle.iq_base.specs.declared.refs.Ref.{Ref}
use Rattle.iq_base.specs.declared.descriptors.ColumnPart.{ColumnPart}
use Rattle.iq_base.specs.declared.descriptors.IndexPart.{IndexPart}
use Rattle.iq_base.specs.declared.descriptors.Descriptor.{Descriptor}
use Rattle.iq_block_map.specs.Maps.{places}
use Rattle.iq_block_map.specs.Objects.{leaf_count}
use Rattle.iq_descriptors.specs.Parts.{more_of, blocks_at, table_at}
use Rattle.iq_opening.specs.Tables.{Format}

-- One step. An address that stands in a block, its holder, is to lead to a block of a kind; or to a map of a level, of which so many
-- places are in use. Or the descriptor with this head is to be that of a table whose name comes behind another.
pub data Step : Type 0 where
  visit : (holder at kind : ℕ) → Step
  visit_map : (holder at level used : ℕ) → Step
  table : (format : Format) → (head : ℕ) → (before : List ℕ) → Step

-- the places of a map that are in use
abbrev pub named : List (List ℕ) → ℕ → ℕ → List ℕ
named all at used = take used (places (block_of all at))

-- the pages that a map names
abbrev pub page_steps : ℕ → List ℕ → List Step
page_steps at pages = map (λ (page : ℕ). visit at page page_kind) pages

-- a map of level 1, and then its pages
unfoldable pub leaf_steps : List (List ℕ) → ℕ → ℕ → ℕ → List Step
leaf_steps all holder at used = visit_map holder at 1 used ∷ page_steps at (named all at used)

-- maps of level 1 that the map at the top names, of so many pages: each with its pages before the next
unfoldable pub leaves_steps : List (List ℕ) → ℕ → ℕ → List ℕ → List Step
leaves_steps all top pages [] = []
leaves_steps all top pages (leaf ∷ leaves) = leaf_steps all top leaf (min 252 pages) ++ leaves_steps all top (pages - 252) leaves

-- an object of more than 252 pages: the map at the top, and then what it names
unfoldable pub high_steps : List (List ℕ) → ℕ → Ref → List Step
high_steps all holder object =
    visit_map holder object.root 2 (leaf_count object.pages)
    ∷ leaves_steps all object.root object.pages (named all object.root (leaf_count object.pages))

-- an object, whose reference stands in a block
unfoldable pub object_steps : List (List ℕ) → ℕ → Ref → List Step
object_steps all holder object =
    if nat_eq object.pages 0 then []
    else (if nat_le object.pages 252 then leaf_steps all holder object.root object.pages else high_steps all holder object)

-- an object whose reference begins at this byte of a descriptor's pages, in the block that has this byte
abbrev pub object_from : List (List ℕ) → List ℕ → ℕ → Ref → List Step
object_from all blocks byte object = object_steps all (slice_index blocks (byte / 1008)) object

-- the objects of columns of which the first begins at this byte: a column has 55
unfoldable pub column_steps : List (List ℕ) → List ℕ → ℕ → ColumnPart → List Step
column_steps all blocks byte c = object_from all blocks (byte + 39) c.cells ++ object_from all blocks (byte + 47) c.values

unfoldable pub columns_steps : List (List ℕ) → List ℕ → ℕ → List ColumnPart → List Step
columns_steps all blocks byte [] = []
columns_steps all blocks byte (c ∷ cs) = column_steps all blocks byte c ++ columns_steps all blocks (byte + 55) cs

-- the objects of indexes of which the first begins at this byte: an index has 62
unfoldable pub index_steps : List (List ℕ) → List ℕ → ℕ → IndexPart → List Step
index_steps all blocks byte i =
    object_from all blocks (byte + 38) i.first ++ (object_from all blocks (byte + 46) i.second ++ object_from all blocks (byte + 54) i.third)

unfoldable pub indexes_steps : List (List ℕ) → List ℕ → ℕ → List IndexPart → List Step
indexes_steps all blocks byte [] = []
indexes_steps all blocks byte (i ∷ is) = index_steps all blocks byte i ++ indexes_steps all blocks (byte + 62) is

-- the objects of a table by their numbers: existence, each column's cells and values, each index's three
unfoldable pub objects_steps : List (List ℕ) → List ℕ → Descriptor → List Step
objects_steps all blocks t =
    object_from all blocks 49 t.existence
    ++ (columns_steps all blocks 57 t.columns ++ indexes_steps all blocks (57 + 55 * length t.columns) t.indexes)

-- another block of a descriptor, if there is one
unfoldable pub other_steps : ℕ → ℕ → List Step
other_steps head at = if nat_eq at 0 then [] else visit head at descriptor_kind ∷ []

-- the blocks of a descriptor whose head the root names
unfoldable pub block_steps : List (List ℕ) → ℕ → ℕ → List Step
block_steps all body head = visit body head descriptor_kind ∷ flat_map (other_steps head) (more_of (block_of all head))

-- a table whole: the blocks of its descriptor, what they say, and its objects
unfoldable pub table_steps : List (List ℕ) → Format → ℕ → List ℕ → ℕ → List Step
table_steps all format body before head =
    block_steps all body head ++ table format head before ∷ objects_steps all (blocks_at all head) (table_at all head)

-- tables one after the other, in the order in which the root names them; before the first stands this name
unfoldable pub tables_steps : List (List ℕ) → Format → ℕ → List ℕ → List ℕ → List Step
tables_steps all format body before [] = []
tables_steps all format body before (head ∷ heads) =
    table_steps all format body before head ++ tables_steps all format body (table_at all head).name heads
