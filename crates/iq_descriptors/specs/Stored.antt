-- The descriptor that stands in a store behind a head, and the descriptors of a version of the store.
use Rattle.std.specs.Prelude.{◌≡◌, ℕ, Bool, true, false, List, [], ◌∷◌, ◌++◌, if◌then◌else◌, Result, Ok, Err}
use Rattle.std.specs.Ordering.{nat_cmp}
use Rattle.std.specs.declared.cmp.Ordering.{Ordering}
use Rattle.std.specs.declared.cmp.Ordering.TheVariants.{Less, Equal, Greater}
use Rattle.std.specs.Cmp.Lexicographic.{slice_cmp}
use Rattle.iq_outside.specs.Devices.{block_of}
use Rattle.iq_block_store.specs.Frames.{descriptor_kind, has_header, payload_of}
use Rattle.iq_base.specs.declared.descriptors.Descriptor.{Descriptor}
use Rattle.iq_descriptors.specs.Parts.{more_of, head_page, said_by, is_descriptor, named, parts_at, is_head}

-- pages in front of others, where there are others
abbrev pub pages_behind : List (List ℕ) → Result (List (List ℕ)) ℕ → Result (List (List ℕ)) ℕ
pages_behind front (Err b) = Err b
pages_behind front (Ok pages) = Ok (front ++ pages)

-- the pages in some blocks, or the first of these that is no part of a descriptor
abbrev pub pages_in : List (List ℕ) → List ℕ → Result (List (List ℕ)) ℕ
pages_in all [] = Ok []
pages_in all (at ∷ more) =
    if has_header descriptor_kind at (block_of all at) then pages_behind (payload_of (block_of all at) ∷ []) (pages_in all more) else Err at

-- the descriptor that pages say, or the head where they are those of none
abbrev pub said_in : ℕ → Result (List (List ℕ)) ℕ → Result Descriptor ℕ
said_in head (Err b) = Err b
said_in head (Ok pages) = if is_descriptor pages then Ok (said_by pages) else Err head

-- The descriptor whose head is in this block, or the block that shows that there is none. That is the head where its own address,
-- its header or one of its addresses is wrong; else the first other block that is no part of a descriptor; else the head once more,
-- where the pages are no descriptor's.
abbrev pub descriptor_at : List (List ℕ) → ℕ → Result Descriptor ℕ
descriptor_at all head =
    if is_head all head then said_in head (pages_behind (head_page (block_of all head) ∷ []) (pages_in all (named (more_of (block_of all head))))) else Err head

-- a descriptor stands behind a head, in these blocks
pub record Describes (all : List (List ℕ)) (head : ℕ) (table : Descriptor) (blocks : List ℕ) : Type 0 where
  pub stands : descriptor_at all head ≡ Ok table
  pub parts : blocks ≡ parts_at all head

abbrev pub is_less : Ordering → Bool
is_less Less = true
is_less Equal = false
is_less Greater = false

-- a name comes behind another, in order of bytes; nothing comes before each name
abbrev pub comes_behind : List ℕ → List ℕ → Bool
comes_behind before name = is_less (slice_cmp nat_cmp before name)

-- a descriptor whose name comes behind another; else its head
abbrev pub behind : List ℕ → ℕ → Result Descriptor ℕ → Result Descriptor ℕ
behind before head (Err b) = Err b
behind before head (Ok t) = if comes_behind before t.name then Ok t else Err head

-- the name of a descriptor, if there is one
abbrev pub name_in : Result Descriptor ℕ → List ℕ
name_in (Err b) = []
name_in (Ok t) = t.name

-- descriptors in front of others, where there are others
abbrev pub tables_ahead : List Descriptor → Result (List Descriptor) ℕ → Result (List Descriptor) ℕ
tables_ahead front (Err b) = Err b
tables_ahead front (Ok ts) = Ok (front ++ ts)

-- a descriptor in front of others, or the first fault
abbrev pub in_front : Result Descriptor ℕ → Result (List Descriptor) ℕ → Result (List Descriptor) ℕ
in_front (Err b) rest = Err b
in_front (Ok t) rest = tables_ahead (t ∷ []) rest

-- the descriptors behind heads, each with a name behind that of the one before, and the first behind this name; or the first block at
-- fault
abbrev pub tables_behind : List (List ℕ) → List ℕ → List ℕ → Result (List Descriptor) ℕ
tables_behind all before [] = Ok []
tables_behind all before (head ∷ heads) =
    in_front (behind before head (descriptor_at all head)) (tables_behind all (name_in (descriptor_at all head)) heads)

-- the descriptors of a version
abbrev pub tables_of : List (List ℕ) → List ℕ → Result (List Descriptor) ℕ
tables_of all heads = tables_behind all [] heads
