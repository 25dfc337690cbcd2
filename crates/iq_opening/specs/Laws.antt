-- What a store's tables stand on.
use Rattle.std.specs.Prelude.{◌≡◌, ℕ, Bool, true, List, [], ◌∷◌, length, Ok}
use Rattle.iq_outside.specs.Devices.{block_of}
use Rattle.iq_base.specs.declared.refs.Ref.{Ref}
use Rattle.iq_base.specs.declared.descriptors.ColumnPart.{ColumnPart}
use Rattle.iq_base.specs.declared.descriptors.IndexPart.{IndexPart}
use Rattle.iq_base.specs.declared.descriptors.Descriptor.{Descriptor}
use Rattle.iq_block_map.specs.Laws.{SameObject}
use Rattle.iq_descriptors.specs.Parts.{table_at}
use Rattle.iq_opening.specs.Tables.{Format}
use Rattle.iq_opening.specs.Steps.{tables_steps}
use Rattle.iq_opening.specs.Walk.{is_reached, walked}

-- two lists of blocks are as long, and the same in each block of a set
pub record SameWhere (reached : List Bool) (all now : List (List ℕ)) : Type 0 where
  pub size : length now ≡ length all
  pub blocks : (b : ℕ) → is_reached reached b ≡ true → block_of now b ≡ block_of all b

-- something holds of each object of a table
pub record OfColumn (Holds : Ref → Type 0) (c : ColumnPart) : Type 0 where
  pub cells : Holds c.cells
  pub values : Holds c.values

pub record OfIndex (Holds : Ref → Type 0) (i : IndexPart) : Type 0 where
  pub first : Holds i.first
  pub second : Holds i.second
  pub third : Holds i.third

abbrev pub OfColumns : (Ref → Type 0) → List ColumnPart → Type 0
OfColumns Holds [] = Unit {0}
OfColumns Holds (c ∷ cs) = OfColumn Holds c × OfColumns Holds cs

abbrev pub OfIndexes : (Ref → Type 0) → List IndexPart → Type 0
OfIndexes Holds [] = Unit {0}
OfIndexes Holds (i ∷ is) = OfIndex Holds i × OfIndexes Holds is

pub record OfObjects (Holds : Ref → Type 0) (t : Descriptor) : Type 0 where
  pub existence : Holds t.existence
  pub columns : OfColumns Holds t.columns
  pub indexes : OfIndexes Holds t.indexes

-- the descriptors of these heads are the same in both, and so is each of their objects, with its pages
abbrev pub SameTables : List (List ℕ) → List (List ℕ) → List ℕ → Type 0
SameTables all now [] = Unit {0}
SameTables all now (head ∷ heads) =
    (table_at now head ≡ table_at all head) × OfObjects (SameObject all now) (table_at all head) × SameTables all now heads

-- what heads lead to is the same in both: the tables with their pages, and the blocks that are reached
pub record SameReach (format : Format) (body : ℕ) (before heads : List ℕ) (first reached : List Bool) (all now : List (List ℕ)) : Type 0 where
  pub tables : SameTables all now heads
  pub walked : walked now first (tables_steps now format body before heads) ≡ Ok reached
