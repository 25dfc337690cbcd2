-- What calls on an opened object do, and why they fail.
use Rattle.std.specs.Prelude.{◌≡◌, ℕ, ◌<◌, ◌≤◌, List, [], ◌++◌, length, Ok, Option, Some, slice_index}
use Rattle.iq_outside.specs.Faults.{RoseWithin}
use Rattle.iq_block_map.specs.declared.faults.MapFault.{MapFault}
use Rattle.iq_block_map.specs.declared.faults.MapFault.TheVariants.{StoreFault, BadMap, NoSpace, NoMemory}
use Rattle.iq_block_map.specs.Objects.{contents}
use Rattle.iq_block_map.specs.Takers.{taken_of}
use Rattle.iq_block_map.specs.Laws.{times}
use Rattle.iq_objects.specs.Open.{Held, unwritten, with_lost}

-- the pages hold what they held, but for a change
abbrev pub ChangesContents : Option (List (List ℕ)) → Option (List (List ℕ)) → (List (List ℕ) → List (List ℕ)) → Held → Held → Type 0
ChangesContents told told_now change old new =
    (all now ps : List (List ℕ)) → told ≡ Some all → told_now ≡ Some now → contents all (Ok old.pages) ≡ Some ps
    → contents now (Ok new.pages) ≡ Some (change ps)

-- a block was taken and the object changed by it
abbrev pub TakesFor : (ℕ → Held → Held) → List ℕ → Held → Held → Type 0
TakesFor change before old new = new ≡ change (slice_index before 0) old

-- the object is as before, but that blocks were taken which it has lost
abbrev pub LosesTaken : List ℕ → List ℕ → Held → Held → Type 0
LosesTaken before after old new = new ≡ with_lost (old.lost ++ taken_of before after) old

-- a page or a map wasn't written: none was left to take, the count of faults rose meanwhile, or memory was wanting
abbrev pub IsWriteFault : Type 0 → MapFault → ℕ → ℕ → Type 0
IsWriteFault Lacks (StoreFault before after) first last = RoseWithin first before after last
IsWriteFault Lacks (BadMap block) first last = ⊥
IsWriteFault Lacks NoSpace first last = Lacks
IsWriteFault Lacks NoMemory first last = Unit {0}

-- none is left, and fewer were than there are maps to write
pub record LacksWrites (o : Held) (before after : List ℕ) : Type 0 where
  pub none : after ≡ []
  pub fewer : length before < unwritten o

-- maps were written: the pages are in the same blocks, and a map that was written before stays where it is
pub record WritesMaps (old new : Held) : Type 0 where
  pub pages : new.pages ≡ old.pages
  pub size : length new.leaves ≡ length old.leaves
  pub leaves : (k : ℕ) → 1 ≤ slice_index old.leaves k → slice_index new.leaves k ≡ slice_index old.leaves k
  pub top : 1 ≤ old.top → new.top ≡ old.top

-- the same of leaves alone
pub record LacksLeaves (o : Held) (before after : List ℕ) : Type 0 where
  pub none : after ≡ []
  pub fewer : length before < times 0 o.leaves
