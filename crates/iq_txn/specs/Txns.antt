-- What a running transaction has of a store's blocks, and what its calls leave of it.
use Rattle.std.specs.Prelude.{◌≡◌, ℕ, ◌≤◌, ◌<◌, List, [], ◌∷◌, ◌++◌, length, take, drop}
use Rattle.std.specs.List.{All}
use Rattle.iq_roomed.specs.Rooms.{Room, Becomes}
use Rattle.iq_free_list.specs.FreeList.{Free, put_all}
use Rattle.iq_txn.specs.declared.marks.Mark.{Mark}

-- The heads of its tables' descriptors, in order of the tables' names; the blocks that it took, in order of taking; those of
-- them that it lost again, since it wrote what stood there anew; and the blocks of the latest commit that it reaches no longer.
pub record TxnState : Type 0 where
  pub heads : List ℕ
  pub private : Room ℕ
  pub wasted : Room ℕ
  pub dropped : Room ℕ

-- it has these heads, and took no block
pub record IsBegun (heads : List ℕ) (new : TxnState) : Type 0 where
  pub heads_are : new.heads ≡ heads
  pub private : new.private.items ≡ []
  pub wasted : new.wasted.items ≡ []
  pub dropped : new.dropped.items ≡ []

-- a mark of what it has now
pub record IsMarked (now : TxnState) (mark : Mark) : Type 0 where
  pub heads : mark.heads ≡ now.heads
  pub private : mark.private ≡ length now.private.items
  pub wasted : mark.wasted ≡ length now.wasted.items
  pub dropped : mark.dropped ≡ length now.dropped.items

-- it has what it had at a mark
pub record IsBack (mark : Mark) (old new : TxnState) : Type 0 where
  pub heads : new.heads ≡ mark.heads
  pub private : Becomes old.private (take mark.private old.private.items) new.private
  pub wasted : Becomes old.wasted (take mark.wasted old.wasted.items) new.wasted
  pub dropped : Becomes old.dropped (take mark.dropped old.dropped.items) new.dropped

-- the blocks that were taken since a mark are free
pub record GivesHome (mark : Mark) (old : TxnState) (before after : Free) : Type 0 where
  pub blocks : after.blocks ≡ put_all (drop mark.private old.private.items) before.blocks
  pub count : after.count ≡ before.count

-- the lists as they were, but for the one that is named, whose items become these
pub record TakesBlocks (blocks : List ℕ) (old new : TxnState) : Type 0 where
  pub heads : new.heads ≡ old.heads
  pub private : Becomes old.private (old.private.items ++ blocks) new.private
  pub wasted : new.wasted ≡ old.wasted
  pub dropped : new.dropped ≡ old.dropped

pub record WastesBlock (block : ℕ) (old new : TxnState) : Type 0 where
  pub heads : new.heads ≡ old.heads
  pub private : new.private ≡ old.private
  pub wasted : Becomes old.wasted (old.wasted.items ++ block ∷ []) new.wasted
  pub dropped : new.dropped ≡ old.dropped

pub record DropsBlock (block : ℕ) (old new : TxnState) : Type 0 where
  pub heads : new.heads ≡ old.heads
  pub private : new.private ≡ old.private
  pub wasted : new.wasted ≡ old.wasted
  pub dropped : Becomes old.dropped (old.dropped.items ++ block ∷ []) new.dropped

-- the lists are the same, and no room is lost
pub record HasSameBlocks (old new : TxnState) : Type 0 where
  pub heads : new.heads ≡ old.heads
  pub private : Becomes old.private old.private.items new.private
  pub wasted : Becomes old.wasted old.wasted.items new.wasted
  pub dropped : Becomes old.dropped old.dropped.items new.dropped

-- there is room for so many blocks more in each list
pub record HasRoom (taken wasted dropped : ℕ) (now : TxnState) : Type 0 where
  pub private : taken ≤ now.private.room
  pub wasted_room : wasted ≤ now.wasted.room
  pub dropped_room : dropped ≤ now.dropped.room

-- its heads become others
abbrev pub with_heads : List ℕ → TxnState → TxnState
with_heads heads txn = record txn { heads = heads }

-- the blocks that it has taken are ones that there are
abbrev pub AreWithin : ℕ → TxnState → Type 0
AreWithin count txn = All (λ (b : ℕ). b < count) txn.private.items
