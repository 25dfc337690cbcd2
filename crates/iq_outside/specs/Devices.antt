-- What one call of a device did, as its caller sees it. A device is seen by six members: its blocks where it tells them, its count
-- of faults, whether it tells what a stop may leave, the present moment, what a stop at a moment may have left, and which bytes of
-- a block were whole then.
use Rattle.std.specs.Prelude.{◌≡◌, ◌≢◌, ◌⊎◌, ℕ, ◌-◌, ◌<◌, ◌≤◌, Bool, IsTrue, List, [], ◌++◌, length, take, Option, Some, None, Result, OnOk, OnErr, IfOk, replicate, slice_index_or, slice_set}
use Rattle.iq_outside.specs.Faults.{CountsFaults}

-- a block of zeros
unfoldable pub zero_block : List ℕ
zero_block = replicate 1024 0

-- the block in a place, or no bytes past the end
abbrev pub block_of : List (List ℕ) → ℕ → List ℕ
block_of blocks i = slice_index_or blocks i []

-- there is a block in this place, where the blocks are told
abbrev pub HasPlace : Option (List (List ℕ)) → ℕ → Type 0
HasPlace told at = (all : List (List ℕ)) → told ≡ Some all → at < length all

-- two lists of blocks differ at most in this place
pub record SameBut (at : ℕ) (old new : List (List ℕ)) : Type 0 where
  pub size : length new ≡ length old
  pub others : (i : ℕ) → i ≢ at → block_of new i ≡ block_of old i

-- a count: at Ok it is the number of the blocks, and they stay
pub record Counted {E : Type 0} (result : Result ℕ E) (old new : Option (List (List ℕ))) : Type 0 where
  pub told : (blocks : List (List ℕ)) → old ≡ Some blocks → IfOk result (λ n. n ≡ length blocks)
  pub unchanged : new ≡ old

-- a read: at Ok the buffer is the block in this place, and all stay
pub record Fetched {T E : Type 0} (at : ℕ) (into : List ℕ) (result : Result T E) (old new : Option (List (List ℕ))) : Type 0 where
  pub told : (blocks : List (List ℕ)) → old ≡ Some blocks → OnOk result (into ≡ block_of blocks at)
  pub unchanged : new ≡ old

-- a write: at Ok this block is in its place, at Failed any bytes may be there, and the others stay; a device that doesn't tell its
-- blocks goes on so
pub record Stored {T E : Type 0} (at : ℕ) (block : List ℕ) (result : Result T E) (old new : Option (List (List ℕ))) : Type 0 where
  pub ok : (blocks : List (List ℕ)) → old ≡ Some blocks → OnOk result (new ≡ Some (slice_set blocks at block))
  pub err : (blocks : List (List ℕ)) → old ≡ Some blocks
      → OnErr result ((after : List (List ℕ)) × (new ≡ Some after) × SameBut at blocks after)
  pub untold : old ≡ None → new ≡ None

-- the first so many blocks, and then blocks of zeros
abbrev pub resized : ℕ → List (List ℕ) → List (List ℕ)
resized n blocks = take n blocks ++ replicate (n - length blocks) zero_block

-- a change of the number of blocks: at Failed the blocks that both lists would have stay; a device that doesn't tell its blocks
-- goes on so
pub record Cut {T E : Type 0} (n : ℕ) (result : Result T E) (old new : Option (List (List ℕ))) : Type 0 where
  pub ok : (blocks : List (List ℕ)) → old ≡ Some blocks → OnOk result (new ≡ Some (resized n blocks))
  pub err : (blocks : List (List ℕ)) → old ≡ Some blocks
      → OnErr result ((after : List (List ℕ)) × (new ≡ Some after) × (take n (take (length blocks) after) ≡ take n blocks))
  pub untold : old ≡ None → new ≡ None

-- what is seen of a device at one time
pub record Seen : Type 1 where
  pub blocks : Option (List (List ℕ))
  pub faults : ℕ
  pub tells : Bool
  pub clock : ℕ
  pub image : ℕ → List (List ℕ) → Type 0
  pub whole : ℕ → ℕ → List ℕ → Type 0

-- what is seen of a value, by the six meanings of its type
abbrev pub seen : {D : Type 0} → (D → Option (List (List ℕ))) → (D → ℕ) → (D → Bool) → (D → ℕ) → (D → ℕ → List (List ℕ) → Type 0)
    → (D → ℕ → ℕ → List ℕ → Type 0) → D → Seen
seen blocks faults tells clock image whole d = record {
  blocks = blocks d;
  faults = faults d;
  tells = tells d;
  clock = clock d;
  image = image d;
  whole = whole d;
}

-- Time goes on: the present moment never falls, and what a stop at an earlier one may have left, and what was whole then, stays the
-- same.
pub record GoesOn (old new : Seen) : Type 0 where
  pub same : new.tells ≡ old.tells
  pub later : old.clock ≤ new.clock
  pub keeps : (t : ℕ) (b : List (List ℕ)) → t ≤ old.clock → old.image t b → new.image t b
  pub no_more : (t : ℕ) (b : List (List ℕ)) → t ≤ old.clock → new.image t b → old.image t b
  pub keeps_whole : (t i : ℕ) (x : List ℕ) → t ≤ old.clock → old.whole t i x → new.whole t i x
  pub whole_before : (t i : ℕ) (x : List ℕ) → t ≤ old.clock → new.whole t i x → old.whole t i x

-- what a stop meanwhile may leave, a stop before could have left too
abbrev pub StopsSame : Seen → Seen → Type 0
StopsSame old new = (t : ℕ) (b : List (List ℕ)) → old.clock ≤ t → t ≤ new.clock → new.image t b → old.image old.clock b

-- what a stop meanwhile may leave differs in one place from what a stop before could have left
abbrev pub StopsBut : ℕ → Seen → Seen → Type 0
StopsBut at old new = (t : ℕ) (b : List (List ℕ)) → old.clock ≤ t → t ≤ new.clock → new.image t b
    → (c : List (List ℕ)) × old.image old.clock c × SameBut at c b

-- the bytes that are whole meanwhile were whole before
abbrev pub WholeSame : Seen → Seen → Type 0
WholeSame old new = (t i : ℕ) (x : List ℕ) → old.clock ≤ t → t ≤ new.clock → new.whole t i x → old.whole old.clock i x

-- the bytes that are whole meanwhile were whole before, or are this block in its place
abbrev pub WholeBut : ℕ → List ℕ → Seen → Seen → Type 0
WholeBut at block old new = (t i : ℕ) (x : List ℕ) → old.clock ≤ t → t ≤ new.clock → new.whole t i x
    → old.whole old.clock i x ⊎ ((i ≡ at) × (x ≡ block))

-- a call that changes something raises the clock, or fails and changes no block
pub record Raises {T E : Type 0} (result : Result T E) (old new : Seen) : Type 0 where
  pub ok : OnOk result (old.clock < new.clock)
  pub err : OnErr result ((old.clock < new.clock) ⊎ (new.blocks ≡ old.blocks))

-- a stop now leaves what a read gives, and nothing else
abbrev pub Settled : Seen → Type 0
Settled now = (b : List (List ℕ)) → now.image now.clock b → now.blocks ≡ Some b

-- a call of count
pub record Counts {E : Type 0} (result : Result ℕ E) (old new : Seen) : Type 0 where
  pub content : Counted result old.blocks new.blocks
  pub counts : CountsFaults result old.faults new.faults
  pub past : GoesOn old new
  pub since : StopsSame old new
  pub whole : WholeSame old new

-- a call of read
pub record Reads {T E : Type 0} (at : ℕ) (into : List ℕ) (result : Result T E) (old new : Seen) : Type 0 where
  pub content : Fetched at into result old.blocks new.blocks
  pub counts : CountsFaults result old.faults new.faults
  pub past : GoesOn old new
  pub since : StopsSame old new
  pub whole : WholeSame old new

-- a call of write
pub record Writes {T E : Type 0} (at : ℕ) (block : List ℕ) (result : Result T E) (old new : Seen) : Type 0 where
  pub content : Stored at block result old.blocks new.blocks
  pub counts : CountsFaults result old.faults new.faults
  pub past : GoesOn old new
  pub since : StopsBut at old new
  pub whole : WholeBut at block old new
  pub raises : IsTrue old.tells → Raises result old new

-- a call of resize; nothing is said of what a stop within it leaves
pub record Resizes {T E : Type 0} (n : ℕ) (result : Result T E) (old new : Seen) : Type 0 where
  pub content : Cut n result old.blocks new.blocks
  pub counts : CountsFaults result old.faults new.faults
  pub past : GoesOn old new
  pub raises : IsTrue old.tells → Raises result old new

-- a call of sync: at Ok nothing waits any more
pub record Syncs {T E : Type 0} (result : Result T E) (old new : Seen) : Type 0 where
  pub content : new.blocks ≡ old.blocks
  pub counts : CountsFaults result old.faults new.faults
  pub past : GoesOn old new
  pub since : StopsSame old new
  pub whole : WholeSame old new
  pub settled : OnOk result (Settled new)
  pub raises : IsTrue old.tells → Raises result old new

-- bytes that are whole in a block now are what a stop now may leave there
abbrev pub WholeMayStay : Seen → Type 0
WholeMayStay now = (all : List (List ℕ)) (i : ℕ) (x : List ℕ) → now.blocks ≡ Some all → i < length all → now.whole now.clock i x
    → (b : List (List ℕ)) × now.image now.clock b × (block_of b i ≡ x)
