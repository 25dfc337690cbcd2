-- What publishing a root does, also where a stop cuts it short.
use Rattle.std.specs.Prelude.{◌≡◌, ◌⊎◌, ℕ, ◌+◌, ◌%◌, ◌^◌, ◌<◌, ◌≤◌, true, false, List, Some, Result, OnOk, slice_set}
use Rattle.iq_outside.specs.declared.device.Device.{Ghosts}
use Rattle.iq_outside.specs.Devices.{block_of, Stored, WholeBut}
use Rattle.iq_outside.specs.DeviceCalls.{view, KeepsPast, AddsAt, IsSettled}
use Rattle.iq_block_store.specs.Frames.{has_header, body_kind, gate_kind}
use Rattle.iq_root.specs.Roots.{least_format, most_format, body_place, gate_place, long_at, newest, body_block, gate_block}
use Rattle.iq_root.specs.Stops.{SameButSlot}
use Rattle.iq_root.specs.declared.root.Root.{Root}

-- the slot of a root
abbrev pub slot_of : Root → ℕ
slot_of root = root.generation % 2

-- blocks with a root in a slot, and this generation in its gate
abbrev pub with_slot : ℕ → Root → ℕ → List (List ℕ) → List (List ℕ)
with_slot slot root generation all =
    slice_set (slice_set all (body_place slot) (body_block slot root)) (gate_place slot) (gate_block slot generation)

-- the blocks once a root is published
abbrev pub published : Root → List (List ℕ) → List (List ℕ)
published root all = with_slot (slot_of root) root root.generation all

-- a root follows the newest: it has the next generation, and a format that counts
pub record Follows (all : List (List ℕ)) (last root : Root) : Type 0 where
  pub newest_is : newest all ≡ Some last
  pub next : root.generation ≡ last.generation + 1
  pub fits : root.generation < 2 ^ 63
  pub from : least_format ≤ root.format
  pub upto : root.format ≤ most_format

-- after a stop or an error: the last root is the newest; or the new one is, and all blocks outside its slot are these
pub data HasLastOrNew (all : List (List ℕ)) (last root : Root) (b : List (List ℕ)) : Type 0 where
  stays : newest b ≡ Some last → HasLastOrNew all last root b
  comes : newest b ≡ Some root → SameButSlot (slot_of root) all b → HasLastOrNew all last root b

-- the body in a root's slot has no right header, or an older generation than the last root
abbrev pub IsStale : List (List ℕ) → Root → Root → Type 0
IsStale all last root =
    has_header body_kind (body_place (slot_of root)) (block_of all (body_place (slot_of root))) ≡ true
    → long_at (block_of all (body_place (slot_of root))) 16 < last.generation

-- the body of a root is there, and all blocks outside its slot are these
pub record HasBody (all : List (List ℕ)) (root : Root) (b : List (List ℕ)) : Type 0 where
  pub body : block_of b (body_place (slot_of root)) ≡ body_block (slot_of root) root
  pub rest : SameButSlot (slot_of root) all b

-- the bytes of a gate read as others do: 24 of them decide, the header and the generation
pub record ReadsAs (at : ℕ) (x y : List ℕ) : Type 0 where
  pub header : has_header gate_kind at x ≡ has_header gate_kind at y
  pub generation : long_at x 16 ≡ long_at y 16

-- what a write to the gate in a root's slot may leave there: it reads as before, or as a closed one, or it has no right header, or
-- the body behind it is there already
pub data IsGateWhole (all : List (List ℕ)) (root : Root) (b : List (List ℕ)) : Type 0 where
  as_before : ReadsAs (gate_place (slot_of root)) (block_of b (gate_place (slot_of root))) (block_of all (gate_place (slot_of root)))
      → IsGateWhole all root b
  closed : long_at (block_of b (gate_place (slot_of root))) 16 ≡ 0 → IsGateWhole all root b
  headless : has_header gate_kind (gate_place (slot_of root)) (block_of b (gate_place (slot_of root))) ≡ false → IsGateWhole all root b
  behind_body : HasBody all root b → IsGateWhole all root b

-- a gate isn't torn: it has no right header, or it reads as bytes that were whole there
pub data IsUntorn (whole : List ℕ → Type 0) (at : ℕ) (x : List ℕ) : Type 0 where
  unheaded : has_header gate_kind at x ≡ false → IsUntorn whole at x
  as_whole : (y : List ℕ) → whole y → ReadsAs at x y → IsUntorn whole at x

-- What is taken for granted of a device that tears blocks: a stop at any moment from one to another leaves both gates untorn. It is
-- said once for a run, since it holds of fewer moments where it holds of more. Of bodies nothing is asked.
abbrev pub GatesUntorn : {D : Type 0} → Ghosts D → D → ℕ → ℕ → Type 0
GatesUntorn g now first last = (t : ℕ) (b : List (List ℕ)) → first ≤ t → t ≤ last → g.image now t b → (slot : ℕ) → slot < 2
    → IsUntorn (g.whole now t (gate_place slot)) (gate_place slot) (block_of b (gate_place slot))

-- the four blocks of roots are the same
abbrev pub SameRoots : List (List ℕ) → List (List ℕ) → Type 0
SameRoots all b = (i : ℕ) → i < 4 → block_of b i ≡ block_of all i

-- What a promise over stops takes for granted of the blocks of roots. No write to them waits for a sync; and the body in the slot to
-- be written is stale, or else no gate is torn meanwhile.
pub record RootsAreSafe {D : Type 0} (g : Ghosts D) (all : List (List ℕ)) (last root : Root) (old new : D) : Type 0 where
  pub settled : (b : List (List ℕ)) → g.image old (g.clock old) b → SameRoots all b
  pub torn : IsStale all last root ⊎ GatesUntorn g new (g.clock old) (g.clock new)

-- A block was written and synced. At Ok it is in its place and nothing waits any more; at a fault any bytes may be there.
pub record HasKept {D T E : Type 0} (g : Ghosts D) (at : ℕ) (block : List ℕ) (result : Result T E) (old new : D) : Type 0 where
  pub content : Stored at block result (g.blocks old) (g.blocks new)
  pub past : KeepsPast g old new
  pub since : AddsAt g at old new
  pub whole : WholeBut at block (view g old) (view g new)
  pub settled : OnOk result (IsSettled g new)
