-- A record of the changes to blocks in memory, and what a stop at each moment may leave by it. A moment is the number of changes
-- before it.
use Rattle.std.specs.Prelude.{◌≡◌, ◌≢◌, ◌⊎◌, ◌||◌, ℕ, ◌<◌, Bool, true, false, List, [], ◌∷◌, ◌++◌, length, take, drop, fold, nat_eq, slice_set, Option, Some, None, IfSome, if◌then◌else◌}
use Rattle.std.proofs.Common.{refl, ap, sym, subst, ◌∙◌, inl, inr, arith, length-set, get_or-set_same, get_or-set_other}
use Rattle.std.proofs.Math.Seq.{drop-length}
use Rattle.std.proofs.lemmas.List.{take_all}
use Rattle.std.specs.List.{list_any}
use Rattle.iq_outside.specs.Devices.{block_of, Seen, WholeMayStay}
use Rattle.iq_outside.specs.Picks.{picked}
use Rattle.iq_outside.specs.declared.pick.Pick.{Pick}
use Rattle.iq_outside.specs.declared.recorded.Change.{Change}
use Rattle.iq_outside.specs.declared.recorded.Change.TheVariants.{Wrote, Resized, Synced}

-- the blocks as they are read, and the changes so far
pub record Recording : Type 0 where
  pub blocks : List (List ℕ)
  pub changes : List Change

-- the blocks before a change
abbrev pub undone : Change → List (List ℕ) → List (List ℕ)
undone (Wrote at old) blocks = slice_set blocks at old
undone (Resized before dropped) blocks = take before blocks ++ dropped
undone Synced blocks = blocks

-- the blocks before some changes, in order
abbrev pub undone_all : List Change → List (List ℕ) → List (List ℕ)
undone_all [] blocks = blocks
undone_all (change ∷ changes) blocks = undone change (undone_all changes blocks)

-- the blocks that wait for a sync after one more change
abbrev pub waiting_after : List ℕ → Change → List ℕ
waiting_after waiting (Wrote at old) = at ∷ waiting
waiting_after waiting (Resized before dropped) = waiting
waiting_after waiting Synced = []

-- the blocks that wait for a sync after some changes
abbrev pub waiting : List Change → List ℕ
waiting changes = fold waiting_after [] changes

-- any bytes in the blocks that wait for a sync, and the others as they are
pub record IsTorn (blocks : List (List ℕ)) (waiting : List ℕ) (image : List (List ℕ)) : Type 0 where
  pub size : length image ≡ length blocks
  pub others : (i : ℕ) → list_any (nat_eq i) waiting ≡ false → block_of image i ≡ block_of blocks i

-- what a stop at a moment may leave
abbrev pub recorded_image : Recording → ℕ → List (List ℕ) → Type 0
recorded_image now t image = IsTorn (undone_all (drop t now.changes) now.blocks) (waiting (take t now.changes)) image

-- the bytes that a block had before each write to it that waits for a sync, after one more change
abbrev pub overwritten_after : ℕ → List (List ℕ) → Change → List (List ℕ)
overwritten_after i olds (Wrote at old) = if nat_eq i at then old ∷ olds else olds
overwritten_after i olds (Resized before dropped) = olds
overwritten_after i olds Synced = []

-- the bytes that a block had before each write to it that waits for a sync
abbrev pub overwritten : ℕ → List Change → List (List ℕ)
overwritten i changes = fold (overwritten_after i) [] changes

-- one of some blocks
abbrev pub IsAmong : List ℕ → List (List ℕ) → Type 0
IsAmong x [] = ⊥
IsAmong x (y ∷ ys) = (x ≡ y) ⊎ IsAmong x ys

-- The bytes that are whole in a block at a moment: those that are read, and those that a write since the last sync replaced. So they
-- are the bytes of that sync and those of each write since.
abbrev pub recorded_whole : Recording → ℕ → ℕ → List ℕ → Type 0
recorded_whole now t i x =
    (x ≡ block_of (undone_all (drop t now.changes) now.blocks) i) ⊎ IsAmong x (overwritten i (take t now.changes))

-- a record as a device, with its count of faults: it tells its blocks, and what a stop may leave
abbrev pub recording_seen : ℕ → Recording → Seen
recording_seen faults now = record {
  blocks = Some now.blocks;
  faults = faults;
  tells = true;
  clock = length now.changes;
  image = recorded_image now;
  whole = recorded_whole now;
}

-- What a pick leaves where a run stops, of changes the last of which comes first: those since the last sync are taken back, each
-- block that was written to a pick of its bytes now and before.
abbrev pub stopped : Pick → List Change → List (List ℕ) → List (List ℕ)
stopped pick [] blocks = blocks
stopped pick (Wrote at old ∷ changes) blocks = stopped pick changes (slice_set blocks at (picked pick (block_of blocks at) old))
stopped pick (Resized before dropped ∷ changes) blocks = stopped pick changes blocks
stopped pick (Synced ∷ changes) blocks = blocks

-- one more change, which leads from the old blocks to the new
pub record Adds (change : Change) (old new : Recording) : Type 0 where
  pub changes : new.changes ≡ old.changes ++ change ∷ []
  pub undone : undone change new.blocks ≡ old.blocks

-- a stop may leave all as it is read
pub image_read : (now : Recording) → recorded_image now (length now.changes) now.blocks
image_read now = record {
  size = ap (λ (cs : List Change). length (undone_all cs now.blocks)) (sym (drop-length now.changes));
  others = λ i free. ap (λ (cs : List Change). block_of (undone_all cs now.blocks) i) (sym (drop-length now.changes));
}

pub image_told : (now : Recording) (all : List (List ℕ)) → Some now.blocks ≡ Some all → recorded_image now (length now.changes) all
image_told now all told =
    subst (λ (o : Option (List (List ℕ))). IfSome o (recorded_image now (length now.changes))) told (image_read now)

-- a block that has bytes which a write replaced since the last sync waits for one
waits_more : (v any : Bool) (x old : List ℕ) (olds : List (List ℕ)) → (IsAmong x olds → any ≡ true)
    → IsAmong x (if v then old ∷ olds else olds) → (v || any) ≡ true
waits_more true any x old olds waits among = refl
waits_more false any x old olds waits among = waits among

waits_after : (i : ℕ) (x : List ℕ) (changes : List Change) (w : List ℕ) (olds : List (List ℕ))
    → (IsAmong x olds → list_any (nat_eq i) w ≡ true) → IsAmong x (fold (overwritten_after i) olds changes)
    → list_any (nat_eq i) (fold waiting_after w changes) ≡ true
waits_after i x [] w olds waits among = waits among
waits_after i x (Wrote at old ∷ changes) w olds waits among =
    waits_after i x changes (at ∷ w) (if nat_eq i at then old ∷ olds else olds)
    (waits_more (nat_eq i at) (list_any (nat_eq i) w) x old olds waits) among
waits_after i x (Resized before dropped ∷ changes) w olds waits among = waits_after i x changes w olds waits among
waits_after i x (Synced ∷ changes) w olds waits among = waits_after i x changes [] [] (λ none. absurd none) among

-- the bytes that are whole in a block now, a stop may leave there
waits_apart : (now : Recording) (i : ℕ) (x : List ℕ) → IsAmong x (overwritten i now.changes) → (j : ℕ)
    → list_any (nat_eq j) (waiting now.changes) ≡ false → j ≢ i
waits_apart now i x among j free is =
    cc (waits_after i x now.changes [] [] (λ none. absurd none) among, rw is at free)

whole_torn : (now : Recording) (i : ℕ) (x : List ℕ) → i < length now.blocks → recorded_whole now (length now.changes) i x
    → (b : List (List ℕ)) × recorded_image now (length now.changes) b × (block_of b i ≡ x)
whole_torn now i x within (inl is) =
    (now.blocks, image_read now, sym (is ∙ ap (λ (cs : List Change). block_of (undone_all cs now.blocks) i) (drop-length now.changes)))
whole_torn now i x within (inr some) =
    let all_changes : take (length now.changes) now.changes ≡ now.changes = take_all (length now.changes) now.changes (omega arith) in
    let among : IsAmong x (overwritten i now.changes) = rw all_changes at some in (
      slice_set now.blocks i x,
      record {
        size = length-set now.blocks i x ∙ (image_read now).size;
        others = λ j free.
            get_or-set_other now.blocks i j x [] (waits_apart now i x among j (rw all_changes at free)) ∙ (image_read now).others j free;
      },
      get_or-set_same now.blocks i x [] within,
    )

pub whole_told : (faults : ℕ) (now : Recording) → WholeMayStay (recording_seen faults now)
whole_told faults now all i x told within whole =
    whole_torn now i x (omega (arith, within, ap (λ (o : Option (List (List ℕ))). size_of o) told)) whole
  where
    size_of : Option (List (List ℕ)) → ℕ
    size_of None = 0
    size_of (Some blocks) = length blocks
