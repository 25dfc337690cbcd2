-- Objects that share what didn't change.
use Rattle.iq_block_map.specs.declared.map_bytes.TheConstants.{ROOM}
use Rattle.std.specs.Prelude.{◌≡◌, ◌≢◌, ◌⊎◌, ℕ, ◌+◌, ◌-◌, ◌*◌, ◌/◌, ◌<◌, ◌≤◌, true, false, List, [], ◌∷◌, ◌++◌, length, take, drop, nat_eq, if◌then◌else◌, slice_index, slice_set, Ok, Err, IsOk, Option, Some, Bool, suc, zero, nat_le, nat_lt, ◌||◌, ◌&&◌}
use Rattle.std.specs.List.{All, fold, list_any}
use Rattle.iq_base.specs.declared.refs.Ref.{Ref}
use Rattle.iq_block_map.specs.Maps.{is_address}
use Rattle.iq_block_map.specs.Objects.{used_in, map_at, leaves_of, addresses_of, address_of, blocks_of, top_of, leaf_count}
use Rattle.iq_block_map.specs.Takers.{taken_of}
use Rattle.iq_block_map.specs.Writing.{holds}

-- pages with some replaced, each of which is a number, from a first one on, and a block
abbrev pub replaced_from : ℕ → List ℕ → List (ℕ × ℕ) → List ℕ
replaced_from first xs changed = fold (λ (ys : List ℕ) (c : ℕ × ℕ). slice_set ys (c.0 - first) c.1) xs changed

-- pages with some replaced and others added
abbrev pub edited : List ℕ → List (ℕ × ℕ) → List ℕ → List ℕ
edited xs changed added = replaced_from 0 xs changed ++ added

-- the pages of one leaf
abbrev pub piece : ℕ → List ℕ → List ℕ
piece k xs = take ROOM (drop (ROOM * k) xs)

-- of two lists the items of the second that the first hasn't in the same place
abbrev pub fresh : List ℕ → List ℕ → List ℕ
fresh xs [] = []
fresh xs (y ∷ ys) = (if nat_eq (slice_index xs 0) y then [] else y ∷ []) ++ fresh (drop 1 xs) ys

-- whether two lists are the same
abbrev pub same_list : List ℕ → List ℕ → Bool
same_list [] [] = true
same_list [] (y ∷ ys) = false
same_list (x ∷ xs) [] = false
same_list (x ∷ xs) (y ∷ ys) = nat_eq x y && same_list xs ys

-- one for what is not so
abbrev pub one_unless : Bool → ℕ
one_unless true = 0
one_unless false = 1

-- how many of the first leaves name other pages than before
abbrev pub differing : ℕ → List ℕ → List ℕ → ℕ
differing zero xs ys = 0
differing (suc n) xs ys = differing n xs ys + one_unless (same_list (piece n ys) (piece n xs))

-- how many maps an object with some pages needs beside those of the object that it is made of
abbrev pub maps_needed : List ℕ → List ℕ → ℕ
maps_needed xs ys = differing (leaf_count (length ys)) xs ys + one_unless (nat_le (length ys) ROOM || same_list ys xs)

-- page numbers that ascend, from a first one on and below an end
abbrev pub AreChanges : ℕ → ℕ → List (ℕ × ℕ) → Type 0
AreChanges first end [] = Unit {0}
AreChanges first end ((n, a) ∷ changed) = (first ≤ n) × (n < end) × AreChanges (n + 1) end changed

-- blocks that pages may be in
abbrev pub AreBlocks : Option (List (List ℕ)) → List ℕ → Type 0
AreBlocks told xs = (all : List (List ℕ)) → told ≡ Some all → All (λ a. is_address (length all) a ≡ true) xs

abbrev pub new_blocks : List (ℕ × ℕ) → List ℕ
new_blocks [] = []
new_blocks ((n, a) ∷ changed) = a ∷ new_blocks changed

-- no block that may be taken is a map of an object, or a page that its maps name
pub record AreApart (all : List (List ℕ)) (object : Ref) (left : List ℕ) : Type 0 where
  pub top : All (λ b. holds left b ≡ false) (top_of true object)
  pub leaves : (ls : List ℕ) → leaves_of all object ≡ Ok ls → All (λ b. holds left b ≡ false) ls
  pub pages : (n a : ℕ) → n < object.pages → address_of all object n ≡ Ok a → holds left a ≡ false

-- the maps of an object and those of another that was made of it: what was taken are those that differ, and none differs
-- without need
pub record SharesMaps (old new : Ref) (xs ys before after ls ms : List ℕ) : Type 0 where
  pub taken : before ≡ (fresh ls ms ++ fresh (top_of true old) (top_of true new)) ++ after
  pub leaves : (k : ℕ) → k < length ms → piece k ys ≡ piece k xs → slice_index ms k ≡ slice_index ls k
  pub whole : ys ≡ xs → new ≡ old

-- whether some changes are of pages that a leaf names
abbrev pub touches : ℕ → List (ℕ × ℕ) → Bool
touches k changed = list_any (λ (c : ℕ × ℕ). nat_eq (c.0 / ROOM) k) changed

-- whether an edit reads a leaf of so many pages: it changes a page of it, or adds one where the leaf isn't full
abbrev pub is_touched : ℕ → List (ℕ × ℕ) → List ℕ → ℕ → Bool
is_touched pages changed added k = touches k changed || (nat_lt 0 (length added) && nat_lt (used_in pages k) ROOM)

-- an object stands in a store that is told, apart from what may be taken
pub record StandsApart (told : Option (List (List ℕ))) (object : Ref) (left : List ℕ) (all : List (List ℕ)) : Type 0 where
  pub is : told ≡ Some all
  pub apart : AreApart all object left

-- and its maps are right: its pages are in these blocks
pub record StandsWhole (told : Option (List (List ℕ))) (object : Ref) (left : List ℕ) (all : List (List ℕ)) (xs : List ℕ) : Type 0 where
  pub is : told ≡ Some all
  pub apart : AreApart all object left
  pub pages : addresses_of all object ≡ Ok xs

-- the maps that an edit reads are right: the topmost one, and the leaves that it touches
pub record ReadsRight (object : Ref) (changed : List (ℕ × ℕ)) (added : List ℕ) (all : List (List ℕ)) : Type 0 where
  pub ls : List ℕ
  pub top : leaves_of all object ≡ Ok ls
  pub leaves : (k : ℕ) → k < length ls → is_touched object.pages changed added k ≡ true
      → IsOk (map_at all 1 (used_in object.pages k) (slice_index ls k))

-- a leaf that an edit touches isn't right as the device is after it, since nothing is written after the leaf was read
pub record IsBadLeaf (object : Ref) (changed : List (ℕ × ℕ)) (added : List ℕ) (block : ℕ) (all now : List (List ℕ)) : Type 0 where
  pub ls : List ℕ
  pub top : leaves_of all object ≡ Ok ls
  pub k : ℕ
  pub within : k < length ls
  pub touched : is_touched object.pages changed added k ≡ true
  pub bad : map_at now 1 (used_in object.pages k) (slice_index ls k) ≡ Err block

-- a block that an edit reads isn't right: the topmost map, or a leaf
abbrev pub IsBadMap : Ref → List (ℕ × ℕ) → List ℕ → ℕ → List (List ℕ) → List (List ℕ) → Type 0
IsBadMap object changed added block all now =
    (leaves_of all object ≡ Err block) ⊎ IsBadLeaf object changed added block all now

-- the same where the device tells its blocks
abbrev pub TellsBadMap : Option (List (List ℕ)) → Option (List (List ℕ)) → Ref → List (ℕ × ℕ) → List ℕ → ℕ → Type 0
TellsBadMap told told_now object changed added block =
    (all now : List (List ℕ)) → told ≡ Some all → told_now ≡ Some now → IsBadMap object changed added block all now

-- a leaf, which is right where the object has it, names other pages after an edit than before
abbrev pub ChangesLeaf : Ref → List (ℕ × ℕ) → List ℕ → List (List ℕ) → List ℕ → ℕ → Type 0
ChangesLeaf object changed added all ls k =
    (xs : List ℕ) → length xs ≡ object.pages → (k < length ls → map_at all 1 (used_in object.pages k) (slice_index ls k) ≡ Ok (piece k xs))
    → piece k (edited xs changed added) ≢ piece k xs

-- an edit is at a leaf whose pages become other ones, or behind all leaves at the map above them, and what it read is right
pub record NeedsMap (object : Ref) (changed : List (ℕ × ℕ)) (added : List ℕ) (all : List (List ℕ)) : Type 0 where
  pub ls : List ℕ
  pub top : leaves_of all object ≡ Ok ls
  pub k : ℕ
  pub read : (j : ℕ) → j < length ls → j ≤ k → is_touched object.pages changed added j ≡ true
      → IsOk (map_at all 1 (used_in object.pages j) (slice_index ls j))
  pub needs : ChangesLeaf object changed added all ls k ⊎ ((leaf_count object.pages ≤ k) × (ROOM < object.pages + length added))

-- too few blocks are left: none now, fewer were than any such edit may take, one is needed, and where all maps are right fewer were left than maps are needed
pub record LacksMaps (told : Option (List (List ℕ))) (object : Ref) (changed : List (ℕ × ℕ)) (added before after : List ℕ) : Type 0 where
  pub none : after ≡ []
  pub room : length before ≤ leaf_count (object.pages + length added)
  pub needs : (all : List (List ℕ)) → StandsApart told object before all → NeedsMap object changed added all
  pub fewer : (all : List (List ℕ)) (xs : List ℕ) → StandsWhole told object before all xs
      → length before < maps_needed xs (edited xs changed added)

-- an object reaches blocks, each of which the old one reached, is one of its pages, or was taken
pub record ReachesAmong (all now : List (List ℕ)) (old new : Ref) (pages taken : List ℕ) : Type 0 where
  pub blocks : List ℕ
  pub is : blocks_of now new ≡ Ok blocks
  pub among : (reached : List ℕ) → blocks_of all old ≡ Ok reached → All (λ b. holds (reached ++ (pages ++ taken)) b ≡ true) blocks

-- an object with some pages became one with others
pub record HasRemapped (all now : List (List ℕ)) (old new : Ref) (xs ys before after : List ℕ) : Type 0 where
  pub size : new.pages ≡ length ys
  pub addresses : addresses_of now new ≡ Ok ys
  pub count : length before ≡ maps_needed xs ys + length after
  pub maps : (ls ms : List ℕ) → leaves_of all old ≡ Ok ls → leaves_of now new ≡ Ok ms → SharesMaps old new xs ys before after ls ms
  pub reach : ReachesAmong all now old new ys (taken_of before after)
  pub apart : All (λ b. holds after b ≡ false) ys → AreApart now new after

-- an object was edited: the maps that were read are right, and where all are, it became one with the edited pages
pub record HasEdited (told told_now : Option (List (List ℕ))) (object : Ref) (changed : List (ℕ × ℕ)) (added before after : List ℕ) (new : Ref) : Type 0 where
  pub read : 1 ≤ length changed + length added → (all : List (List ℕ)) → StandsApart told object before all
      → ReadsRight object changed added all
  pub remapped : (all now : List (List ℕ)) (xs : List ℕ) → StandsWhole told object before all xs → told_now ≡ Some now
      → HasRemapped all now object new xs (edited xs changed added) before after
