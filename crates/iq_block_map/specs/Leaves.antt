-- Leaves and topmost maps, one at a time: what the calls between a remap and its blocks say of each.
use Rattle.iq_block_map.specs.declared.map_bytes.TheConstants.{ROOM}
use Rattle.std.specs.Prelude.{◌≡◌, ◌≢◌, ◌⊎◌, ℕ, ◌+◌, ◌-◌, ◌<◌, ◌≤◌, true, false, List, [], ◌∷◌, ◌++◌, length, take, drop, replicate, nat_eq, nat_lt, Bool, if◌then◌else◌, slice_index, slice_set, Result, Ok, Err, IsOk, Option, Some}
use Rattle.std.specs.List.{All}
use Rattle.iq_base.specs.declared.refs.Ref.{Ref}
use Rattle.iq_block_map.specs.Maps.{map_block}
use Rattle.iq_block_map.specs.Objects.{leaf_count, used_in, map_at, listed}
use Rattle.iq_block_map.specs.Refs.{MayBe, WhereTold}
use Rattle.iq_block_map.specs.Writing.{holds}
use Rattle.iq_block_map.specs.Editing.{piece, fresh, differing, edited, replaced_from, is_touched}

-- whether a change is of a page before one
abbrev pub below : ℕ → ℕ × ℕ → Bool
below end c = nat_lt c.0 end

-- a map's numbers are the leaves of an object with some pages, none of which may be taken
pub record IsOpened (all : List (List ℕ)) (object : Ref) (ps xs left : List ℕ) : Type 0 where
  pub may : MayBe (length all) (leaf_count object.pages) ps
  pub listed : listed false all object.pages (take (leaf_count object.pages) ps) ≡ Ok xs
  pub apart : All (λ b. holds left b ≡ false) (take (leaf_count object.pages) ps)

-- the same where the leaves may be wrong
pub record AreOpened (all : List (List ℕ)) (object : Ref) (ps left : List ℕ) : Type 0 where
  pub may : MayBe (length all) (leaf_count object.pages) ps
  pub apart : All (λ b. holds left b ≡ false) (take (leaf_count object.pages) ps)

-- a leaf: where it is, its first page, and how many it names
abbrev pub leaf_at : List (List ℕ) → ℕ → ℕ → Result (List ℕ) ℕ
leaf_at all used at = if nat_eq used 0 then Ok [] else map_at all 1 used at

-- fewer blocks are left than the leaves take whose pages are other ones
abbrev pub LacksLeaf : List ℕ → List ℕ → List ℕ → Type 0
LacksLeaf left xs ys = length left < differing (leaf_count (length ys)) xs ys

-- an edit read these leaves right, up to an end, where it touches them
abbrev pub ReadsLeaves : List (List ℕ) → Ref → List ℕ → List (ℕ × ℕ) → List ℕ → ℕ → Type 0
ReadsLeaves all object ps changed added end =
    (k : ℕ) → k < leaf_count object.pages → k < end → is_touched object.pages changed added k ≡ true
    → IsOk (map_at all 1 (used_in object.pages k) (slice_index ps k))

-- a block is a leaf that an edit touches, and isn't right
pub record IsBadPlace (object : Ref) (ps : List ℕ) (changed : List (ℕ × ℕ)) (added : List ℕ) (block : ℕ) (now : List (List ℕ)) : Type 0 where
  pub k : ℕ
  pub within : k < leaf_count object.pages
  pub touched : is_touched object.pages changed added k ≡ true
  pub bad : map_at now 1 (used_in object.pages k) (slice_index ps k) ≡ Err block

-- an edit is at a leaf whose pages become other ones, and what it read before is right
pub record NeedsLeaf (object : Ref) (ps : List ℕ) (changed : List (ℕ × ℕ)) (added : List ℕ) (all : List (List ℕ)) : Type 0 where
  pub k : ℕ
  pub read : ReadsLeaves all object ps changed added (k + 1)
  pub differs : (xs : List ℕ) → length xs ≡ object.pages → leaf_at all (used_in object.pages k) (slice_index ps k) ≡ Ok (piece k xs)
      → piece k (edited xs changed added) ≢ piece k xs

-- none is left for a leaf that must be written
pub record LacksLeaves (told : Option (List (List ℕ))) (object : Ref) (ps : List ℕ) (changed : List (ℕ × ℕ)) (added before after : List ℕ) : Type 0 where
  pub none : after ≡ []
  pub room : length before < leaf_count (object.pages + length added)
  pub needs : (all : List (List ℕ)) → told ≡ Some all → AreOpened all object ps before → NeedsLeaf object ps changed added all
  pub fewer : (all : List (List ℕ)) (xs : List ℕ) → told ≡ Some all → IsOpened all object ps xs before
      → LacksLeaf before xs (edited xs changed added)

-- none is left for one leaf, which was read right and must be written
pub record LacksOne (told : Option (List (List ℕ))) (used at first : ℕ) (here : List (ℕ × ℕ)) (more before after : List ℕ) : Type 0 where
  pub had : before ≡ []
  pub none : after ≡ []
  pub some : 1 ≤ length here + length more
  pub read : (all : List (List ℕ)) → told ≡ Some all → IsOk (leaf_at all used at)
  pub differs : (all : List (List ℕ)) (xs : List ℕ) → told ≡ Some all → leaf_at all used at ≡ Ok xs → (replaced_from first xs here ++ more) ≢ xs

-- a leaf that had to be read isn't right
pub record IsBadOne (used at : ℕ) (here : List (ℕ × ℕ)) (more : List ℕ) (block : ℕ) (now : List (List ℕ)) : Type 0 where
  pub is : block ≡ at
  pub some : 1 ≤ length here + length more
  pub bad : leaf_at now used at ≡ Err at

-- so many numbers of a map are leaves of some pages, made of those of others
pub record HasLeavesAt (all now : List (List ℕ)) (ls ms xs ys before after : List ℕ) (n : ℕ) : Type 0 where
  pub may : MayBe (length all) n ms
  pub listed : listed false now (length ys) (take n ms) ≡ Ok ys
  pub taken : before ≡ fresh ls (take n ms) ++ after
  pub count : length before ≡ differing n xs ys + length after
  pub shares : (k : ℕ) → k < n → piece k ys ≡ piece k xs → slice_index ms k ≡ slice_index ls k
  pub differs : (k : ℕ) → k < n → slice_index ms k ≡ slice_index ls k → piece k ys ≡ piece k xs
  pub apart : (k : ℕ) → k < n → holds after (slice_index ms k) ≡ false
  pub rest : drop n ms ≡ drop n ls

abbrev pub HasLeaves : List (List ℕ) → List (List ℕ) → List ℕ → List ℕ → List ℕ → List ℕ → List ℕ → List ℕ → Type 0
HasLeaves all now ls ms xs ys before after = HasLeavesAt all now ls ms xs ys before after (leaf_count (length ys))

-- numbers behind which a map has zeros
abbrev pub padded : List ℕ → List ℕ
padded xs = xs ++ replicate (ROOM - length xs) 0

-- a leaf stayed, as its pages do
pub record StaysLeaf (all now : List (List ℕ)) (at made : ℕ) (xs ys before after : List ℕ) : Type 0 where
  pub pages : ys ≡ xs
  pub leaf : made ≡ at
  pub left : after ≡ before
  pub blocks : now ≡ all

-- a leaf was written anew, as its pages changed
pub record MakesLeaf (all now : List (List ℕ)) (made : ℕ) (xs ys before after : List ℕ) : Type 0 where
  pub pages : ys ≢ xs
  pub left : before ≡ made ∷ after
  pub blocks : now ≡ slice_set all made (map_block 1 made (padded ys))

abbrev pub EndsLeaf : List (List ℕ) → List (List ℕ) → ℕ → ℕ → List ℕ → List ℕ → List ℕ → List ℕ → Type 0
EndsLeaf all now at made xs ys before after =
    StaysLeaf all now at made xs ys before after ⊎ MakesLeaf all now made xs ys before after

-- the only leaf is the topmost map
pub record OnlyLeaf (all now : List (List ℕ)) (ms : List ℕ) (pages root : ℕ) (before after : List ℕ) : Type 0 where
  pub few : pages ≤ ROOM
  pub is : root ≡ slice_index ms 0
  pub left : after ≡ before
  pub blocks : now ≡ all

-- the topmost map stays, as the leaves do
pub record SameTop (all now : List (List ℕ)) (old : Ref) (ls ms : List ℕ) (pages root : ℕ) (before after : List ℕ) : Type 0 where
  pub many : ROOM < pages
  pub had : ROOM < old.pages
  pub leaves : ms ≡ ls
  pub is : root ≡ old.root
  pub left : after ≡ before
  pub blocks : now ≡ all

-- the topmost map is written, as there was none or the leaves changed
pub record NewTop (all now : List (List ℕ)) (old : Ref) (ls ms : List ℕ) (pages root : ℕ) (before after : List ℕ) : Type 0 where
  pub many : ROOM < pages
  pub leaves : ROOM < old.pages → ms ≢ ls
  pub left : before ≡ root ∷ after
  pub blocks : now ≡ slice_set all root (map_block 2 root ms)

abbrev pub EndsTop : List (List ℕ) → List (List ℕ) → Ref → List ℕ → List ℕ → ℕ → ℕ → List ℕ → List ℕ → Type 0
EndsTop all now old ls ms pages root before after =
    OnlyLeaf all now ms pages root before after ⊎ (SameTop all now old ls ms pages root before after ⊎ NewTop all now old ls ms pages root before after)

-- no block is left for a topmost map that must be written
abbrev pub LacksTop : Ref → ℕ → List ℕ → List ℕ → List ℕ → List ℕ → Type 0
LacksTop old pages ls ms before after = (before ≡ []) × (after ≡ []) × (ROOM < pages) × (ROOM < old.pages → ms ≢ ls)

-- what making one leaf, all leaves, and the topmost map does where the device tells its blocks
abbrev pub RewritesLeaf : Option (List (List ℕ)) → Option (List (List ℕ)) → ℕ → ℕ → ℕ → List (ℕ × ℕ) → List ℕ → List ℕ → List ℕ → ℕ → Type 0
RewritesLeaf told told_now used at first here more before after made =
    (all : List (List ℕ)) (xs : List ℕ) → told ≡ Some all → leaf_at all used at ≡ Ok xs
    → WhereTold told_now (λ now. EndsLeaf all now at made xs (replaced_from first xs here ++ more) before after)

abbrev pub RewritesLeaves : Option (List (List ℕ)) → Option (List (List ℕ)) → Ref → List (ℕ × ℕ) → List ℕ → List ℕ → List ℕ → List ℕ → List ℕ → Type 0
RewritesLeaves told told_now old changed added before after ls ms =
    (all : List (List ℕ)) (xs : List ℕ) → told ≡ Some all → IsOpened all old ls xs before
    → WhereTold told_now (λ now. HasLeaves all now ls ms xs (edited xs changed added) before after)

abbrev pub MakesTop : Option (List (List ℕ)) → Option (List (List ℕ)) → Ref → List ℕ → List ℕ → ℕ → List ℕ → List ℕ → ℕ → Type 0
MakesTop told told_now old ls ms pages before after root =
    (all : List (List ℕ)) → told ≡ Some all → WhereTold told_now (λ now. EndsTop all now old ls ms pages root before after)

-- the leaves that an edit touches were read right, where none of them may be taken
abbrev pub ReadsTouched : Option (List (List ℕ)) → Ref → List ℕ → List (ℕ × ℕ) → List ℕ → List ℕ → Type 0
ReadsTouched told old ls changed added before =
    (all : List (List ℕ)) → told ≡ Some all → AreOpened all old ls before
    → ReadsLeaves all old ls changed added (leaf_count (old.pages + length added))

-- a leaf was read right, if it had to be read
abbrev pub ReadsOne : Option (List (List ℕ)) → ℕ → ℕ → List (ℕ × ℕ) → List ℕ → Type 0
ReadsOne told used at here more = 1 ≤ length here + length more → WhereTold told (λ all. IsOk (leaf_at all used at))

-- a block isn't the leaf that is read there
abbrev pub IsWrongLeaf : ℕ → ℕ → ℕ → List (List ℕ) → Type 0
IsWrongLeaf used at block all = (block ≡ at) × (leaf_at all used at ≡ Err at)
