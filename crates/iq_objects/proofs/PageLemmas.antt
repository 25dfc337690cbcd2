-- What pages hold, and how blocks move, where a page is written.
use Rattle.std.specs.Prelude.{◌≡◌, ℕ, zero, suc, ◌+◌, ◌-◌, ◌/◌, ◌<◌, ◌≤◌, ◌^◌, ◌==◌, Bool, true, false, ◌&&◌, if◌then◌else◌, cond, List, [], ◌∷◌, ◌++◌, length, take, drop, slice_index, slice_index_or, slice_set, Option, Some, None, Ok, nat_eq}
use Rattle.std.specs.List.{All, IsDistinct}
use Rattle.std.proofs.Common.{refl, sym, ap, subst, ◌∙◌, arith}
use Rattle.std.proofs.lemmas.List.{append-nil, take-append-drop, drop_all}
use Rattle.std.proofs.lemmas.Bool.{ne_eqb}
use Rattle.iq_outside.specs.declared.device.Device.{Ghosts}
use Rattle.iq_outside.specs.Devices.{block_of}
use Rattle.iq_block_store.specs.Frames.{page_kind, payload_of, framed}
use Rattle.iq_block_map.specs.Maps.{is_address}
use Rattle.iq_block_map.specs.Objects.{contents, HoldsPage}
use Rattle.iq_block_map.specs.Refs.{WhereTold, IsPlace}
use Rattle.iq_block_map.specs.Takers.{taken_of, AreSpare}
use Rattle.iq_block_map.specs.Writing.{holds, SameBeside, HasPut}
use Rattle.iq_block_map.specs.Laws.{times}
use Rattle.iq_block_map.proofs.PutLemmas.{taken_front, address_is, holds-append}
use Rattle.iq_block_map.proofs.PageLemmas.{page_there}
use Rattle.iq_block_map.proofs.TradeLaws.{contents_same, contents_edited}
use Rattle.iq_objects.specs.Open.{Held, Stands, written, with_page, with_more, with_lost, cleared, blocks_held, Moves}
use Rattle.iq_objects.specs.Changes.{ChangesContents}
use Rattle.iq_objects.proofs.CountLemmas.{times-cons, times-append, times-set, times_written}
use Rattle.iq_objects.proofs.StandLemmas.{stands_put, zero_free, taken_free, all_taken_free, stands_page, stands_more, stands_lost}

-- a block that is behind the roots and in the store
pub place_is : (told : Option (List (List ℕ))) (at : ℕ) (all : List (List ℕ)) → IsPlace told at → told ≡ Some all → is_address (length all) at ≡ true
place_is told at all place is = address_is (length all) at place.above (place.below all is)

pub page_stands : {D : Type 0} (g : Ghosts D) (before after : List ℕ) (old new : D) (o : Held) (n at : ℕ) → AreSpare (g.blocks old) before
    → AreSpare (g.blocks new) after → before ≡ at ∷ after → HasPut g before after old new → IsPlace (g.blocks new) at → n < length o.pages
    → n / 252 < length o.leaves → WhereTold (g.blocks old) (Stands before o) → WhereTold (g.blocks new) (Stands after (with_page n at o))
page_stands g before after old new o n at spare spare_now first put place within leaf stands now told =
    stands_page after o now n at (stands_put g before after old new o put stands now told) within (place_is (g.blocks new) at now place told)
    (taken_free (g.blocks old) before after at spare first) (zero_free after spare_now.above) leaf

pub more_stands : {D : Type 0} (g : Ghosts D) (before after : List ℕ) (old new : D) (o : Held) (at : ℕ) → AreSpare (g.blocks old) before
    → AreSpare (g.blocks new) after → before ≡ at ∷ after → HasPut g before after old new → IsPlace (g.blocks new) at
    → length o.leaves ≡ (length o.pages + 251) / 252 → WhereTold (g.blocks old) (Stands before o)
    → WhereTold (g.blocks new) (Stands after (with_more at o))
more_stands g before after old new o at spare spare_now first put place count stands now told =
    stands_more after o now at (stands_put g before after old new o put stands now told) count (place_is (g.blocks new) at now place told)
    (taken_free (g.blocks old) before after at spare first) (zero_free after spare_now.above)

pub lost_stands : {D : Type 0} (g : Ghosts D) (before after : List ℕ) (old new : D) (o : Held) → AreSpare (g.blocks old) before
    → HasPut g before after old new → WhereTold (g.blocks old) (Stands before o)
    → WhereTold (g.blocks new) (Stands after (with_lost (o.lost ++ taken_of before after) o))
lost_stands g before after old new o spare put stands now told =
    stands_lost after (taken_of before after) o now (stands_put g before after old new o put stands now told)
    (all_taken_free (taken_of before after) after (subst (IsDistinct nat_eq) put.left spare.distinct))

pub no_zero : (b : ℕ) → 1 ≤ b → ◌≡◌ {A = ℕ} (cond (0 == b) 1 0) 0
no_zero b some = ap {B = ℕ} (λ (t : Bool). cond t 1 0) (ne_eqb 0 b (λ is. never b some is))
  where
    never : (b : ℕ) → 1 ≤ b → 0 ≡ b → ⊥
    never b some is = omega (arith, some, is)

pub held_times : (b : ℕ) (o : Held) → ◌≡◌ {A = ℕ} (times b (blocks_held o)) (cond (o.top == b) 1 0 + (times b o.leaves + (times b o.pages + times b o.lost)))
held_times b o =
    let one = times-cons b o.top (o.leaves ++ (o.pages ++ o.lost)) in
    let two = times-append b o.leaves (o.pages ++ o.lost) in
    let three = times-append b o.pages o.lost in
    omega (arith, one, two, three)

pub moves_page : (n at : ℕ) (before after : List ℕ) (o : Held) → before ≡ at ∷ after → n < length o.pages → n / 252 < length o.leaves
    → Moves before after o (with_page n at o)
moves_page n at before after o first within leaf b some =
    let p = slice_index o.pages n in
    let l = slice_index o.leaves (n / 252) in
    let gone : List ℕ = p ∷ l ∷ o.top ∷ [] in
    let taken : taken_of before after ≡ at ∷ [] = taken_front before (at ∷ []) after first in
    omega (
      arith,
      held_times b o,
      held_times b (with_page n at o),
      times-set b o.pages n at within,
      times-set b o.leaves (n / 252) 0 leaf,
      times-append b o.lost (written gone),
      times_written b gone some,
      times-cons b p (l ∷ o.top ∷ []),
      times-cons b l (o.top ∷ []),
      times-cons b o.top [],
      times-cons b at [],
      ap (times b) taken,
      no_zero b some,
    )

-- what a list has is what its front and its rest have
split_times : (b m : ℕ) (xs : List ℕ) → times b xs ≡ times b (take m xs) + times b (drop m xs)
split_times b m xs = sym (ap (times b) (take-append-drop m xs)) ∙ times-append b (take m xs) (drop m xs)

-- behind so many that at most one is left, there is that one
last_times : (b m : ℕ) (xs : List ℕ) → 1 ≤ b → length xs ≤ m + 1 → ◌≡◌ {A = ℕ} (times b (drop m xs)) (cond (slice_index xs m == b) 1 0)
last_times b m [] some few =
    let none : List ℕ = [] in
    ap (times b) (drop_all m none (omega arith)) ∙ sym (no_zero b some)
last_times b zero (x ∷ []) some few = times-cons b x [] ∙ omega arith
last_times b zero (x ∷ y ∷ xs) some few = absurd (omega (arith, few))
last_times b (suc m) (x ∷ xs) some few = last_times b m xs some (omega (arith, few))

pub moves_more : (at : ℕ) (before after : List ℕ) (o : Held) → before ≡ at ∷ after → length o.leaves ≡ (length o.pages + 251) / 252
    → Moves before after o (with_more at o)
moves_more at before after o first count b some =
    let m = length o.pages / 252 in
    let l = slice_index o.leaves m in
    let gone : List ℕ = l ∷ o.top ∷ [] in
    let taken : taken_of before after ≡ at ∷ [] = taken_front before (at ∷ []) after first in
    let last = last_times b m o.leaves some (omega (arith, count)) in
    omega (
      arith,
      held_times b o,
      held_times b (with_more at o),
      split_times b m o.leaves,
      last,
      times-append b (take m o.leaves) (0 ∷ []),
      times-append b o.pages (at ∷ []),
      times-append b o.lost (written gone),
      times_written b gone some,
      times-cons b l (o.top ∷ []),
      times-cons b o.top [],
      times-cons b at [],
      times-cons b 0 [],
      ap (times b) taken,
      no_zero b some,
    )

pub moves_lost : (before after : List ℕ) (o : Held) → Moves before after o (with_lost (o.lost ++ taken_of before after) o)
moves_lost before after o b some =
    omega (arith, held_times b o, held_times b (with_lost (o.lost ++ taken_of before after) o), times-append b o.lost (taken_of before after))

pub moves_cleared : (left : List ℕ) (o : Held) → Moves left left o (cleared o)
moves_cleared left o b some =
    let taken : taken_of left left ≡ [] = taken_front left [] left refl in
    omega (
      arith,
      held_times b o,
      held_times b (cleared o),
      times-append b ((o.lost ++ written o.pages) ++ written o.leaves) (written (o.top ∷ [])),
      times-append b (o.lost ++ written o.pages) (written o.leaves),
      times-append b o.lost (written o.pages),
      times_written b o.pages some,
      times_written b o.leaves some,
      times_written b (o.top ∷ []) some,
      times-cons b o.top [],
      ap (times b) taken,
      no_zero b some,
    )

-- the blocks that are told before and after a put
pub same_blocks : {D : Type 0} (g : Ghosts D) (before after : List ℕ) (old new : D) (all now : List (List ℕ)) → HasPut g before after old new
    → g.blocks old ≡ Some all → g.blocks new ≡ Some now → SameBeside (taken_of before after) all now
same_blocks g before after old new all now put told told_now =
    let there = put.content all told in
    subst (SameBeside (taken_of before after) all) (some_is there.0 now (g.blocks new) there.1 told_now) there.2
  where
    some_is : (a b : List (List ℕ)) (x : Option (List (List ℕ))) → x ≡ Some a → x ≡ Some b → a ≡ b
    some_is a b x one two = cc

-- pages that may not be taken hold what they held
pub contents_stay : {D : Type 0} (g : Ghosts D) (before after : List ℕ) (old new : D) (xs : List ℕ) (all now : List (List ℕ))
    → HasPut g before after old new → g.blocks old ≡ Some all → g.blocks new ≡ Some now → All (λ b. holds before b ≡ false) xs
    → contents now (Ok xs) ≡ contents all (Ok xs)
contents_stay g before after old new xs all now put told told_now free =
    let same = same_blocks g before after old new all now put told told_now in
    contents_same all now xs
    (λ k d within.
    let b = slice_index_or xs k d in
    same.others b (holds-append (taken_of before after) after b (subst (λ (ys : List ℕ). holds ys b ≡ false) put.left (free k d within))).0)

one_page : (all : List (List ℕ)) (at : ℕ) (page : List ℕ) → HoldsPage page at all → contents all (Ok (at ∷ [])) ≡ Some (page ∷ [])
one_page all at page is =
    ap (λ (b : Bool). if (b && true) then Some (payload_of (block_of all at) ∷ []) else None) is.header
    ∙ ap (λ (p : List ℕ). Some (p ∷ [])) (sym is.content)

pub page_contents : {D : Type 0} (g : Ghosts D) (before after : List ℕ) (old new : D) (o : Held) (n at : ℕ) (page : List ℕ)
    → AreSpare (g.blocks old) before → before ≡ at ∷ after → at < 2 ^ 32 → HasPut g before after old new
    → ((all : List (List ℕ)) → g.blocks old ≡ Some all → g.blocks new ≡ Some (slice_set all at (framed page_kind at 0 page)))
    → WhereTold (g.blocks old) (Stands before o)
    → ChangesContents (g.blocks old) (g.blocks new) (λ (ps : List (List ℕ)). slice_set ps n page) o (with_page n at o)
page_contents g before after old new o n at page spare first fits put block stands all now ps told told_now is =
    let there = page_there g before after old new at page now spare put first fits block told_now in
    let kept = contents_stay g before after old new o.pages all now put told told_now (stands all told).free_pages ∙ is in
    let place : n - 0 ≡ n = omega arith in
    let done = contents_edited now o.pages [] ((n, at) ∷ []) ps (page ∷ []) [] kept (one_page now at page there) refl in
    ap (λ (xs : List ℕ). contents now (Ok xs)) (sym (append-nil (slice_set o.pages n at)) ∙ ap (λ (m : ℕ). slice_set o.pages m at ++ []) (sym place))
    ∙ done ∙ ap Some (append-nil (slice_set ps n page))

pub more_contents : {D : Type 0} (g : Ghosts D) (before after : List ℕ) (old new : D) (o : Held) (at : ℕ) (page : List ℕ)
    → AreSpare (g.blocks old) before → before ≡ at ∷ after → at < 2 ^ 32 → HasPut g before after old new
    → ((all : List (List ℕ)) → g.blocks old ≡ Some all → g.blocks new ≡ Some (slice_set all at (framed page_kind at 0 page)))
    → WhereTold (g.blocks old) (Stands before o)
    → ChangesContents (g.blocks old) (g.blocks new) (λ (ps : List (List ℕ)). ps ++ page ∷ []) o (with_more at o)
more_contents g before after old new o at page spare first fits put block stands all now ps told told_now is =
    let there = page_there g before after old new at page now spare put first fits block told_now in
    let kept = contents_stay g before after old new o.pages all now put told told_now (stands all told).free_pages ∙ is in
    contents_edited now o.pages (at ∷ []) [] ps [] (page ∷ []) kept refl (one_page now at page there)
