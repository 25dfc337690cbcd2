-- What was written, one call after the other.
use Rattle.std.specs.Prelude.{◌≡◌, ℕ, ◌-◌, ◌<◌, ◌≤◌, Bool, true, false, ◌||◌, List, [], ◌∷◌, ◌++◌, length, take, nat_eq, Option, Some, slice_index, slice_index_or, slice_set, Result, Ok, Err}
use Rattle.std.specs.List.{All}
use Rattle.std.proofs.Common.{refl, sym, ap, ◌∙◌, inl, inr, arith, append_assoc, length-append}
use Rattle.std.proofs.lemmas.List.{take_at}
use Rattle.std.proofs.lemmas.Bool.{eq-eqb, cases_lt, le-leb, lt-ltb}
use Rattle.iq_outside.specs.declared.device.Device.{Ghosts}
use Rattle.iq_outside.specs.Devices.{SameBut, Stored}
use Rattle.iq_outside.specs.DeviceCalls.{KeepsPast, HasWritten}
use Rattle.iq_outside.proofs.ImageLemmas.{SameBut-set}
use Rattle.iq_block_store.specs.Looks.{HasLooked}
use Rattle.iq_block_map.specs.Maps.{is_address}
use Rattle.iq_block_map.specs.Takers.{taken_of, AreSpare}
use Rattle.iq_block_map.specs.Writing.{holds, SameBeside, AddsBeside, HasPut}

or_false : (a b : Bool) → (a || b) ≡ false → (a ≡ false) × (b ≡ false)
or_false false false is = (refl, refl)
or_false true b is = cc
or_false false true is = cc

false_or : (a b : Bool) → a ≡ false → b ≡ false → (a || b) ≡ false
false_or false false p q = refl
false_or true b p q = cc
false_or false true p q = cc

pub holds-append : (xs ys : List ℕ) (i : ℕ) → holds (xs ++ ys) i ≡ false → (holds xs i ≡ false) × (holds ys i ≡ false)
holds-append [] ys i free = (refl, free)
holds-append (x ∷ xs) ys i free =
    let parts = or_false (nat_eq i x) (holds (xs ++ ys) i) free in
    let rest = holds-append xs ys i parts.1 in
    (false_or (nat_eq i x) (holds xs i) parts.0 rest.0, rest.1)

pub taken_front : (before taken after : List ℕ) → before ≡ taken ++ after → taken_of before after ≡ taken
taken_front before taken after is =
    let size : length before - length after ≡ length taken = omega (arith, ap length is, length-append taken after) in
    ap (λ (n : ℕ). take n before) size ∙ ap (take (length taken)) is ∙ take_at taken after (length taken) refl

pub SameBeside-refl : (places : List ℕ) (b : List (List ℕ)) → SameBeside places b b
SameBeside-refl places b = record { size = refl; others = λ i free. refl }

pub beside_more : (xs ys : List ℕ) (a b c : List (List ℕ)) → SameBeside xs a b → SameBeside ys b c → SameBeside (xs ++ ys) a c
beside_more xs ys a b c first second = record {
  size = second.size ∙ first.size;
  others = λ i free.
      let parts = holds-append xs ys i free in
      second.others i parts.1 ∙ first.others i parts.0;
}

pub beside_of_but : (at : ℕ) (a b : List (List ℕ)) → SameBut at a b → SameBeside (at ∷ []) a b
beside_of_but at a b same = record {
  size = same.size;
  others = λ i free.
      let parts = or_false (nat_eq i at) false free in
      same.others i (λ is. cc (eq-eqb i at is, parts.0));
}

-- no block was taken, and the device was only looked at
pub put_none : {D : Type 0} (g : Ghosts D) (left : List ℕ) (old new : D) → HasLooked g old new
    → HasPut g left left old new
put_none g left old new looked =
    let none : taken_of left left ≡ [] = taken_front left [] left refl in
    record {
      left = sym (ap (λ (t : List ℕ). t ++ left) none);
      content = λ all told. (all, looked.unchanged ∙ told, rw none (SameBeside-refl [] all));
      untold = λ never. looked.unchanged ∙ never;
      later = looked.later;
      past = looked.past;
      since = λ t b since until now. (b, looked.since t b since until now, rw none (SameBeside-refl [] b));
    }

past_then : {D : Type 0} (g : Ghosts D) (old between new : D)
    → KeepsPast g old between → KeepsPast g between new → KeepsPast g old new
past_then g old between new first second = record {
  same = second.same ∙ first.same;
  later = omega (arith, first.later, second.later);
  keeps = λ t b early left. second.keeps t b (omega (arith, early, first.later)) (first.keeps t b early left);
  no_more = λ t b early left. first.no_more t b early (second.no_more t b (omega (arith, early, first.later)) left);
  keeps_whole = λ t i x early here. second.keeps_whole t i x (omega (arith, early, first.later)) (first.keeps_whole t i x early here);
  whole_before = λ t i x early here. first.whole_before t i x early (second.whole_before t i x (omega (arith, early, first.later)) here);
}

since_then : {D : Type 0} (g : Ghosts D) (xs ys : List ℕ) (old between new : D)
    → KeepsPast g old between → KeepsPast g between new
    → AddsBeside g xs old between → AddsBeside g ys between new → AddsBeside g (xs ++ ys) old new
since_then g xs ys old between new past_first past_second first second t b since until left =
    elim (cases_lt (g.clock between) t) [
      | inl after ↦
          (let mid = second t b (omega (arith, after)) until left in
          let start = first (g.clock between) mid.0 past_first.later (omega arith) mid.1 in
          (start.0, start.1, beside_more xs ys start.0 mid.0 b start.2 mid.2))
      | inr early ↦
          (let start = first t b since early (past_second.no_more t b early left) in
          (start.0, start.1, beside_more xs ys start.0 b b start.2 (SameBeside-refl ys b)))
    ]

-- one call after another
pub put_then : {D : Type 0} (g : Ghosts D) (before mid after : List ℕ) (old between new : D)
    → HasPut g before mid old between → HasPut g mid after between new
    → HasPut g before after old new
put_then g before mid after old between new first second =
    let xs = taken_of before mid in
    let ys = taken_of mid after in
    let split : before ≡ (xs ++ ys) ++ after
    = first.left ∙ ap (λ (t : List ℕ). xs ++ t) second.left ∙ sym (append_assoc xs ys after) in
    let both : taken_of before after ≡ xs ++ ys = taken_front before (xs ++ ys) after split in
    record {
      left = split ∙ ap (λ (t : List ℕ). t ++ after) (sym both);
      content = λ all told.
          let one = first.content all told in
          let two = second.content one.0 one.1 in
          (two.0, two.1, rw both (beside_more xs ys all one.0 two.0 one.2 two.2));
      untold = λ never. second.untold (first.untold never);
      later = omega (arith, first.later, second.later);
      past = past_then g old between new first.past second.past;
      since = rw both (since_then g xs ys old between new first.past second.past first.since second.since);
    }

-- a block was taken and written, well or not
pub put_one : {D U E : Type 0} (g : Ghosts D) (at : ℕ) (block before after : List ℕ) (result : Result U E) (old new : D) → before ≡ at ∷ after
    → HasWritten g at block result old new → HasPut g before after old new
put_one g at block before after result old new is written =
    let one : taken_of before after ≡ at ∷ [] = taken_front before (at ∷ []) after is in
    record {
      left = is ∙ ap (λ (t : List ℕ). t ++ after) (sym one);
      content = λ all told. rw one (put_content result at block (g.blocks old) (g.blocks new) written.content all told);
      untold = written.content.untold;
      later = written.counts.later;
      past = written.past;
      since = rw one (λ t b since until left.
          let start = written.since t b since until left in
          (start.0, start.1, beside_of_but at start.0 b start.2));
    }
  where
    put_content : {U E : Type 0} (result : Result U E) (at : ℕ) (block : List ℕ) (old new : Option (List (List ℕ))) → Stored at block result old new
        → (all : List (List ℕ)) → old ≡ Some all → (now : List (List ℕ)) × (new ≡ Some now) × SameBeside (at ∷ []) all now
    put_content (Ok u) at block old new stored all told =
        (slice_set all at block, stored.ok all told, beside_of_but at all (slice_set all at block) (SameBut-set at all block))
    put_content (Err e) at block old new stored all told =
        let failed = stored.err all told in
        (failed.0, failed.1, beside_of_but at all failed.0 failed.2)

-- a device that nothing was done to
pub looked_same : {D : Type 0} (g : Ghosts D) (now : D) → HasLooked g now now
looked_same g now = record {
  unchanged = refl;
  later = omega arith;
  past = record { same = refl; later = omega arith; keeps = λ t b early left. left; no_more = λ t b early left. left; keeps_whole = λ t i x early here. here; whole_before = λ t i x early here. here };
  since = λ t b since until left. rw (← same t since until) left;
}
  where
    same : (t : ℕ) → g.clock now ≤ t → t ≤ g.clock now → t ≡ g.clock now
    same t since until = omega (arith, since, until)

-- a number behind the roots and within a store is an address
pub address_is : (count a : ℕ) → 4 ≤ a → a < count → is_address count a ≡ true
address_is count a above below = rw (le-leb 4 a above, lt-ltb a count below) refl

-- blocks that may be taken are addresses of the store that is told
pub spare_inside : (told : Option (List (List ℕ))) (all : List (List ℕ)) (left : List ℕ) → AreSpare told left → told ≡ Some all
    → All (λ b. is_address (length all) b ≡ true) left
spare_inside told all left spare is k d within =
    address_is (length all) (slice_index_or left k d) (spare.above k d within) (spare.below all is k d within)

-- the first of the blocks that may be taken is in the store
pub first_inside : (told : Option (List (List ℕ))) (all : List (List ℕ)) (at : ℕ) (before after : List ℕ) → AreSpare told before → told ≡ Some all
    → before ≡ at ∷ after → at < length all
first_inside told all at before after spare is head =
    let some : 0 < length before = omega (arith, ap length head) in
    let first : slice_index before 0 < length all = spare.below all is 0 0 some in
    omega (arith, first, ap (λ (xs : List ℕ). slice_index xs 0) head)

-- and behind the roots
pub first_above : (told : Option (List (List ℕ))) (at : ℕ) (before after : List ℕ) → AreSpare told before → before ≡ at ∷ after → 4 ≤ at
first_above told at before after spare head =
    let some : 0 < length before = omega (arith, ap length head) in
    let first : 4 ≤ slice_index before 0 = spare.above 0 0 some in
    omega (arith, first, ap (λ (xs : List ℕ). slice_index xs 0) head)

-- a block that was written well is in its place
pub written_ok : {U E : Type 0} (result : Result U E) (at : ℕ) (block : List ℕ) (old new : Option (List (List ℕ))) {u : U} → result ≡ Ok u
    → Stored at block result old new → (all : List (List ℕ)) → old ≡ Some all → new ≡ Some (slice_set all at block)
written_ok (Ok v) at block old new is stored all told = stored.ok all told
written_ok (Err e) at block old new is stored all told = cc

-- what is told twice is the same
pub told_same : (old new : Option (List (List ℕ))) (now all : List (List ℕ)) → new ≡ old → new ≡ Some now → old ≡ Some all → now ≡ all
told_same old new now all same is told = cc

-- looking once more
pub looked_then : {D : Type 0} (g : Ghosts D) (old between new : D) → HasLooked g old between
    → HasLooked g between new → HasLooked g old new
looked_then g old between new first second = record {
  unchanged = second.unchanged ∙ first.unchanged;
  later = omega (arith, first.later, second.later);
  past = past_then g old between new first.past second.past;
  since = λ t b since until left. elim (cases_lt (g.clock between) t) [
    | inl after ↦ first.since (g.clock between) b first.past.later (omega arith) (second.since t b (omega (arith, after)) until left)
    | inr early ↦ first.since t b since early (second.past.no_more t b early left)
  ];
}
