-- What was written of descriptors.
use Rattle.std.specs.Prelude.{◌≡◌, ◌≢◌, ℕ, zero, suc, ◌+◌, ◌-◌, ◌*◌, ◌^◌, ◌<◌, ◌≤◌, Bool, true, false, ◌&&◌, ◌||◌, List, [], ◌∷◌, ◌++◌, length, take, drop, replicate, flat_map, nat_eq, slice_index, slice_index_or, slice_set, get_or, Option, Some, Result, Ok, Err}
use Rattle.std.specs.List.{All, AllByRecursion, IsDistinct, list_all}
use Rattle.std.proofs.Common.{refl, sym, ap, subst, ◌∙◌, inr, arith, lit<, append_assoc, length-append, get_or-set_same, add-one}
use Rattle.std.proofs.Math.Seq.{take-suc}
use Rattle.byteorder.specs.Endian.{little_bytes}
use Rattle.std.proofs.lemmas.List.{length-drop, length-set, take-append-le, take-append-drop, take_at, drop_all}
use Rattle.std.proofs.lemmas.List.Elements.{All-drop}
use Rattle.std.proofs.lemmas.List.Folds.{list_any_none}
use Rattle.std.proofs.lemmas.Bool.{eq-eqb, eqb-true, ne_eqb}
use Rattle.iq_outside.specs.Devices.{block_of}
use Rattle.iq_outside.proofs.ImageLemmas.{SameBut-set}
use Rattle.iq_outside.specs.declared.device.Device.{Ghosts}
use Rattle.iq_block_store.specs.Frames.{descriptor_kind, bytes_of, has_header, header, framed, numbers_at, payload_of}
use Rattle.iq_block_store.proofs.FrameLemmas.{length-bytes_of, length-header, has_header-framed, payload_of-framed, numbers_back}
use Rattle.iq_block_map.specs.Maps.{is_address}
use Rattle.iq_block_map.specs.Refs.{WhereTold}
use Rattle.iq_block_map.specs.Takers.{AreSpare}
use Rattle.iq_block_map.specs.Writing.{holds, HasPut}
use Rattle.iq_block_map.proofs.FrameLaws.{all_front, all_cons, all_both}
use Rattle.iq_block_map.proofs.PutLemmas.{address_is, first_inside, first_above}
use Rattle.iq_block_map.proofs.ReachedLemmas.{distinct_front}
use Rattle.iq_block_map.proofs.RewriteLemmas.{put_told}
use Rattle.iq_base.specs.declared.descriptors.Descriptor.{Descriptor}
use Rattle.iq_catalog.specs.Texts.{descriptor_text}
use Rattle.iq_catalog.specs.Pages.{zeros, filled, page_count, joined, descriptor_bytes, HasPages}
use Rattle.iq_catalog.proofs.Fields.{rest_behind}
use Rattle.iq_catalog.proofs.Wholes.{bytes_back, bytes_counted}
use Rattle.iq_catalog.specs.Reading.{columns_of, indexes_of, descriptor_of, text_size}
use Rattle.iq_catalog.specs.Storable.{IsStorable}
use Rattle.iq_descriptors.specs.declared.faults.DescriptorFault.{DescriptorFault}
use Rattle.iq_descriptors.specs.declared.faults.DescriptorFault.TheVariants.{StoreFault, Bad, NoSpace, NoMemory}
use Rattle.iq_descriptors.specs.Parts.{more_of, head_page, are_packed, named, are_others}
use Rattle.iq_descriptors.specs.Stored.{pages_behind, pages_in, Describes}
use Rattle.iq_descriptors.specs.Written.{block_count, addresses, head_payload}
use Rattle.iq_descriptors.specs.Causes.{IsWriteFault}
use Rattle.iq_descriptors.proofs.ReadLemmas.{stored}
use Rattle.iq_descriptors.proofs.LawLemmas.{pages_same}

-- a cause is handed on by whoever needs as many blocks or more
pub write_fault_on : (n m : ℕ) (e : DescriptorFault) (left now : List ℕ) (first first' last last' : ℕ) → n ≤ m → first ≤ first' → last' ≤ last
    → IsWriteFault n e left now first' last' → IsWriteFault m e left now first last
write_fault_on n m (StoreFault before after) left now first first' last last' more early late rose =
    record { since = omega (arith, early, rose.since); risen = rose.risen; until = omega (arith, late, rose.until) }
write_fault_on n m (Bad block) left now first first' last last' more early late bad = bad
write_fault_on n m NoSpace left now first first' last last' more early late bad = (omega (arith, more, bad.0), bad.1)
write_fault_on n m NoMemory left now first first' last last' more early late bad = bad

-- and by whoever took some before
pub write_fault_after : (n m : ℕ) (e : DescriptorFault) (left taken mid now : List ℕ) (first first' last last' : ℕ) → left ≡ taken ++ mid → length taken + n ≤ m
    → first ≤ first' → last' ≤ last → IsWriteFault n e mid now first' last' → IsWriteFault m e left now first last
write_fault_after n m (StoreFault before after) left taken mid now first first' last last' split more early late rose =
    record { since = omega (arith, early, rose.since); risen = rose.risen; until = omega (arith, late, rose.until) }
write_fault_after n m (Bad block) left taken mid now first first' last last' split more early late bad = bad
write_fault_after n m NoSpace left taken mid now first first' last last' split more early late bad =
    (omega (arith, more, bad.0, ap length split, length-append taken mid), bad.1)
write_fault_after n m NoMemory left taken mid now first first' last last' split more early late bad = bad

-- a block behind distinct ones isn't among them
flip : (x at : ℕ) (after : List ℕ) → holds (at ∷ after) x ≡ false → nat_eq at x ≡ false
flip x at after free = ne_eqb at x (λ same.
    let here : nat_eq x at ≡ true = eq-eqb x at (sym same) in
    let never : true ≡ false = rw here at free in
    absurd (cc))

pub not_taken : (taken : List ℕ) (at : ℕ) (after : List ℕ) → IsDistinct nat_eq (taken ++ at ∷ after) → holds taken at ≡ false
not_taken taken at after are =
    let each = distinct_front taken (at ∷ after) are in
    list_any_none (nat_eq at) taken (λ k d within. flip (slice_index_or taken k d) at after (each k d within))

free_each : (bs : List ℕ) (at : ℕ) → holds bs at ≡ false → All (λ b. b ≢ at) bs
free_each [] at free k d within = absurd (omega (arith, within))
free_each (b ∷ bs) at free zero d within = λ same.
    let here : nat_eq at b ≡ true = eq-eqb at b (sym same) in
    let never : true ≡ false = rw here at free in
    absurd (cc)
free_each (b ∷ bs) at free (suc k) d within = free_each bs at (or_right (nat_eq at b) (holds bs at) free) k d (omega (arith, within))
  where
    or_right : (x y : Bool) → (x || y) ≡ false → y ≡ false
    or_right false y is = is
    or_right true y is = absurd (cc)

distinct_start : (xs ys : List ℕ) → IsDistinct nat_eq (xs ++ ys) → IsDistinct nat_eq xs
unfolding IsDistinct
distinct_start [] ys are = tt
distinct_start (x ∷ xs) ys are = (start x xs are.0, distinct_start xs ys are.1)
  where
    start : (x : ℕ) (zs : List ℕ) → AllByRecursion (λ y. nat_eq x y ≡ false) (zs ++ ys) → AllByRecursion (λ y. nat_eq x y ≡ false) zs
    start x [] each = tt
    start x (z ∷ zs) each = (each.0, start x zs each.1)

distinct_cons : (x : ℕ) (xs : List ℕ) → holds xs x ≡ false → IsDistinct nat_eq xs → IsDistinct nat_eq (x ∷ xs)
unfolding IsDistinct
distinct_cons x xs free are = (each xs free, are)
  where
    or_parts : (a b : Bool) → (a || b) ≡ false → (a ≡ false) × (b ≡ false)
    or_parts false b is = (refl, is)
    or_parts true b is = absurd (cc)

    each : (ys : List ℕ) → holds ys x ≡ false → AllByRecursion (λ y. nat_eq x y ≡ false) ys
    each [] free = tt
    each (y ∷ ys) free =
        let parts = or_parts (nat_eq x y) (holds ys x) free in
        (parts.0, each ys parts.1)

-- the blocks of a descriptor are distinct, as those that were left were
pub blocks_distinct : (before others after : List ℕ) (head : ℕ) → IsDistinct nat_eq before → before ≡ others ++ head ∷ after → IsDistinct nat_eq (head ∷ others)
blocks_distinct before others after head are is =
    let all_are : IsDistinct nat_eq (others ++ head ∷ after) = subst (IsDistinct nat_eq) is are in
    distinct_cons head others (not_taken others head after all_are) (distinct_start others (head ∷ after) all_are)

-- pages in some blocks, and then in others
abbrev pages_then : Result (List (List ℕ)) ℕ → List (List ℕ) → Result (List (List ℕ)) ℕ
pages_then (Err b) qs = Err b
pages_then (Ok ps) qs = Ok (ps ++ qs)

behind_then : (front : List (List ℕ)) (r : Result (List (List ℕ)) ℕ) (qs : List (List ℕ)) → pages_behind front (pages_then r qs) ≡ pages_then (pages_behind front r) qs
behind_then front (Err b) qs = refl
behind_then front (Ok ps) qs = ap Ok (sym (append_assoc front ps qs))

pages_append : (all : List (List ℕ)) (xs ys : List ℕ) (qs : List (List ℕ)) → pages_in all ys ≡ Ok qs → pages_in all (xs ++ ys) ≡ pages_then (pages_in all xs) qs
pages_append all [] ys qs is = is
pages_append all (x ∷ xs) ys qs is = by_header (has_header descriptor_kind x (block_of all x)) refl (pages_append all xs ys qs is)
  where
    by_header : (h : Bool) → has_header descriptor_kind x (block_of all x) ≡ h → pages_in all (xs ++ ys) ≡ pages_then (pages_in all xs) qs
        → pages_in all (x ∷ (xs ++ ys)) ≡ pages_then (pages_in all (x ∷ xs)) qs
    by_header true right rest =
        let front = payload_of (block_of all x) ∷ [] in
        rw right (ap (pages_behind front) rest ∙ behind_then front (pages_in all xs) qs)
    by_header false wrong rest = rw wrong refl

set_there : (mid : List (List ℕ)) (at : ℕ) (block : List ℕ) → at < length mid → block_of (slice_set mid at block) at ≡ block
set_there mid at block within = get_or-set_same mid at block [] within

pages_stay : (mid : List (List ℕ)) (bs : List ℕ) (at : ℕ) (block : List ℕ) → holds bs at ≡ false → pages_in (slice_set mid at block) bs ≡ pages_in mid bs
pages_stay mid bs at block free =
    let each = free_each bs at free in
    pages_same mid (slice_set mid at block) bs (λ k d within. (SameBut-set at mid block).others (slice_index_or bs k d) (each k d within))

one_page : (mid : List (List ℕ)) (at : ℕ) (page : List ℕ) → at < length mid → at < 2 ^ 32
    → pages_in (slice_set mid at (framed descriptor_kind at 0 page)) (at ∷ []) ≡ Ok (page ∷ [])
one_page mid at page within fits =
    let here = set_there mid at (framed descriptor_kind at 0 page) within in
    let right : has_header descriptor_kind at (framed descriptor_kind at 0 page) ≡ true
    = has_header-framed descriptor_kind at 0 page (lit< tt) fits (lit< tt) (inr refl) in
    rw (here, right) (ap (λ (p : List ℕ). Ok (p ∷ [])) (payload_of-framed descriptor_kind at 0 page))

-- one page more was put
pub one_more : {D : Type 0} (g : Ghosts D) (whole before after bs : List ℕ) (ps : List (List ℕ)) (at : ℕ) (page : List ℕ) (old new : D) → IsDistinct nat_eq whole
    → whole ≡ bs ++ before → before ≡ at ∷ after → AreSpare (g.blocks old) before → at < 2 ^ 32 → HasPut g before after old new
    → ((all : List (List ℕ)) → g.blocks old ≡ Some all → g.blocks new ≡ Some (slice_set all at (framed descriptor_kind at 0 page)))
    → WhereTold (g.blocks old) (λ all. pages_in all bs ≡ Ok ps) → WhereTold (g.blocks new) (λ all. pages_in all (bs ++ at ∷ []) ≡ Ok (ps ++ page ∷ []))
one_more g whole before after bs ps at page old new are split first spare fits put block read now told =
    let there = put_told g before after old new now put told in
    let mid = there.0 in
    let is : slice_set mid at (framed descriptor_kind at 0 page) ≡ now = told_is (block mid there.1) told in
    let within : at < length mid = first_inside (g.blocks old) mid at before after spare there.1 first in
    let free : holds bs at ≡ false = not_taken bs at after (subst (IsDistinct nat_eq) (split ∙ ap (λ (t : List ℕ). bs ++ t) first) are) in
    let set = slice_set mid at (framed descriptor_kind at 0 page) in
    let here : pages_in set bs ≡ Ok ps = pages_stay mid bs at _ free ∙ read mid there.1 in
    subst (λ (b : List (List ℕ)). pages_in b (bs ++ at ∷ []) ≡ Ok (ps ++ page ∷ [])) is
    (pages_append set bs (at ∷ []) (page ∷ []) (one_page mid at page within fits) ∙ ap (λ (r : Result (List (List ℕ)) ℕ). pages_then r (page ∷ [])) here)
  where
    told_is : {o : Option (List (List ℕ))} {a b : List (List ℕ)} → o ≡ Some a → o ≡ Some b → a ≡ b
    told_is p q = cc

-- three addresses
no_names : (n : ℕ) → named (drop n (0 ∷ 0 ∷ 0 ∷ [])) ≡ []
no_names zero = refl
no_names (suc zero) = refl
no_names (suc (suc zero)) = refl
no_names (suc (suc (suc n))) = ap named (drop_all (suc (suc (suc n))) (0 ∷ 0 ∷ 0 ∷ []) (omega arith))

zeros_packed : (n : ℕ) → are_packed (drop n (0 ∷ 0 ∷ 0 ∷ [])) ≡ true
zeros_packed zero = refl
zeros_packed (suc zero) = refl
zeros_packed (suc (suc zero)) = refl
zeros_packed (suc (suc (suc n))) = ap are_packed (drop_all (suc (suc (suc n))) (0 ∷ 0 ∷ 0 ∷ []) (omega arith))

some_block : (x : ℕ) → 4 ≤ x → nat_eq x 0 ≡ false
some_block x above = ne_eqb x 0 (λ is. absurd (omega (arith, above, is)))

named_front : (xs zs : List ℕ) → All (λ b. 4 ≤ b) xs → named zs ≡ [] → named (xs ++ zs) ≡ xs
named_front [] zs above none = none
named_front (x ∷ xs) zs above none =
    let here = some_block x (above 0 0 (omega arith)) in
    let rest = named_front xs zs (λ k d within. above (suc k) d (omega (arith, within))) none in
    rw here (ap (λ (t : List ℕ). x ∷ t) rest)

packed_front : (xs zs : List ℕ) → All (λ b. 4 ≤ b) xs → are_packed zs ≡ true → are_packed (xs ++ zs) ≡ true
packed_front [] zs above packed = packed
packed_front (x ∷ xs) zs above packed =
    let here = some_block x (above 0 0 (omega arith)) in
    rw here (packed_front xs zs (λ k d within. above (suc k) d (omega (arith, within))) packed)

pub named_back : (others : List ℕ) → All (λ b. 4 ≤ b) others → named (addresses others) ≡ others
named_back others above = named_front others (drop (length others) (0 ∷ 0 ∷ 0 ∷ [])) above (no_names (length others))

all_addresses : (count : ℕ) (xs : List ℕ) → All (λ b. 4 ≤ b) xs → All (λ b. b < count) xs → list_all (is_address count) xs ≡ true
all_addresses count [] above below = refl
all_addresses count (x ∷ xs) above below =
    let here = address_is count x (above 0 0 (omega arith)) (below 0 0 (omega arith)) in
    let rest = all_addresses count xs (λ k d within. above (suc k) d (omega (arith, within))) (λ k d within. below (suc k) d (omega (arith, within))) in
    rw (here, rest) refl

right_others : (count : ℕ) (others : List ℕ) → All (λ b. 4 ≤ b) others → All (λ b. b < count) others → are_others count (addresses others) ≡ true
right_others count others above below =
    let packed = packed_front others (drop (length others) (0 ∷ 0 ∷ 0 ∷ [])) above (zeros_packed (length others)) in
    let names = named_back others above in
    let rest = all_addresses count others above below in
    rw (packed, names, rest) refl

small_zeros : (n : ℕ) → All (λ b. b < 2 ^ 32) (drop n (0 ∷ 0 ∷ 0 ∷ []))
small_zeros n = All-drop (λ b. b < 2 ^ 32) n (0 ∷ 0 ∷ 0 ∷ [])
    (all_cons (λ b. b < 2 ^ 32) 0 (0 ∷ 0 ∷ []) zero_fits
    (all_cons (λ b. b < 2 ^ 32) 0 (0 ∷ []) zero_fits (all_cons (λ b. b < 2 ^ 32) 0 [] zero_fits (λ k d within. absurd (omega (arith, within))))))
  where
    zero_fits : 0 < 2 ^ 32
    zero_fits = lit< tt

length-numbers : (xs : List ℕ) → length (flat_map bytes_of xs) ≡ 4 * length xs
length-numbers [] = refl
length-numbers (x ∷ xs) = omega (arith, length-append (bytes_of x) (flat_map bytes_of xs), length-bytes_of x, length-numbers xs)

three_numbers : (others : List ℕ) → length others ≤ 3 → length (addresses others) ≡ 3
three_numbers others few =
    omega (arith, few, length-append others (drop (length others) (0 ∷ 0 ∷ 0 ∷ [])), length-drop {A = ℕ} (length others) (0 ∷ 0 ∷ 0 ∷ []))

-- a head says the addresses that were written into it
more_back : (head : ℕ) (others page : List ℕ) → length others ≤ 3 → All (λ b. b < 2 ^ 32) others
    → more_of (framed descriptor_kind head 0 (head_payload (addresses others) page)) ≡ addresses others
more_back head others page few fits =
    let numbers = addresses others in
    let block = framed descriptor_kind head 0 (head_payload numbers page) in
    ap (numbers_at block 16) (sym (three_numbers others few))
    ∙ numbers_back block (header descriptor_kind head 0) (drop 12 page) numbers 16
    (all_both (λ b. b < 2 ^ 32) others (drop (length others) (0 ∷ 0 ∷ 0 ∷ [])) fits (small_zeros (length others)))
    refl (length-header descriptor_kind head 0)

-- the first 12 bytes of a descriptor's first page are zeros
front_zeros : (t : Descriptor) → take 12 (descriptor_bytes t) ≡ replicate 12 0
unfolding descriptor_bytes filled zeros
front_zeros t =
    let n = replicate 12 0 ++ descriptor_text t in
    ap (take 12) (append_assoc (replicate 12 0) (descriptor_text t) (replicate (1008 * page_count (length n) - length n) 0))
    ∙ take_at (replicate 12 0) (descriptor_text t ++ replicate (1008 * page_count (length n) - length n) 0) 12 refl

page_back : (head : ℕ) (others page : List ℕ) (rest : List (List ℕ)) (t : Descriptor) → length others ≤ 3 → 12 ≤ length page → HasPages t (page ∷ rest)
    → page ≡ head_page (framed descriptor_kind head 0 (head_payload (addresses others) page))
page_back head others page rest t few long has =
    let numbers = addresses others in
    let front = header descriptor_kind head 0 ++ flat_map bytes_of numbers in
    let size : length front ≡ 28
    = omega (arith, length-append (header descriptor_kind head 0) (flat_map bytes_of numbers), length-header descriptor_kind head 0, length-numbers numbers, three_numbers others few) in
    let behind_front : drop 28 (framed descriptor_kind head 0 (head_payload numbers page)) ≡ drop 12 page
    = ap (drop 28) (sym (append_assoc (header descriptor_kind head 0) (flat_map bytes_of numbers) (drop 12 page))) ∙ rest_behind front (drop 12 page) 28 size in
    let blank : take 12 page ≡ replicate 12 0 = sym (take-append-le 12 page (joined rest) long) ∙ (ap (take 12) has ∙ front_zeros t) in
    sym (take-append-drop 12 page) ∙ (ap (λ (f : List ℕ). f ++ drop 12 page) blank ∙ ap (λ (r : List ℕ). replicate 12 0 ++ r) (sym behind_front))

all_three : (a b c : Bool) → a ≡ true → b ≡ true → c ≡ true → (a && b && c) ≡ true
all_three a b c one two three = rw (one, two, three) refl

-- a head was written over the pages in its other blocks
head_stands : (mid : List (List ℕ)) (head : ℕ) (others page : List ℕ) (rest : List (List ℕ)) (t : Descriptor) → 4 ≤ head → head < length mid → head < 2 ^ 32
    → length others ≤ 3 → All (λ b. b < 2 ^ 32) others → All (λ b. 4 ≤ b) others → All (λ b. b < length mid) others → holds others head ≡ false
    → pages_in mid others ≡ Ok rest → 12 ≤ length page → IsStorable t → HasPages t (page ∷ rest)
    → Describes (slice_set mid head (framed descriptor_kind head 0 (head_payload (addresses others) page))) head t (head ∷ named (addresses others))
head_stands mid head others page rest t above within fits few all_fit all_above all_below free read long may has =
    let block = framed descriptor_kind head 0 (head_payload (addresses others) page) in
    let now = slice_set mid head block in
    let here : block_of now head ≡ block = set_there mid head block within in
    let size : length now ≡ length mid = length-set mid head block in
    let address : is_address (length now) head ≡ true = ap (λ (n : ℕ). is_address n head) size ∙ address_is (length mid) head above within in
    let right : has_header descriptor_kind head block ≡ true
    = has_header-framed descriptor_kind head 0 (head_payload (addresses others) page) (lit< tt) fits (lit< tt) (inr refl) in
    let headed : has_header descriptor_kind head (block_of now head) ≡ true = ap (has_header descriptor_kind head) here ∙ right in
    let more : more_of block ≡ addresses others = more_back head others page few all_fit in
    let others_right : are_others (length now) (more_of (block_of now head)) ≡ true
    = ap (λ (b : List ℕ). are_others (length now) (more_of b)) here
    ∙ (ap (λ (n : ℕ). are_others n (more_of block)) size ∙ (ap (are_others (length mid)) more ∙ right_others (length mid) others all_above all_below)) in
    let names = named_back others all_above in
    let read_now : pages_in now others ≡ Ok rest = pages_stay mid others head block free ∙ read in
    stored now head page (head ∷ named (addresses others)) others (page ∷ rest) t
    (record {
      is = all_three _ _ _ address headed others_right;
      says = page_back head others page rest t few long has ∙ ap head_page (sym here);
      parts = ap (λ (ns : List ℕ). head ∷ named ns) (sym more ∙ ap more_of (sym here));
    })
    (sym names) (ap (pages_behind (page ∷ [])) read_now) may has

-- the head was put last
pub head_last : {D : Type 0} (g : Ghosts D) (whole before after others : List ℕ) (rest : List (List ℕ)) (head : ℕ) (page : List ℕ) (t : Descriptor) (start old new : D)
    → AreSpare (g.blocks start) whole → HasPut g whole before start old → whole ≡ others ++ before → before ≡ head ∷ after → AreSpare (g.blocks old) before
    → head < 2 ^ 32 → HasPut g before after old new
    → ((all : List (List ℕ)) → g.blocks old ≡ Some all
    → g.blocks new ≡ Some (slice_set all head (framed descriptor_kind head 0 (head_payload (addresses others) page))))
    → length others ≤ 3 → All (λ b. b < 2 ^ 32) others → WhereTold (g.blocks old) (λ all. pages_in all others ≡ Ok rest) → 12 ≤ length page
    → IsStorable t → HasPages t (page ∷ rest) → WhereTold (g.blocks new) (λ all. Describes all head t (head ∷ named (addresses others)))
head_last g whole before after others rest head page t start old new spare put_before split first spare_then fits put block few all_fit read long may has now told =
    let there = put_told g before after old new now put told in
    let mid = there.0 in
    let at_start = put_told g whole before start old mid put_before there.1 in
    let is : slice_set mid head (framed descriptor_kind head 0 (head_payload (addresses others) page)) ≡ now = told_is (block mid there.1) told in
    let within : head < length mid = first_inside (g.blocks old) mid head before after spare_then there.1 first in
    let above : 4 ≤ head = first_above (g.blocks old) head before after spare_then first in
    let all_above : All (λ b. 4 ≤ b) others = all_front (λ b. 4 ≤ b) others before (subst (All (λ b. 4 ≤ b)) split spare.above) in
    let below_start : All (λ b. b < length at_start.0) others
    = all_front (λ b. b < length at_start.0) others before (subst (All (λ b. b < length at_start.0)) split (spare.below at_start.0 at_start.1)) in
    let all_below : All (λ b. b < length mid) others = subst (λ (n : ℕ). All (λ b. b < n) others) (sym at_start.2.size) below_start in
    let free : holds others head ≡ false = not_taken others head after (subst (IsDistinct nat_eq) (split ∙ ap (λ (t : List ℕ). others ++ t) first) spare.distinct) in
    subst (λ (b : List (List ℕ)). Describes b head t (head ∷ named (addresses others))) is
    (head_stands mid head others page rest t above within fits few all_fit all_above all_below free (read mid there.1) long may has)
  where
    told_is : {o : Option (List (List ℕ))} {a b : List (List ℕ)} → o ≡ Some a → o ≡ Some b → a ≡ b
    told_is p q = cc

-- pages of 1,008 bytes: as many as a descriptor takes
joined_size : (pages : List (List ℕ)) → All (λ p. length p ≡ 1008) pages → length (joined pages) ≡ 1008 * length pages
joined_size [] each = refl
joined_size (p ∷ ps) each =
    let here : length p ≡ 1008 = each 0 p (omega arith) in
    omega (arith, length-append p (joined ps), here, joined_size ps (λ k d within. each (suc k) d (omega (arith, within))))

length-columns_of : (n : ℕ) (bytes : List ℕ) → length (columns_of n bytes) ≡ n
unfolding columns_of
length-columns_of zero bytes = refl
length-columns_of (suc n) bytes = ap suc (length-columns_of n (drop 55 bytes))

length-indexes_of : (n : ℕ) (bytes : List ℕ) → length (indexes_of n bytes) ≡ n
unfolding indexes_of
length-indexes_of zero bytes = refl
length-indexes_of (suc n) bytes = ap suc (length-indexes_of n (drop 62 bytes))

-- what a text says of its counts
counts_back : (text : List ℕ) (t : Descriptor) → descriptor_of text ≡ t
    → (slice_index text 31 ≡ length t.columns) × (slice_index text 32 ≡ length t.indexes)
unfolding descriptor_of
counts_back text t back = (
  sym (length-columns_of (slice_index text 31) (drop 45 text)) ∙ ap (λ (d : Descriptor). length d.columns) back,
  sym (length-indexes_of (slice_index text 32) (drop (45 + 55 * slice_index text 31) text)) ∙ ap (λ (d : Descriptor). length d.indexes) back,
)

bytes_size : (t : Descriptor) → IsStorable t → length (descriptor_bytes t) ≡ 1008 * block_count t
bytes_size t may =
    let bytes = descriptor_bytes t in
    let counts = counts_back (drop 12 bytes) t (bytes_back t bytes may refl) in
    let counted : length bytes ≡ 1008 * page_count (12 + text_size (slice_index (drop 12 bytes) 31) (slice_index (drop 12 bytes) 32))
    = eqb-true _ _ (bytes_counted t bytes may refl) in
    counted ∙ ap (λ (n : ℕ). 1008 * page_count (12 + text_size n (slice_index (drop 12 bytes) 32))) counts.0
    ∙ ap (λ (n : ℕ). 1008 * page_count (12 + text_size (length t.columns) n)) counts.1

pub pages_counted : (pages : List (List ℕ)) (t : Descriptor) → IsStorable t → HasPages t pages → All (λ p. length p ≡ 1008) pages → length pages ≡ block_count t
pages_counted pages t may has each =
    let size : 1008 * length pages ≡ 1008 * block_count t = sym (joined_size pages each) ∙ (ap length has ∙ bytes_size t may) in
    omega (arith, size)

pub one_fits : (bs : List ℕ) (at : ℕ) → All (λ b. b < 2 ^ 32) bs → at < 2 ^ 32 → All (λ b. b < 2 ^ 32) (bs ++ at ∷ [])
one_fits bs at fits small =
    all_both (λ b. b < 2 ^ 32) bs (at ∷ []) fits (all_cons (λ b. b < 2 ^ 32) at [] small (λ k d within. absurd (omega (arith, within))))

pub took_more : (whole bs before after : List ℕ) (at : ℕ) → whole ≡ bs ++ before → before ≡ at ∷ after → whole ≡ (bs ++ at ∷ []) ++ after
took_more whole bs before after at split first = split ∙ (ap (λ (t : List ℕ). bs ++ t) first ∙ sym (append_assoc bs (at ∷ []) after))

pub take_more : (pages : List (List ℕ)) (k : ℕ) (page : List ℕ) → k < length pages → page ≡ get_or pages k page → take k pages ++ page ∷ [] ≡ take (k + 1) pages
take_more pages k page within is =
    rw (add-one) (ap (λ (p : List ℕ). take k pages ++ p ∷ []) is ∙ sym (take-suc pages k page within))

pub numbers_written : (numbers : List ℕ) → flat_map (little_bytes 4) numbers ≡ flat_map bytes_of numbers
unfolding bytes_of
numbers_written numbers = refl

-- the first of some pages, and the rest
pub first_page : (pages first rest : List (List ℕ)) (page d : List ℕ) → 1 ≤ length pages → first ≡ take 1 pages → rest ≡ drop 1 pages
    → page ≡ get_or first 0 d → pages ≡ page ∷ rest
first_page [] first rest page d some front back is = absurd (omega (arith, some))
first_page (p ∷ ps) first rest page d some front back is =
    let here : page ≡ p = is ∙ ap (λ (f : List (List ℕ)). get_or f 0 d) front in
    rw (here, back) refl

-- how many pages are behind a head's
pub counted_rest : (pages sized cut rest : List (List ℕ)) (t : Descriptor) → IsStorable t → HasPages t pages → sized ≡ pages → cut ≡ pages
    → All (λ p. length p ≡ 1008) sized → 1 ≤ length pages → rest ≡ drop 1 cut → length rest + 1 ≡ block_count t
counted_rest pages sized cut rest t may has one two each some back =
    let count = pages_counted sized t may (ap joined one ∙ has) each in
    omega (arith, count, ap length one, ap length two, ap length back, length-drop 1 cut, some)

-- the blocks of a descriptor that was written
pub made_is : (told : Option (List (List ℕ))) (whole before others slice numbers made : List ℕ) (head : ℕ) → AreSpare told whole → whole ≡ others ++ before
    → slice ≡ others → numbers ≡ addresses slice → made ≡ head ∷ named numbers → made ≡ head ∷ others
made_is told whole before others slice numbers made head spare split same three parts =
    let above : All (λ b. 4 ≤ b) others = all_front (λ b. 4 ≤ b) others before (subst (All (λ b. 4 ≤ b)) split spare.above) in
    parts ∙ ap (λ (ns : List ℕ). head ∷ ns) (ap named (three ∙ ap addresses same) ∙ named_back others above)

pub head_done : {D : Type 0} (g : Ghosts D) (whole before after others : List ℕ) (rest : List (List ℕ)) (head : ℕ) (page : List ℕ) (t : Descriptor) (start old new : D)
    → (slice numbers payload made : List ℕ) → slice ≡ others → numbers ≡ addresses slice → payload ≡ head_payload numbers page → made ≡ head ∷ named numbers
    → AreSpare (g.blocks start) whole → HasPut g whole before start old → whole ≡ others ++ before → before ≡ head ∷ after → AreSpare (g.blocks old) before
    → head < 2 ^ 32 → HasPut g before after old new
    → ((all : List (List ℕ)) → g.blocks old ≡ Some all → g.blocks new ≡ Some (slice_set all head (framed descriptor_kind head 0 payload)))
    → length others ≤ 3 → All (λ b. b < 2 ^ 32) others → WhereTold (g.blocks old) (λ all. pages_in all others ≡ Ok rest) → 12 ≤ length page
    → IsStorable t → HasPages t (page ∷ rest) → WhereTold (g.blocks new) (λ all. Describes all head t made)
head_done g whole before after others rest head page t start old new slice numbers payload made same three paid parts spare put_before split first spare_then fits put block few all_fit read long may has now told =
    let numbers_are : numbers ≡ addresses others = three ∙ ap addresses same in
    let payload_is : payload ≡ head_payload (addresses others) page = paid ∙ ap (λ (ns : List ℕ). head_payload ns page) numbers_are in
    let made_of : made ≡ head ∷ named (addresses others) = parts ∙ ap (λ (ns : List ℕ). head ∷ named ns) numbers_are in
    subst (λ (bs : List ℕ). Describes now head t bs) (sym made_of)
    (head_last g whole before after others rest head page t start old new spare put_before split first spare_then fits put
    (λ all is. block all is ∙ ap (λ (p : List ℕ). Some (slice_set all head (framed descriptor_kind head 0 p))) payload_is)
    few all_fit read long may has now told)

pub first_long : (sized cut : List (List ℕ)) (page : List ℕ) (rest : List (List ℕ)) → sized ≡ cut → All (λ p. length p ≡ 1008) sized → cut ≡ page ∷ rest
    → 12 ≤ length page
first_long sized cut page rest same each is =
    let here : All (λ p. length p ≡ 1008) (page ∷ rest) = subst (All (λ p. length p ≡ 1008)) (same ∙ is) each in
    let size : length page ≡ 1008 = here 0 page (omega arith) in
    omega (arith, size)

pub few_rest : (pages cut rest : List (List ℕ)) → cut ≡ pages → length pages ≤ 4 → rest ≡ drop 1 cut → length rest ≤ 3
few_rest pages cut rest same few back = omega (arith, few, ap length same, ap length back, length-drop 1 cut)
