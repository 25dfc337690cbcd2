-- The topmost map over leaves that were written where they changed.
use Rattle.std.specs.Prelude.{◌≡◌, ◌≢◌, ℕ, zero, suc, ◌+◌, ◌*◌, ◌^◌, ◌<◌, ◌≤◌, Bool, true, false, List, [], ◌∷◌, ◌++◌, length, take, drop, nat_eq, slice_index, slice_set, if◌then◌else◌, Result, Ok, Err, nat_le, ◌||◌}
use Rattle.std.specs.List.{All}
use Rattle.std.proofs.Common.{refl, sym, ap, subst, ◌∙◌, inl, inr, arith, append_assoc, append-nil, length-set, get_or-set_other}
use Rattle.std.proofs.lemmas.List.{ext_get_or, get_or-take, get_or-drop, get_or_past, length-take, take_all, take-append-drop}
use Rattle.std.proofs.lemmas.Bool.{and_parts, eq-eqb, ne_eqb, cases_lt, lt-ltb, le-ltb, le-leb, lt-leb}
use Rattle.iq_outside.specs.declared.device.Device.{Ghosts}
use Rattle.iq_outside.specs.Devices.{block_of}
use Rattle.iq_base.specs.declared.refs.Ref.{Ref}
use Rattle.iq_block_map.specs.Maps.{is_address, map_block}
use Rattle.iq_block_map.specs.Refs.{IsIn, MayBe}
use Rattle.iq_block_map.specs.Objects.{leaf_count, map_at, leaves_of, listed, listed_in, joined, top_of, addresses_of}
use Rattle.iq_block_map.specs.Writing.{holds, SameBeside, HasPut}
use Rattle.iq_block_map.specs.Editing.{piece, fresh, AreApart, SharesMaps, edited, differing, same_list, one_unless, maps_needed}
use Rattle.iq_block_map.specs.Leaves.{padded, HasLeaves, OnlyLeaf, SameTop, NewTop, EndsTop}
use Rattle.iq_block_map.proofs.ObjectLemmas.{joined-nil}
use Rattle.iq_block_map.proofs.PutLemmas.{holds-append}
use Rattle.iq_block_map.proofs.LeafLemmas.{padded_of, map_written}
use Rattle.iq_block_map.proofs.StepLemmas.{listed_same, map_same, take_piece, ok_is, length_map, same_list-self, same_list-not}
use Rattle.iq_block_map.proofs.NextLemmas.{head_apart, below_of, behind_of}
use Rattle.iq_block_map.proofs.RewriteLemmas.{spare_zero, put_told}
use Rattle.iq_block_map.proofs.NamedLemmas.{each_of, listed_count}

-- a reference that could stand in a store can stand there after some blocks were written
pub in_after : {D : Type 0} (g : Ghosts D) (before after : List ℕ) (old new : D) (object : Ref) → IsIn (g.blocks old) object
    → HasPut g before after old new → IsIn (g.blocks new) object
in_after g before after old new object is put = record {
  few = is.few;
  above = is.above;
  below = λ some now told.
      let there = put_told g before after old new now put told in
      let inside = is.below some there.0 there.1 in
      omega (arith, inside, there.2.size);
}

-- where lists have the same items in the same places, as far as the other goes
pub fresh_same : (xs xs' ys : List ℕ) → ((j : ℕ) → j < length ys → slice_index xs j ≡ slice_index xs' j) → fresh xs ys ≡ fresh xs' ys
fresh_same xs xs' [] same = refl
fresh_same xs xs' (y ∷ ys) same =
    ap (λ (n : ℕ). (if nat_eq n y then [] else y ∷ []) ++ fresh (drop 1 xs) ys) (same 0 (omega arith))
    ∙ ap (λ (t : List ℕ). (if nat_eq (slice_index xs' 0) y then [] else y ∷ []) ++ t)
    (fresh_same (drop 1 xs) (drop 1 xs') ys
    (λ j within.
    let next : 1 + j ≡ suc j = omega arith in
    get_or-drop 1 xs j 0 ∙ ap (slice_index xs) next ∙ same (suc j) (omega (arith, within))
    ∙ ap (slice_index xs') (sym next) ∙ sym (get_or-drop 1 xs' j 0)))

-- the leaves in use, and zeros behind them
pub used_at : (count n : ℕ) (ls : List ℕ) (j : ℕ) → MayBe count n ls → slice_index (take n ls) j ≡ slice_index ls j
used_at count n ls j may = elim (cases_lt j n) [
  | inl used ↦ get_or-take n ls j 0 used
  | inr spare ↦ get_or_past (take n ls) j 0 (omega (arith, spare, length-take n ls)) ∙ sym (spare_zero count n j ls may (omega (arith, spare)))
]

-- lists with the same pieces are the same as far as these go
same_pieces : (n : ℕ) (xs ys : List ℕ) → ((k : ℕ) → k < n → piece k ys ≡ piece k xs) → take (252 * n) ys ≡ take (252 * n) xs
same_pieces zero xs ys same = ap (λ (m : ℕ). take m ys) none ∙ ap (λ (m : ℕ). take m xs) (sym none)
  where
    none : 252 * 0 ≡ 0
    none = omega arith
same_pieces (suc n) xs ys same =
    let more : 252 * (n + 1) ≡ 252 * suc n = omega arith in
    ap (λ (m : ℕ). take m ys) (sym more) ∙ sym (take_piece n ys)
    ∙ ap (λ (t : List ℕ). t ++ piece n ys) (same_pieces n xs ys (λ k within. same k (omega (arith, within))))
    ∙ ap (λ (t : List ℕ). take (252 * n) xs ++ t) (same n (omega arith))
    ∙ take_piece n xs ∙ ap (λ (m : ℕ). take m xs) more

-- an object's pages are those that its leaves name
pub addresses_from : (all : List (List ℕ)) (object : Ref) (ls : List ℕ) (r : Result (List ℕ) ℕ) → leaves_of all object ≡ Ok ls
    → listed false all object.pages ls ≡ r → addresses_of all object ≡ r
addresses_from all object ls r leaves is =
    ap (λ (t : Result (List ℕ) ℕ). joined (Ok []) (listed_in false all object.pages t)) leaves ∙ joined-nil (listed false all object.pages ls) ∙ is

pub listed_from : (all : List (List ℕ)) (object : Ref) (ls xs : List ℕ) → leaves_of all object ≡ Ok ls
    → addresses_of all object ≡ Ok xs → listed false all object.pages ls ≡ Ok xs
listed_from all object ls xs leaves is = sym (addresses_from all object ls (listed false all object.pages ls) leaves refl) ∙ is

pub leaves_one : (all : List (List ℕ)) (object : Ref) → 1 ≤ object.pages → object.pages ≤ 252 → leaves_of all object ≡ Ok (object.root ∷ [])
leaves_one all object some few = rw (ne_eqb object.pages 0 (omega (arith, some)), le-leb object.pages 252 few) refl

pub leaves_none : (all : List (List ℕ)) (object : Ref) → object.pages ≡ 0 → leaves_of all object ≡ Ok []
leaves_none all object none = rw (eq-eqb object.pages 0 none) refl

pub leaves_many : (all : List (List ℕ)) (object : Ref) → 252 < object.pages → leaves_of all object ≡ map_at all 2 (leaf_count object.pages) object.root
leaves_many all object many = rw (ne_eqb object.pages 0 (omega (arith, many)), lt-leb object.pages 252 many) refl

pub top_none : (object : Ref) → object.pages ≤ 252 → top_of true object ≡ []
top_none object few = rw (le-ltb 252 object.pages few) refl

pub top_one : (object : Ref) → 252 < object.pages → top_of true object ≡ object.root ∷ []
top_one object many = rw (lt-ltb 252 object.pages many) refl

ref_same : (a b : Ref) → a.root ≡ b.root → a.pages ≡ b.pages → a ≡ b
ref_same a b roots pages = both
  where
    first : Ref
    first = record { root = b.root; pages = a.pages }

    one : a ≡ first
    one = ap (λ (r : ℕ). with_root r) roots
      where
        with_root : ℕ → Ref
        with_root r = record { root = r; pages = a.pages }

    two : first ≡ b
    two = ap (λ (p : ℕ). with_pages p) pages
      where
        with_pages : ℕ → Ref
        with_pages p = record { root = b.root; pages = p }

    both : a ≡ b
    both = one ∙ two

take_one : (ms : List ℕ) → 0 < length ms → take 1 ms ≡ slice_index ms 0 ∷ []
take_one [] some = absurd (omega (arith, some))
take_one (m ∷ ms) some = refl

-- an object with some pages became one with others, by its maps
pub record Remaps (all now : List (List ℕ)) (old new : Ref) (xs ys before after : List ℕ) : Type 0 where
  pub size : new.pages ≡ length ys
  pub addresses : addresses_of now new ≡ Ok ys
  pub count : length before ≡ maps_needed xs ys + length after
  pub maps : (ls ms : List ℕ) → leaves_of all old ≡ Ok ls → leaves_of now new ≡ Ok ms → SharesMaps old new xs ys before after ls ms

-- what is known before the topmost map is made
pub record IsRebuilt (all mid : List (List ℕ)) (old : Ref) (ls ms xs ys before left taken : List ℕ) : Type 0 where
  pub leaves : leaves_of all old ≡ Ok (take (leaf_count old.pages) ls)
  pub may : MayBe (length all) (leaf_count old.pages) ls
  pub pages : addresses_of all old ≡ Ok xs
  pub apart : AreApart all old before
  pub has : HasLeaves all mid ls ms xs ys before left
  pub same : SameBeside taken all mid
  pub split : before ≡ taken ++ left
  pub inside : All (λ b. is_address (length all) b ≡ true) left
  pub small : length all < 2 ^ 32
  pub count : length xs ≡ old.pages
  pub grown : old.pages ≤ length ys
  pub some : 1 ≤ length ys
  pub few : length ys ≤ 63504

-- the same pages have the same leaves
same_leaves : (all mid : List (List ℕ)) (old : Ref) (ls ms xs ys before left : List ℕ) → MayBe (length all) (leaf_count old.pages) ls
    → HasLeaves all mid ls ms xs ys before left → length ys ≤ 63504 → ys ≡ xs → ms ≡ ls
same_leaves all mid old ls ms xs ys before left may has few same =
    let n = leaf_count (length ys) in
    let fits : n ≤ 252 = omega (arith, few) in
    let size : length (take n ms) ≡ length (take n ls)
    = length-take n ms ∙ omega (arith, has.may.size, may.size) ∙ sym (length-take n ls) in
    let front : take n ms ≡ take n ls = ext_get_or 0 (take n ms) (take n ls) size
    (λ k within.
    let inside : k < n = omega (arith, within, length-take n ms) in
    get_or-take n ms k 0 inside ∙ has.shares k inside (ap (piece k) same) ∙ sym (get_or-take n ls k 0 inside)) in
    sym (take-append-drop n ms) ∙ ap (λ (t : List ℕ). t ++ drop n ms) front ∙ ap (λ (t : List ℕ). take n ls ++ t) has.rest ∙ take-append-drop n ls

-- the same leaves name the same pages
same_pages : (all mid : List (List ℕ)) (old : Ref) (ls ms xs ys before left taken : List ℕ) → IsRebuilt all mid old ls ms xs ys before left taken
    → ms ≡ ls → ys ≡ xs
same_pages all mid old ls ms xs ys before left taken rebuilt same =
    let n = leaf_count (length ys) in
    sym (take_all (252 * n) ys (omega arith))
    ∙ same_pieces n xs ys (λ k within. rebuilt.has.differs k within (ap (λ (t : List ℕ). slice_index t k) same))
    ∙ take_all (252 * n) xs (omega (arith, rebuilt.count, rebuilt.grown))

-- what the new object has once its leaves and its topmost map are known
rebuilt_done : (all mid now : List (List ℕ)) (old new : Ref) (ls ms xs ys before left after taken : List ℕ)
    → IsRebuilt all mid old ls ms xs ys before left taken → new.pages ≡ length ys
    → leaves_of now new ≡ Ok (take (leaf_count (length ys)) ms)
    → listed false now (length ys) (take (leaf_count (length ys)) ms) ≡ Ok ys
    → left ≡ fresh (top_of true old) (top_of true new) ++ after → length left ≡ one_unless (nat_le (length ys) 252 || same_list ys xs) + length after
    → (ys ≡ xs → new ≡ old)
    → Remaps all now old new xs ys before after
rebuilt_done all mid now old new ls ms xs ys before left after taken rebuilt size leaves pages top top_count whole =
    let n = leaf_count (length ys) in
    let here : listed false now new.pages (take n ms) ≡ Ok ys = ap (λ (m : ℕ). listed false now m (take n ms)) size ∙ pages in
    record {
      size = size;
      addresses = addresses_from now new (take n ms) (Ok ys) leaves here;
      count = omega (arith, rebuilt.has.count, top_count);
      maps = λ ls' ms' is_old is_new.
          let old_is : ls' ≡ take (leaf_count old.pages) ls = ok_is ls' (take (leaf_count old.pages) ls) (leaves_of all old) is_old rebuilt.leaves in
          let new_is : ms' ≡ take n ms = ok_is ms' (take n ms) (leaves_of now new) is_new leaves in
          let at_old : (k : ℕ) → slice_index ls' k ≡ slice_index ls k
          = λ k. ap (λ (t : List ℕ). slice_index t k) old_is ∙ used_at (length all) (leaf_count old.pages) ls k rebuilt.may in
          let fresh_is : fresh ls' ms' ≡ fresh ls (take n ms)
          = ap (fresh ls') new_is ∙ fresh_same ls' ls (take n ms) (λ k within. at_old k) in
          record {
            taken =
                rebuilt.has.taken
                ∙ ap (λ (t : List ℕ). fresh ls (take n ms) ++ t) top
                ∙ sym (append_assoc (fresh ls (take n ms)) (fresh (top_of true old) (top_of true new)) after)
                ∙ ap (λ (t : List ℕ). (t ++ fresh (top_of true old) (top_of true new)) ++ after) (sym fresh_is);
            leaves = λ k within same.
                let inside : k < n = omega (arith, within, ap length new_is, length-take n ms) in
                ap (λ (t : List ℕ). slice_index t k) new_is ∙ get_or-take n ms k 0 inside ∙ rebuilt.has.shares k inside same ∙ sym (at_old k);
            whole = whole;
          };
    }

-- the only leaf is the topmost map
done_only : (all mid now : List (List ℕ)) (old new : Ref) (ls ms xs ys before left after taken : List ℕ)
    → IsRebuilt all mid old ls ms xs ys before left taken → new.pages ≡ length ys → OnlyLeaf mid now ms (length ys) new.root left after
    → Remaps all now old new xs ys before after
done_only all mid now old new ls ms xs ys before left after taken rebuilt size only =
    let one : leaf_count (length ys) ≡ 1 = omega (arith, rebuilt.some, only.few) in
    let first : take (leaf_count (length ys)) ms ≡ slice_index ms 0 ∷ []
    = ap (λ (n : ℕ). take n ms) one ∙ take_one ms (omega (arith, rebuilt.has.may.size)) in
    let leaves : leaves_of now new ≡ Ok (take (leaf_count (length ys)) ms)
    = leaves_one now new (omega (arith, size, rebuilt.some)) (omega (arith, size, only.few))
    ∙ ap Ok (ap (λ (r : ℕ). r ∷ []) only.is ∙ sym first) in
    let no_top : top_of true new ≡ [] = top_none new (omega (arith, size, only.few)) in
    let top : left ≡ fresh (top_of true old) (top_of true new) ++ after
    = sym only.left ∙ ap (λ (t : List ℕ). fresh (top_of true old) t ++ after) (sym no_top) in
    rebuilt_done all mid now old new ls ms xs ys before left after taken rebuilt size leaves
    (ap (λ (b : List (List ℕ)). listed false b (length ys) (take (leaf_count (length ys)) ms)) only.blocks ∙ rebuilt.has.listed) top
    (omega (arith, ap length only.left, ap (λ (b : Bool). one_unless (b || same_list ys xs)) (le-leb (length ys) 252 only.few)))
    (λ same.
    let old_pages : old.pages ≡ length ys = sym rebuilt.count ∙ ap length (sym same) in
    let old_one : leaves_of all old ≡ Ok (old.root ∷ []) = leaves_one all old (omega (arith, old_pages, rebuilt.some)) (omega (arith, old_pages, only.few)) in
    let old_first : take (leaf_count old.pages) ls ≡ slice_index ls 0 ∷ []
    = ap (λ (n : ℕ). take (leaf_count n) ls) old_pages ∙ ap (λ (n : ℕ). take n ls) one ∙ take_one ls (omega (arith, rebuilt.may.size)) in
    let root_list : old.root ∷ [] ≡ slice_index ls 0 ∷ [] = ok_is (old.root ∷ []) (slice_index ls 0 ∷ []) (leaves_of all old) old_one (rebuilt.leaves ∙ ap Ok old_first) in
    let root : old.root ≡ slice_index ls 0 = ap (λ (t : List ℕ). slice_index t 0) root_list in
    let leaf : slice_index ms 0 ≡ slice_index ls 0 = ap (λ (t : List ℕ). slice_index t 0) (same_leaves all mid old ls ms xs ys before left rebuilt.may rebuilt.has rebuilt.few same) in
    ref_same new old (only.is ∙ leaf ∙ sym root) (size ∙ sym old_pages))

-- the topmost map stays
done_same : (all mid now : List (List ℕ)) (old new : Ref) (ls ms xs ys before left after taken : List ℕ)
    → IsRebuilt all mid old ls ms xs ys before left taken → new.pages ≡ length ys → SameTop mid now old ls ms (length ys) new.root left after
    → Remaps all now old new xs ys before after
done_same all mid now old new ls ms xs ys before left after taken rebuilt size stays =
    let same : ys ≡ xs = same_pages all mid old ls ms xs ys before left taken rebuilt stays.leaves in
    let old_pages : old.pages ≡ length ys = sym rebuilt.count ∙ ap length (sym same) in
    let is : new ≡ old = ref_same new old stays.is (size ∙ sym old_pages) in
    let apart : holds before old.root ≡ false
    = subst (All (λ b. holds before b ≡ false)) (top_one old stays.had) rebuilt.apart.top 0 0 (omega arith) in
    let free = holds-append taken left old.root (ap (λ (t : List ℕ). holds t old.root) (sym rebuilt.split) ∙ apart) in
    let block : block_of now old.root ≡ block_of all old.root
    = ap (λ (b : List (List ℕ)). block_of b old.root) stays.blocks ∙ rebuilt.same.others old.root free.0 in
    let long : length now ≡ length all = ap length stays.blocks ∙ rebuilt.same.size in
    let leaves_old : leaves_of now old ≡ Ok (take (leaf_count old.pages) ls)
    = leaves_many now old stays.had ∙ map_same all now 2 (leaf_count old.pages) old.root long block ∙ sym (leaves_many all old stays.had) ∙ rebuilt.leaves in
    let leaves : leaves_of now new ≡ Ok (take (leaf_count (length ys)) ms)
    = ap (leaves_of now) is ∙ leaves_old
    ∙ ap (λ (n : ℕ). Ok (take (leaf_count n) ls)) old_pages ∙ ap (λ (t : List ℕ). Ok (take (leaf_count (length ys)) t)) (sym stays.leaves) in
    let same_root : nat_eq old.root old.root ≡ true = eq-eqb old.root old.root refl in
    let none : fresh (old.root ∷ []) (old.root ∷ []) ≡ [] = rw same_root refl in
    let top : left ≡ fresh (top_of true old) (top_of true new) ++ after
    = sym stays.left
    ∙ ap (λ (t : List ℕ). t ++ after) (sym none)
    ∙ ap (λ (t : List ℕ). fresh t t ++ after) (sym (top_one old stays.had))
    ∙ ap (λ (r : Ref). fresh (top_of true old) (top_of true r) ++ after) (sym is) in
    rebuilt_done all mid now old new ls ms xs ys before left after taken rebuilt size leaves
    (ap (λ (b : List (List ℕ)). listed false b (length ys) (take (leaf_count (length ys)) ms)) stays.blocks ∙ rebuilt.has.listed) top
    (omega (
      arith,
      ap length stays.left,
      ap one_unless (ap (λ (b : Bool). b || same_list ys xs) (lt-leb (length ys) 252 stays.many)
          ∙ ap (λ (t : List ℕ). same_list t xs) same ∙ same_list-self xs),
    ))
    (λ again. is)

-- a topmost map that is written is over other pages
new_pages : (all mid : List (List ℕ)) (old : Ref) (ls ms xs ys before left : List ℕ) → MayBe (length all) (leaf_count old.pages) ls
    → HasLeaves all mid ls ms xs ys before left → length ys ≤ 63504 → length xs ≡ old.pages → 252 < length ys → (252 < old.pages → ms ≢ ls) → ys ≢ xs
new_pages all mid old ls ms xs ys before left may has few count many other is =
    let old_pages : old.pages ≡ length ys = sym count ∙ ap length (sym is) in
    other (omega (arith, old_pages, many)) (same_leaves all mid old ls ms xs ys before left may has few is)

-- no block is left for a topmost map that must be written
pub lacks_top : (all mid : List (List ℕ)) (old : Ref) (ls ms xs ys before left : List ℕ) → MayBe (length all) (leaf_count old.pages) ls
    → HasLeaves all mid ls ms xs ys before left → length ys ≤ 63504 → length xs ≡ old.pages → 252 < length ys → (252 < old.pages → ms ≢ ls) → left ≡ []
    → length before < maps_needed xs ys
lacks_top all mid old ls ms xs ys before left may has few count many other none =
    let one : one_unless (nat_le (length ys) 252 || same_list ys xs) ≡ 1
    = ap one_unless (ap (λ (b : Bool). b || same_list ys xs) (lt-leb (length ys) 252 many)
    ∙ same_list-not ys xs (new_pages all mid old ls ms xs ys before left may has few count many other)) in
    omega (arith, one, has.count, ap length none)

-- the topmost map is written
done_new : (all mid now : List (List ℕ)) (old new : Ref) (ls ms xs ys before left after taken : List ℕ)
    → IsRebuilt all mid old ls ms xs ys before left taken → new.pages ≡ length ys → NewTop mid now old ls ms (length ys) new.root left after
    → Remaps all now old new xs ys before after
done_new all mid now old new ls ms xs ys before left after taken rebuilt size made =
    let n = leaf_count (length ys) in
    let fits : n ≤ 252 = omega (arith, rebuilt.few) in
    let long : length (take n ms) ≡ n = length-take n ms ∙ omega (arith, fits, rebuilt.has.may.size) in
    let address : is_address (length all) new.root ≡ true
    = ap (λ (t : List ℕ). is_address (length all) (slice_index t 0)) (sym made.left) ∙ rebuilt.inside 0 0 (omega (arith, ap length made.left)) in
    let within : new.root < length mid = omega (arith, below_of (length all) new.root address, rebuilt.same.size) in
    let named : All (λ a. is_address (length all) a ≡ true) (take n ms) = each_of (is_address (length all)) (take n ms) (and_parts _ _ rebuilt.has.may.places).0 in
    let named_mid : All (λ a. is_address (length mid) a ≡ true) (take n ms)
    = subst (λ (m : ℕ). All (λ a. is_address m a ≡ true) (take n ms)) (sym rebuilt.same.size) named in
    let block = map_block 2 new.root ms in
    let padded_is : ms ≡ padded (take n ms) = padded_of (length all) n ms rebuilt.has.may fits in
    let blocks : now ≡ slice_set mid new.root (map_block 2 new.root (padded (take n ms)))
    = made.blocks ∙ ap (λ (t : List ℕ). slice_set mid new.root (map_block 2 new.root t)) padded_is in
    let written : map_at now 2 n new.root ≡ Ok (take n ms)
    = ap (λ (b : List (List ℕ)). map_at b 2 n new.root) blocks
    ∙ ap (λ (m : ℕ). map_at (slice_set mid new.root (map_block 2 new.root (padded (take n ms)))) 2 m new.root) (sym long)
    ∙ map_written mid 2 new.root (take n ms) (omega (arith, rebuilt.small, rebuilt.same.size)) (omega arith) within (omega (arith, long, fits)) named_mid in
    let leaves : leaves_of now new ≡ Ok (take n ms)
    = leaves_many now new (omega (arith, size, made.many)) ∙ ap (λ (m : ℕ). map_at now 2 (leaf_count m) new.root) size ∙ written in
    let size_now : length now ≡ length mid = ap length made.blocks ∙ length-set mid new.root block in
    let same : listed false now (length ys) (take n ms) ≡ listed false mid (length ys) (take n ms)
    = listed_same false mid now (length ys) (take n ms) size_now
    (λ j inside.
    let early : j < n = omega (arith, inside, long) in
    let apart : holds left (slice_index (take n ms) j) ≡ false = ap (holds left) (get_or-take n ms j 0 early) ∙ rebuilt.has.apart j early in
    let free = head_apart new.root (slice_index (take n ms) j) after (ap (λ (t : List ℕ). holds t (slice_index (take n ms) j)) (sym made.left) ∙ apart) in
    ap (λ (b : List (List ℕ)). block_of b (slice_index (take n ms) j)) made.blocks
    ∙ get_or-set_other mid new.root (slice_index (take n ms) j) block [] free.0) in
    let other : slice_index (top_of true old) 0 ≢ new.root = elim (cases_lt 252 old.pages) [
      | inl many ↦
          (let apart : holds before old.root ≡ false = subst (All (λ b. holds before b ≡ false)) (top_one old many) rebuilt.apart.top 0 0 (omega arith) in
          let free = holds-append taken left old.root (ap (λ (t : List ℕ). holds t old.root) (sym rebuilt.split) ∙ apart) in
          let head = head_apart new.root old.root after (ap (λ (t : List ℕ). holds t old.root) (sym made.left) ∙ free.1) in
          λ is. head.0 (sym (ap (λ (t : List ℕ). slice_index t 0) (top_one old many)) ∙ is))
      | inr few ↦
          (let none : slice_index (top_of true old) 0 ≡ 0 = ap (λ (t : List ℕ). slice_index t 0) (top_none old few) in
          λ is. absurd (omega (arith, none, is, behind_of (length all) new.root address)))
    ] in
    let differ : nat_eq (slice_index (top_of true old) 0) new.root ≡ false = ne_eqb (slice_index (top_of true old) 0) new.root other in
    let fresh_top : fresh (top_of true old) (new.root ∷ []) ≡ new.root ∷ []
    = ap (λ (b : Bool). (if b then [] else new.root ∷ []) ++ []) differ in
    let top : left ≡ fresh (top_of true old) (top_of true new) ++ after
    = made.left ∙ ap (λ (t : List ℕ). t ++ after) (sym fresh_top)
    ∙ ap (λ (t : List ℕ). fresh (top_of true old) t ++ after) (sym (top_one new (omega (arith, size, made.many)))) in
    rebuilt_done all mid now old new ls ms xs ys before left after taken rebuilt size leaves (same ∙ rebuilt.has.listed) top
    (omega (
      arith,
      ap length made.left,
      ap one_unless (ap (λ (b : Bool). b || same_list ys xs) (lt-leb (length ys) 252 made.many)
          ∙ same_list-not ys xs (new_pages all mid old ls ms xs ys before left rebuilt.may rebuilt.has rebuilt.few rebuilt.count made.many made.leaves)),
    ))
    (λ is.
    let old_pages : old.pages ≡ length ys = sym rebuilt.count ∙ ap length (sym is) in
    absurd (made.leaves (omega (arith, old_pages, made.many)) (same_leaves all mid old ls ms xs ys before left rebuilt.may rebuilt.has rebuilt.few is)))

-- the new object has its pages, by maps that it shares where it can
pub remap_done : (all mid now : List (List ℕ)) (old new : Ref) (ls ms xs ys before left after taken : List ℕ)
    → IsRebuilt all mid old ls ms xs ys before left taken → new.pages ≡ length ys → EndsTop mid now old ls ms (length ys) new.root left after
    → Remaps all now old new xs ys before after
remap_done all mid now old new ls ms xs ys before left after taken rebuilt size (inl only) =
    done_only all mid now old new ls ms xs ys before left after taken rebuilt size only
remap_done all mid now old new ls ms xs ys before left after taken rebuilt size (inr (inl same)) =
    done_same all mid now old new ls ms xs ys before left after taken rebuilt size same
remap_done all mid now old new ls ms xs ys before left after taken rebuilt size (inr (inr made)) =
    done_new all mid now old new ls ms xs ys before left after taken rebuilt size made

-- an object has as many pages as it says
pub leaves_count : (all : List (List ℕ)) (object : Ref) (ls : List ℕ) → object.pages ≤ 63504 → leaves_of all object ≡ Ok ls → object.pages ≤ 252 * length ls
leaves_count all object ls few is = elim (cases_lt 252 object.pages) [
  | inl many ↦
      (let size : length ls ≡ leaf_count object.pages
      = length_map all 2 (leaf_count object.pages) object.root ls (sym (leaves_many all object many) ∙ is) (omega (arith, few)) in
      omega (arith, size))
  | inr less ↦ (elim (cases_lt 0 object.pages) [
    | inl some ↦
        (let one : object.root ∷ [] ≡ ls = ok_is (object.root ∷ []) ls (leaves_of all object) (leaves_one all object (omega (arith, some)) less) is in
        omega (arith, less, ap length one))
    | inr none ↦ omega (arith, none)
  ])
]

-- and no more leaves than these take
pub leaves_fit : (all : List (List ℕ)) (object : Ref) (ls : List ℕ) → object.pages ≤ 63504 → leaves_of all object ≡ Ok ls → length ls ≤ leaf_count object.pages
leaves_fit all object ls few is = elim (cases_lt 252 object.pages) [
  | inl many ↦
      (let size : length ls ≡ leaf_count object.pages
      = length_map all 2 (leaf_count object.pages) object.root ls (sym (leaves_many all object many) ∙ is) (omega (arith, few)) in
      omega (arith, size))
  | inr less ↦ (elim (cases_lt 0 object.pages) [
    | inl some ↦
        (let one : object.root ∷ [] ≡ ls = ok_is (object.root ∷ []) ls (leaves_of all object) (leaves_one all object (omega (arith, some)) less) is in
        omega (arith, some, ap length one))
    | inr none ↦
        (let no_one : [] ≡ ls = ok_is [] ls (leaves_of all object) (leaves_none all object (omega (arith, none))) is in
        omega (arith, ap length no_one))
  ])
]

pub addresses_count : (all : List (List ℕ)) (object : Ref) (xs : List ℕ) → object.pages ≤ 63504 → addresses_of all object ≡ Ok xs → length xs ≡ object.pages
addresses_count all object xs few is = go (leaves_of all object) refl
  where
    go : (r : Result (List ℕ) ℕ) → leaves_of all object ≡ r → length xs ≡ object.pages
    go (Ok ls) leaves = listed_count all object.pages ls xs (listed_from all object ls xs leaves is) (leaves_count all object ls few leaves)
    go (Err b) leaves = absurd (no_err (sym (ap (λ (t : Result (List ℕ) ℕ). joined (Ok []) (listed_in false all object.pages t)) leaves) ∙ is))
      where
        no_err : ◌≡◌ {A = Result (List ℕ) ℕ} (Err b) (Ok xs) → ⊥
        no_err wrong = cc

fresh_self : (xs : List ℕ) → fresh xs xs ≡ []
fresh_self [] = refl
fresh_self (x ∷ xs) = rw (eq-eqb x x refl) (fresh_self xs)

-- the same pages need no map
differing_none : (n : ℕ) (xs : List ℕ) → differing n xs xs ≡ 0
differing_none zero xs = refl
differing_none (suc n) xs =
    let rest = differing_none n xs in
    omega (arith, rest, ap one_unless (same_list-self (piece n xs)))

or_right : (b c : Bool) → c ≡ true → (b || c) ≡ true
or_right true c is = refl
or_right false c is = is

needs_none : (xs : List ℕ) → maps_needed xs xs ≡ 0
needs_none xs = omega (
  arith,
  differing_none (leaf_count (length xs)) xs,
  ap one_unless (or_right (nat_le (length xs) 252) (same_list xs xs) (same_list-self xs)),
)

-- nothing changes
pub remap_none : (all now : List (List ℕ)) (old : Ref) (xs left : List ℕ) → now ≡ all → old.pages ≤ 63504 → addresses_of all old ≡ Ok xs
    → Remaps all now old old xs (edited xs [] []) left left
remap_none all now old xs left same few is =
    let none : edited xs [] [] ≡ xs = append-nil xs in
    record {
      size = sym (addresses_count all old xs few is) ∙ ap length (sym none);
      addresses = ap (λ (b : List (List ℕ)). addresses_of b old) same ∙ is ∙ ap Ok (sym none);
      count = omega (arith, ap (maps_needed xs) none, needs_none xs);
      maps = λ ls ms is_old is_new.
          let equal : ls ≡ ms = ok_is ls ms (leaves_of all old) is_old (ap (λ (b : List (List ℕ)). leaves_of b old) (sym same) ∙ is_new) in
          let no_leaf : fresh ls ms ≡ [] = ap (fresh ls) (sym equal) ∙ fresh_self ls in
          record {
            taken = ap (λ (t : List ℕ). t ++ left) (sym no_leaf) ∙ ap (λ (t : List ℕ). t ++ left) (sym (append-nil (fresh ls ms)))
                ∙ ap (λ (t : List ℕ). (fresh ls ms ++ t) ++ left) (sym (fresh_self (top_of true old)));
            leaves = λ k within pieces. ap (λ (t : List ℕ). slice_index t k) (sym equal);
            whole = λ again. refl;
          };
    }
