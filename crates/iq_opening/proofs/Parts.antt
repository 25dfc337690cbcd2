-- How lists of steps begin and go on.
use Rattle.std.specs.Prelude.{◌≡◌, ◌≢◌, ℕ, suc, ◌+◌, ◌-◌, ◌*◌, ◌<◌, ◌≤◌, min, false, List, [], ◌∷◌, ◌++◌, length, take, drop, flat_map, slice_index, get_or, nat_eq, nat_le}
use Rattle.std.proofs.Common.{refl, sym, ap, ◌∙◌, arith, append-nil, append_assoc, add-one}
use Rattle.std.proofs.Math.Seq.{drop-cons}
use Rattle.std.proofs.lemmas.List.{drop_all}
use Rattle.std.proofs.lemmas.Bool.{le-leb}
use Rattle.std.proofs.lemmas.Bool.Decides.{nat_tests}
use Rattle.iq_outside.specs.Devices.{block_of}
use Rattle.iq_block_store.specs.Frames.{page_kind, descriptor_kind, number_at, payload_of}
use Rattle.iq_base.specs.declared.refs.Ref.{Ref}
use Rattle.iq_block_map.specs.Maps.{places}
use Rattle.iq_block_map.specs.Objects.{leaf_count}
use Rattle.iq_base.specs.declared.descriptors.ColumnPart.{ColumnPart}
use Rattle.iq_base.specs.declared.descriptors.IndexPart.{IndexPart}
use Rattle.iq_base.specs.declared.descriptors.Descriptor.{Descriptor}
use Rattle.iq_opening.specs.Steps.{visit, visit_map, named, page_steps, leaf_steps, leaves_steps, high_steps, object_steps, object_from, column_steps, columns_steps, index_steps, indexes_steps, objects_steps, other_steps, block_steps}
use Rattle.iq_descriptors.specs.Parts.{more_of, blocks_at, head_page, other_page, pages_at}

pub leaf_begins : (all : List (List ℕ)) (holder at used : ℕ) (ps named : List ℕ) → ps ≡ places (block_of all at) → named ≡ take used ps
    → leaf_steps all holder at used ≡ (visit_map holder at 1 used ∷ []) ++ page_steps at (drop 0 named)
unfolding leaf_steps
leaf_begins all holder at used ps named is front = rw (front, is) refl

pub leaf_first : (all : List (List ℕ)) (holder at used : ℕ)
    → leaf_steps all holder at used ≡ (visit_map holder at 1 used ∷ []) ++ page_steps at (named all at used)
unfolding leaf_steps
leaf_first all holder at used = refl

pub high_first : (all : List (List ℕ)) (holder count : ℕ) (object : Ref) → count ≡ leaf_count object.pages
    → high_steps all holder object
    ≡ (visit_map holder object.root 2 count ∷ []) ++ leaves_steps all object.root object.pages (named all object.root (leaf_count object.pages))
unfolding high_steps
high_first all holder count object size = rw size refl

pub pages_go_on : (at i : ℕ) (pages : List ℕ) → i < length pages
    → page_steps at (drop i pages) ≡ (visit at (slice_index pages i) page_kind ∷ []) ++ page_steps at (drop (i + 1) pages)
pages_go_on at i pages within = rw (add-one) (ap (page_steps at) (drop-cons pages i 0 within))

pub pages_end : (at i : ℕ) (pages : List ℕ) → length pages ≤ i → page_steps at (drop i pages) ≡ []
pages_end at i pages past = ap (page_steps at) (drop_all i pages past)

pub high_begins : (all : List (List ℕ)) (holder count : ℕ) (object : Ref) (ps leaves : List ℕ) → ps ≡ places (block_of all object.root) → leaves ≡ take count ps
    → count ≡ leaf_count object.pages
    → high_steps all holder object ≡ (visit_map holder object.root 2 count ∷ []) ++ leaves_steps all object.root object.pages (drop 0 leaves)
unfolding high_steps
high_begins all holder count object ps leaves is front size = rw (front, is, size) refl

pub leaves_go_on : (all : List (List ℕ)) (top pages used left i : ℕ) (leaves : List ℕ) → i < length leaves → used ≡ min pages 252
    → left ≡ pages - 252
    → leaves_steps all top pages (drop i leaves) ≡ leaf_steps all top (slice_index leaves i) used ++ leaves_steps all top left (drop (i + 1) leaves)
unfolding leaves_steps
leaves_go_on all top pages used left i leaves within is less =
    let same : used ≡ min 252 pages = omega (arith, is) in
    rw (add-one, drop-cons leaves i 0, same, less) refl

pub leaves_end : (all : List (List ℕ)) (top pages i : ℕ) (leaves : List ℕ) → length leaves ≤ i → leaves_steps all top pages (drop i leaves) ≡ []
unfolding leaves_steps
leaves_end all top pages i leaves past = ap (leaves_steps all top pages) (drop_all i leaves past)

pub no_object : (all : List (List ℕ)) (holder : ℕ) (object : Ref) → object.pages ≡ 0 → object_steps all holder object ≡ []
unfolding object_steps
no_object all holder object none = rw none refl

pub low_object : (all : List (List ℕ)) (holder : ℕ) (object : Ref) → object.pages ≢ 0 → object.pages ≤ 252
    → object_steps all holder object ≡ leaf_steps all holder object.root object.pages
unfolding object_steps
low_object all holder object some low =
    let is_some : nat_eq object.pages 0 ≡ false = grind (arith, nat_tests) in
    rw (is_some, le-leb object.pages 252 low) refl

pub high_object : (all : List (List ℕ)) (holder : ℕ) (object : Ref) → 252 < object.pages
    → object_steps all holder object ≡ high_steps all holder object
unfolding object_steps
high_object all holder object high =
    let is_some : nat_eq object.pages 0 ≡ false = grind (arith, nat_tests) in
    let is_high : nat_le object.pages 252 ≡ false = grind (arith, nat_tests) in
    rw (is_some, is_high) refl

pub column_is : (all : List (List ℕ)) (blocks : List ℕ) (byte : ℕ) (c : ColumnPart)
    → column_steps all blocks byte c ≡ object_from all blocks (byte + 39) c.cells ++ object_from all blocks (byte + 47) c.values
unfolding column_steps
column_is all blocks byte c = refl

pub index_is : (all : List (List ℕ)) (blocks : List ℕ) (byte : ℕ) (i : IndexPart)
    → index_steps all blocks byte i
    ≡ object_from all blocks (byte + 38) i.first ++ (object_from all blocks (byte + 46) i.second ++ object_from all blocks (byte + 54) i.third)
unfolding index_steps
index_is all blocks byte i = refl

pub objects_are : (all : List (List ℕ)) (blocks : List ℕ) (t : Descriptor)
    → objects_steps all blocks t
    ≡ object_from all blocks 49 t.existence
    ++ (columns_steps all blocks 57 t.columns ++ indexes_steps all blocks (57 + 55 * length t.columns) t.indexes)
unfolding objects_steps
objects_are all blocks t = refl

pub columns_end : (all : List (List ℕ)) (blocks : List ℕ) (byte i : ℕ) (cs : List ColumnPart) → length cs ≤ i
    → columns_steps all blocks byte (drop i cs) ≡ []
unfolding columns_steps
columns_end all blocks byte i cs past = ap (columns_steps all blocks byte) (drop_all i cs past)

pub columns_go_on : (all : List (List ℕ)) (blocks : List ℕ) (byte i : ℕ) (cs : List ColumnPart) (c : ColumnPart) → i < length cs
    → c ≡ get_or cs i c
    → columns_steps all blocks byte (drop i cs) ≡ column_steps all blocks byte c ++ columns_steps all blocks (byte + 55) (drop (i + 1) cs)
unfolding columns_steps
columns_go_on all blocks byte i cs c within is =
    rw (add-one, drop-cons cs i c) (ap (λ (d : ColumnPart). column_steps all blocks byte d ++ columns_steps all blocks (byte + 55) (drop (suc i) cs)) (sym is))

pub indexes_end : (all : List (List ℕ)) (blocks : List ℕ) (byte i : ℕ) (is : List IndexPart) → length is ≤ i
    → indexes_steps all blocks byte (drop i is) ≡ []
unfolding indexes_steps
indexes_end all blocks byte i is past = ap (indexes_steps all blocks byte) (drop_all i is past)

pub indexes_go_on : (all : List (List ℕ)) (blocks : List ℕ) (byte i : ℕ) (is : List IndexPart) (x : IndexPart) → i < length is
    → x ≡ get_or is i x
    → indexes_steps all blocks byte (drop i is) ≡ index_steps all blocks byte x ++ indexes_steps all blocks (byte + 62) (drop (i + 1) is)
unfolding indexes_steps
indexes_go_on all blocks byte i is x within here =
    rw (add-one, drop-cons is i x) (ap (λ (d : IndexPart). index_steps all blocks byte d ++ indexes_steps all blocks (byte + 62) (drop (suc i) is)) (sym here))

pub indexes_same : (all : List (List ℕ)) (blocks : List ℕ) (columns cs : List ColumnPart) (indexes is : List IndexPart) (count : ℕ) → cs ≡ columns
    → count ≡ length cs → is ≡ indexes
    → indexes_steps all blocks (57 + 55 * length columns) indexes ≡ indexes_steps all blocks (57 + 55 * count) is
indexes_same all blocks columns cs indexes is count first size second = rw (size, first, second) refl

pub no_other : (head at : ℕ) → at ≡ 0 → other_steps head at ≡ []
unfolding other_steps
no_other head at none = rw none refl

pub some_other : (head at : ℕ) → at ≢ 0 → other_steps head at ≡ visit head at descriptor_kind ∷ []
unfolding other_steps
some_other head at some =
    let is_some : nat_eq at 0 ≡ false = grind (arith, nat_tests) in
    rw is_some refl

pub no_other_page : (all : List (List ℕ)) (at : ℕ) → at ≡ 0 → other_page all at ≡ []
no_other_page all at none = rw none refl

pub some_other_page : (all : List (List ℕ)) (at : ℕ) → at ≢ 0 → other_page all at ≡ payload_of (block_of all at) ∷ []
some_other_page all at some =
    let is_some : nat_eq at 0 ≡ false = grind (arith, nat_tests) in
    rw is_some refl

pub blocks_begin : (all : List (List ℕ)) (body head : ℕ)
    → block_steps all body head ≡ (visit body head descriptor_kind ∷ []) ++ flat_map (other_steps head) (more_of (block_of all head))
unfolding block_steps
blocks_begin all body head = refl

pub more_are : (all : List (List ℕ)) (head second third fourth : ℕ) (block : List ℕ) → block ≡ block_of all head → second ≡ number_at block 16
    → third ≡ number_at block 20 → fourth ≡ number_at block 24
    → flat_map (other_steps head) (more_of (block_of all head))
    ≡ other_steps head second ++ (other_steps head third ++ (other_steps head fourth ++ []))
more_are all head second third fourth block is a b c = rw (a, b, c, is) refl

pub blocks_are : (all : List (List ℕ)) (head second third fourth : ℕ) (block : List ℕ) → block ≡ block_of all head → second ≡ number_at block 16
    → third ≡ number_at block 20 → fourth ≡ number_at block 24 → head ∷ second ∷ third ∷ fourth ∷ [] ≡ blocks_at all head
blocks_are all head second third fourth block is a b c = rw (a, b, c, is) refl

pub pages_are : (all : List (List ℕ)) (head second third fourth : ℕ) (block page : List ℕ) (p1 p2 p3 p4 : List (List ℕ)) → block ≡ block_of all head
    → second ≡ number_at block 16 → third ≡ number_at block 20 → fourth ≡ number_at block 24 → page ≡ head_page block → p1 ≡ page ∷ []
    → p2 ≡ p1 ++ other_page all second → p3 ≡ p2 ++ other_page all third → p4 ≡ p3 ++ other_page all fourth → p4 ≡ pages_at all head
pages_are all head second third fourth block page p1 p2 p3 p4 is a b c first one two three four =
    rw (four, three, two, one, first, a, b, c, is)
    (append_assoc (head_page (block_of all head) ∷ other_page all (number_at (block_of all head) 16)) (other_page all (number_at (block_of all head) 20))
    (other_page all (number_at (block_of all head) 24))
    ∙ ap (λ (ps : List (List ℕ)). head_page (block_of all head) ∷ (other_page all (number_at (block_of all head) 16) ++ (other_page all (number_at (block_of all head) 20) ++ ps)))
    (sym (append-nil (other_page all (number_at (block_of all head) 24)))))
