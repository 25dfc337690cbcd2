-- Tables stand on what they reach.
use Rattle.std.specs.Prelude.{◌≡◌, ◌≢◌, ℕ, ◌+◌, ◌*◌, ◌/◌, ◌≤◌, Bool, true, false, List, [], ◌∷◌, ◌++◌, length, flat_map, nat_eq, slice_index, slice_set, if◌then◌else◌, None, Ok}
use Rattle.std.proofs.Common.{refl, sym, ap, ap₂, ◌∙◌, inl, inr, length-set}
use Rattle.std.proofs.lemmas.Bool.{and_parts, cases_eq}
use Rattle.iq_outside.specs.Devices.{block_of}
use Rattle.iq_block_store.specs.Frames.{descriptor_kind, payload_of}
use Rattle.iq_base.specs.declared.refs.Ref.{Ref}
use Rattle.iq_base.specs.declared.descriptors.ColumnPart.{ColumnPart}
use Rattle.iq_base.specs.declared.descriptors.IndexPart.{IndexPart}
use Rattle.iq_base.specs.declared.descriptors.Descriptor.{Descriptor}
use Rattle.iq_catalog.specs.Storable.{are_columns, are_indexes, IsStorable}
use Rattle.iq_block_map.specs.Laws.{SameObject}
use Rattle.iq_opening.specs.declared.faults.StoreCause.TheVariants.{BadCatalog}
use Rattle.iq_descriptors.specs.Parts.{more_of, blocks_at, head_page, other_page, pages_at, said_by, table_at, is_descriptor}
use Rattle.iq_opening.specs.Tables.{Format, may_stand, is_table}
use Rattle.iq_opening.specs.Steps.{Step, visit, table, object_from, column_steps, columns_steps, index_steps, indexes_steps, objects_steps, other_steps, block_steps, table_steps, tables_steps}
use Rattle.iq_opening.specs.Walk.{unless, fault_at, walked}
use Rattle.iq_opening.specs.Laws.{SameWhere, OfColumn, OfColumns, OfIndex, OfIndexes, OfObjects, SameReach}
use Rattle.iq_opening.proofs.Ways.{walked_on}
use Rattle.iq_opening.proofs.Parts.{some_other, no_other_page, some_other_page}
use Rattle.iq_opening.proofs.Refs.{few_pages, ColumnRefs, column_refs, IndexRefs, index_refs}
use Rattle.iq_descriptors.proofs.SaidLemmas.{storable_of}
use Rattle.iq_opening.proofs.Passed.{Split, split, step_passed, step_passes, unless_none, size_walked, VisitPassed, visit_passed}
use Rattle.iq_opening.proofs.Same.{OnlyVisits, visits_both, object_visits, visits_same, earlier, object_same, object_stands}

-- a part of a way is the same in both lists of blocks, tests no descriptor, and something holds of what it reaches
pub record PartStands (mine theirs : List Step) (Objects : Type 0) : Type 0 where
  pub same : theirs ≡ mine
  pub visits : OnlyVisits mine
  pub objects : Objects

both_stand : (all now : List (List ℕ)) (before after : List Bool) (xs ys xs' ys' : List Step) (P Q : Type 0) → length before ≡ length all
    → walked all before (xs ++ ys) ≡ Ok after → SameWhere after all now
    → ((mid : List Bool) → walked all before xs ≡ Ok mid → SameWhere mid all now → PartStands xs xs' P)
    → ((mid : List Bool) → length mid ≡ length all → walked all mid ys ≡ Ok after → PartStands ys ys' Q)
    → PartStands (xs ++ ys) (xs' ++ ys') (P × Q)
both_stand all now before after xs ys xs' ys' P Q size is same one two =
    let parts : Split all before after xs ys = split all before after xs ys is in
    let first : PartStands xs xs' P = one parts.mid parts.first (earlier all now parts.mid after ys parts.second same) in
    let second : PartStands ys ys' Q = two parts.mid (size_walked all before parts.mid xs parts.first ∙ size) parts.second in
    record {
      same = ap₂ (λ (a b : List Step). a ++ b) first.same second.same;
      visits = visits_both xs ys first.visits second.visits;
      objects = (first.objects, second.objects);
    }

object_part : (all now : List (List ℕ)) (before after : List Bool) (blocks : List ℕ) (byte : ℕ) (object : Ref) → length before ≡ length all
    → object.pages ≤ 63504 → walked all before (object_from all blocks byte object) ≡ Ok after → SameWhere after all now
    → PartStands (object_from all blocks byte object) (object_from now blocks byte object) (SameObject all now object)
object_part all now before after blocks byte object size few is same = record {
  same = object_same all now before after (slice_index blocks (byte / 1008)) object size is same;
  visits = object_visits all (slice_index blocks (byte / 1008)) object;
  objects = object_stands all now before after (slice_index blocks (byte / 1008)) object size few is same;
}

column_part : (all now : List (List ℕ)) (before after : List Bool) (blocks : List ℕ) (byte : ℕ) (c : ColumnPart) → length before ≡ length all
    → c.cells.pages ≤ 63504 → c.values.pages ≤ 63504 → walked all before (column_steps all blocks byte c) ≡ Ok after → SameWhere after all now
    → PartStands (column_steps all blocks byte c) (column_steps now blocks byte c) (OfColumn (SameObject all now) c)
unfolding column_steps
column_part all now before after blocks byte c size few_cells few_values is same =
    let both : PartStands (object_from all blocks (byte + 39) c.cells ++ object_from all blocks (byte + 47) c.values)
    (object_from now blocks (byte + 39) c.cells ++ object_from now blocks (byte + 47) c.values) (SameObject all now c.cells × SameObject all now c.values)
    = both_stand all now before after (object_from all blocks (byte + 39) c.cells) (object_from all blocks (byte + 47) c.values)
    (object_from now blocks (byte + 39) c.cells) (object_from now blocks (byte + 47) c.values) (SameObject all now c.cells) (SameObject all now c.values) size is same
    (λ mid passed here. object_part all now before mid blocks (byte + 39) c.cells size few_cells passed here)
    (λ mid mid_size passed. object_part all now mid after blocks (byte + 47) c.values mid_size few_values passed same) in
    record { same = both.same; visits = both.visits; objects = record { cells = both.objects.0; values = both.objects.1 } }

columns_part : (all now : List (List ℕ)) (before after : List Bool) (blocks : List ℕ) (byte : ℕ) (cs : List ColumnPart) → length before ≡ length all
    → are_columns cs ≡ true → walked all before (columns_steps all blocks byte cs) ≡ Ok after → SameWhere after all now
    → PartStands (columns_steps all blocks byte cs) (columns_steps now blocks byte cs) (OfColumns (SameObject all now) cs)
unfolding columns_steps
columns_part all now before after blocks byte [] size are is same = record { same = refl; visits = tt; objects = tt }
columns_part all now before after blocks byte (c ∷ cs) size are is same =
    let refs : ColumnRefs c cs = column_refs c cs are in
    both_stand all now before after (column_steps all blocks byte c) (columns_steps all blocks (byte + 55) cs)
    (column_steps now blocks byte c) (columns_steps now blocks (byte + 55) cs) (OfColumn (SameObject all now) c) (OfColumns (SameObject all now) cs) size is same
    (λ mid passed here. column_part all now before mid blocks byte c size refs.cells refs.values passed here)
    (λ mid mid_size passed. columns_part all now mid after blocks (byte + 55) cs mid_size refs.rest passed same)

index_part : (all now : List (List ℕ)) (before after : List Bool) (blocks : List ℕ) (byte : ℕ) (i : IndexPart) → length before ≡ length all
    → i.first.pages ≤ 63504 → i.second.pages ≤ 63504 → i.third.pages ≤ 63504 → walked all before (index_steps all blocks byte i) ≡ Ok after
    → SameWhere after all now → PartStands (index_steps all blocks byte i) (index_steps now blocks byte i) (OfIndex (SameObject all now) i)
unfolding index_steps
index_part all now before after blocks byte i size few_first few_second few_third is same =
    let a : List Step = object_from all blocks (byte + 38) i.first in
    let b : List Step = object_from all blocks (byte + 46) i.second in
    let d : List Step = object_from all blocks (byte + 54) i.third in
    let a' : List Step = object_from now blocks (byte + 38) i.first in
    let b' : List Step = object_from now blocks (byte + 46) i.second in
    let d' : List Step = object_from now blocks (byte + 54) i.third in
    let three : PartStands (a ++ (b ++ d)) (a' ++ (b' ++ d')) (SameObject all now i.first × (SameObject all now i.second × SameObject all now i.third))
    = both_stand all now before after a (b ++ d) a' (b' ++ d') (SameObject all now i.first) (SameObject all now i.second × SameObject all now i.third) size is same
    (λ mid passed here. object_part all now before mid blocks (byte + 38) i.first size few_first passed here)
    (λ mid mid_size passed.
    both_stand all now mid after b d b' d' (SameObject all now i.second) (SameObject all now i.third) mid_size passed same
    (λ last done here. object_part all now mid last blocks (byte + 46) i.second mid_size few_second done here)
    (λ last last_size done. object_part all now last after blocks (byte + 54) i.third last_size few_third done same)) in
    record { same = three.same; visits = three.visits; objects = record { first = three.objects.0; second = (three.objects.1).0; third = (three.objects.1).1 } }

indexes_part : (all now : List (List ℕ)) (before after : List Bool) (blocks : List ℕ) (byte count : ℕ) (is : List IndexPart) → length before ≡ length all
    → are_indexes count is ≡ true → walked all before (indexes_steps all blocks byte is) ≡ Ok after → SameWhere after all now
    → PartStands (indexes_steps all blocks byte is) (indexes_steps now blocks byte is) (OfIndexes (SameObject all now) is)
unfolding indexes_steps
indexes_part all now before after blocks byte count [] size are passed same = record { same = refl; visits = tt; objects = tt }
indexes_part all now before after blocks byte count (x ∷ xs) size are passed same =
    let refs : IndexRefs count x xs = index_refs count x xs are in
    both_stand all now before after (index_steps all blocks byte x) (indexes_steps all blocks (byte + 62) xs)
    (index_steps now blocks byte x) (indexes_steps now blocks (byte + 62) xs) (OfIndex (SameObject all now) x) (OfIndexes (SameObject all now) xs) size passed same
    (λ mid done here. index_part all now before mid blocks byte x size refs.first refs.second refs.third done here)
    (λ mid mid_size done. indexes_part all now mid after blocks (byte + 62) count xs mid_size refs.rest done same)

pub objects_part : (all now : List (List ℕ)) (before after : List Bool) (blocks : List ℕ) (t : Descriptor) → length before ≡ length all
    → IsStorable t → walked all before (objects_steps all blocks t) ≡ Ok after → SameWhere after all now
    → PartStands (objects_steps all blocks t) (objects_steps now blocks t) (OfObjects (SameObject all now) t)
unfolding objects_steps
objects_part all now before after blocks t size s is same =
    let a : List Step = object_from all blocks 49 t.existence in
    let b : List Step = columns_steps all blocks 57 t.columns in
    let d : List Step = indexes_steps all blocks (57 + 55 * length t.columns) t.indexes in
    let a' : List Step = object_from now blocks 49 t.existence in
    let b' : List Step = columns_steps now blocks 57 t.columns in
    let d' : List Step = indexes_steps now blocks (57 + 55 * length t.columns) t.indexes in
    let three : PartStands (a ++ (b ++ d)) (a' ++ (b' ++ d'))
    (SameObject all now t.existence × (OfColumns (SameObject all now) t.columns × OfIndexes (SameObject all now) t.indexes))
    = both_stand all now before after a (b ++ d) a' (b' ++ d') (SameObject all now t.existence)
    (OfColumns (SameObject all now) t.columns × OfIndexes (SameObject all now) t.indexes) size is same
    (λ mid passed here. object_part all now before mid blocks 49 t.existence size (few_pages t.existence s.existence) passed here)
    (λ mid mid_size passed.
    both_stand all now mid after b d b' d' (OfColumns (SameObject all now) t.columns) (OfIndexes (SameObject all now) t.indexes) mid_size passed same
    (λ last done here. columns_part all now mid last blocks 57 t.columns mid_size s.columns done here)
    (λ last last_size done. indexes_part all now last after blocks (57 + 55 * length t.columns) (length t.columns) t.indexes last_size s.indexes done same)) in
    record {
      same = three.same;
      visits = three.visits;
      objects = record { existence = three.objects.0; columns = (three.objects.1).0; indexes = (three.objects.1).1 };
    }

-- the blocks of a descriptor
other_visits : (head at : ℕ) → OnlyVisits (other_steps head at)
unfolding other_steps
other_visits head at = by_test (nat_eq at 0)
  where
    by_test : (v : Bool) → OnlyVisits (if v then [] else visit head at descriptor_kind ∷ [])
    by_test true = tt
    by_test false = tt

others_visit : (head : ℕ) (ats : List ℕ) → OnlyVisits (flat_map (other_steps head) ats)
others_visit head [] = tt
others_visit head (at ∷ ats) = visits_both (other_steps head at) (flat_map (other_steps head) ats) (other_visits head at) (others_visit head ats)

other_same : (all now : List (List ℕ)) (before after : List Bool) (head at : ℕ) → length before ≡ length all
    → walked all before (other_steps head at) ≡ Ok after → SameWhere after all now → other_page now at ≡ other_page all at
other_same all now before after head at size is same = elim (cases_eq at 0) [
  | inl none ↦ no_other_page now at none ∙ sym (no_other_page all at none)
  | inr some ↦ there some
]
  where
    there : at ≢ 0 → other_page now at ≡ other_page all at
    there some =
        let passed : VisitPassed all before after at descriptor_kind [] = visit_passed all before after head at descriptor_kind [] size
        (ap (walked all before) (sym (some_other head at some)) ∙ is) in
        some_other_page now at some
        ∙ (ap (λ (b : List ℕ). payload_of b ∷ []) (same.blocks at passed.here.reached) ∙ sym (some_other_page all at some))

others_same : (all now : List (List ℕ)) (before after : List Bool) (head : ℕ) (ats : List ℕ) → length before ≡ length all
    → walked all before (flat_map (other_steps head) ats) ≡ Ok after → SameWhere after all now
    → flat_map (other_page now) ats ≡ flat_map (other_page all) ats
others_same all now before after head [] size is same = refl
others_same all now before after head (at ∷ ats) size is same =
    let parts : Split all before after (other_steps head at) (flat_map (other_steps head) ats)
    = split all before after (other_steps head at) (flat_map (other_steps head) ats) is in
    let here = other_same all now before parts.mid head at size parts.first
    (earlier all now parts.mid after (flat_map (other_steps head) ats) parts.second same) in
    let rest = others_same all now parts.mid after head ats (size_walked all before parts.mid (other_steps head at) parts.first ∙ size) parts.second same in
    ap₂ (λ (p q : List (List ℕ)). p ++ q) here rest

record BlocksStand (all now : List (List ℕ)) (body head : ℕ) : Type 0 where
  block : block_of now head ≡ block_of all head
  pages : pages_at now head ≡ pages_at all head
  same : block_steps now body head ≡ block_steps all body head
  visits : OnlyVisits (block_steps all body head)

blocks_stand : (all now : List (List ℕ)) (before after : List Bool) (body head : ℕ) → length before ≡ length all
    → walked all before (block_steps all body head) ≡ Ok after → SameWhere after all now → BlocksStand all now body head
unfolding block_steps
blocks_stand all now before after body head size is same =
    let more : List ℕ = more_of (block_of all head) in
    let first : VisitPassed all before after head descriptor_kind (flat_map (other_steps head) more)
    = visit_passed all before after body head descriptor_kind (flat_map (other_steps head) more) size is in
    let block : block_of now head ≡ block_of all head = same.blocks head first.here.reached in
    let others : flat_map (other_page now) more ≡ flat_map (other_page all) more
    = others_same all now (slice_set before head true) after head more (length-set before head true ∙ size) first.rest same in
    record {
      block = block;
      pages = ap (λ (b : List ℕ). head_page b ∷ flat_map (other_page now) (more_of b)) block
          ∙ ap (λ (ps : List (List ℕ)). head_page (block_of all head) ∷ ps) others;
      same = ap (λ (b : List ℕ). visit body head descriptor_kind ∷ flat_map (other_steps head) (more_of b)) block;
      visits = others_visit head more;
    }

-- the test of a descriptor
table_same : (all now : List (List ℕ)) (before : List Bool) (format : Format) (head : ℕ) (name : List ℕ) → block_of now head ≡ block_of all head
    → pages_at now head ≡ pages_at all head → fault_at all before (table format head name) ≡ None → fault_at now before (table format head name) ≡ None
unfolding fault_at
table_same all now before format head name block pages none =
    ap (λ (b : List ℕ). unless (is_table format name (more_of b) (pages_at now head)) head BadCatalog) block
    ∙ (ap (λ (ps : List (List ℕ)). unless (is_table format name (more_of (block_of all head)) ps) head BadCatalog) pages ∙ none)

table_storable : (all : List (List ℕ)) (before : List Bool) (format : Format) (head : ℕ) (name : List ℕ)
    → fault_at all before (table format head name) ≡ None → IsStorable (table_at all head)
unfolding fault_at table_at
table_storable all before format head name none =
    let right : is_table format name (more_of (block_of all head)) (pages_at all head) ≡ true
    = unless_none (is_table format name (more_of (block_of all head)) (pages_at all head)) head BadCatalog none in
    let parts = and_parts (is_descriptor (pages_at all head)) (may_stand format name (more_of (block_of all head)) (said_by (pages_at all head))) right in
    let tests = and_parts _ _ parts.0 in
    storable_of (said_by (pages_at all head)) tests.0

said_same : (all now : List (List ℕ)) (head : ℕ) → pages_at now head ≡ pages_at all head → table_at now head ≡ table_at all head
unfolding table_at
said_same all now head pages = ap said_by pages

record TableStands (all now : List (List ℕ)) (format : Format) (body : ℕ) (name : List ℕ) (head : ℕ) (before after : List Bool) : Type 0 where
  table : table_at now head ≡ table_at all head
  objects : OfObjects (SameObject all now) (table_at all head)
  walked : walked now before (table_steps now format body name head) ≡ Ok after

table_stands : (all now : List (List ℕ)) (format : Format) (body : ℕ) (name : List ℕ) (head : ℕ) (before after : List Bool) → length before ≡ length all
    → walked all before (table_steps all format body name head) ≡ Ok after → SameWhere after all now
    → TableStands all now format body name head before after
unfolding table_steps
table_stands all now format body name head before after size is same =
    let t : Descriptor = table_at all head in
    let objects : List Step = objects_steps all (blocks_at all head) t in
    let parts : Split all before after (block_steps all body head) (table format head name ∷ objects)
    = split all before after (block_steps all body head) (table format head name ∷ objects) is in
    let passed = step_passed all parts.mid after (table format head name) objects parts.second in
    let mid_size : length parts.mid ≡ length all = size_walked all before parts.mid (block_steps all body head) parts.first ∙ size in
    let mid_same : SameWhere parts.mid all now = earlier all now parts.mid after (table format head name ∷ objects) parts.second same in
    let blocks : BlocksStand all now body head = blocks_stand all now before parts.mid body head size parts.first mid_same in
    let s : IsStorable t = table_storable all parts.mid format head name passed.0 in
    let under : PartStands objects (objects_steps now (blocks_at all head) t) (OfObjects (SameObject all now) t)
    = objects_part all now parts.mid after (blocks_at all head) t mid_size s passed.1 same in
    let there : table_at now head ≡ t = said_same all now head blocks.pages in
    let numbers : blocks_at now head ≡ blocks_at all head = ap (λ (b : List ℕ). head ∷ more_of b) blocks.block in
    let objects_same : objects_steps now (blocks_at now head) (table_at now head) ≡ objects
    = ap₂ (λ (bs : List ℕ) (u : Descriptor). objects_steps now bs u) numbers there ∙ under.same in
    let first : walked now before (block_steps all body head) ≡ Ok parts.mid
    = visits_same all now before parts.mid (block_steps all body head) blocks.visits size mid_same parts.first in
    let last : walked now parts.mid (table format head name ∷ objects) ≡ Ok after
    = step_passes now parts.mid after (table format head name) objects
    (table_same all now parts.mid format head name blocks.block blocks.pages passed.0)
    (visits_same all now parts.mid after objects under.visits mid_size same passed.1) in
    record {
      table = there;
      objects = under.objects;
      walked =
          ap₂ (λ (a b : List Step). walked now before (a ++ table format head name ∷ b)) blocks.same objects_same
          ∙ (walked_on now before parts.mid (block_steps all body head) (table format head name ∷ objects) first ∙ last);
    }

pub tables_stand : (all now : List (List ℕ)) (format : Format) (body : ℕ) (name heads : List ℕ) (before after : List Bool) → length before ≡ length all
    → walked all before (tables_steps all format body name heads) ≡ Ok after → SameWhere after all now
    → SameReach format body name heads before after all now
unfolding tables_steps walked
tables_stand all now format body name [] before after size is same = record { tables = tt; walked = is }
tables_stand all now format body name (head ∷ heads) before after size is same =
    let mine : List Step = table_steps all format body name head in
    let others : List Step = tables_steps all format body (table_at all head).name heads in
    let parts : Split all before after mine others = split all before after mine others is in
    let first : TableStands all now format body name head before parts.mid
    = table_stands all now format body name head before parts.mid size parts.first (earlier all now parts.mid after others parts.second same) in
    let rest : SameReach format body (table_at all head).name heads parts.mid after all now
    = tables_stand all now format body (table_at all head).name heads parts.mid after (size_walked all before parts.mid mine parts.first ∙ size) parts.second same in
    record {
      tables = (first.table, first.objects, rest.tables);
      walked =
          ap (λ (t : Descriptor). walked now before (table_steps now format body name head ++ tables_steps now format body t.name heads)) first.table
          ∙ (walked_on now before parts.mid (table_steps now format body name head) (tables_steps now format body (table_at all head).name heads) first.walked
          ∙ rest.walked);
    }
