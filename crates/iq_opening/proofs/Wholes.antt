-- Tables whole, and what a root names.
use Rattle.std.specs.Prelude.{◌≡◌, ◌≢◌, ℕ, ◌+◌, ◌<◌, ◌≤◌, Bool, true, false, List, [], ◌∷◌, ◌++◌, length, take, drop, replicate, slice_index, nat_eq, nat_le, Result, Err}
use Rattle.std.proofs.Common.{refl, sym, ap, ◌∙◌, arith, add-one}
use Rattle.std.proofs.Math.Seq.{drop-cons}
use Rattle.std.proofs.lemmas.List.{drop_all, take_more, take_all, length-replicate}
use Rattle.std.proofs.lemmas.Bool.{eq-eqb, le-leb}
use Rattle.std.proofs.lemmas.Bool.Decides.{nat_tests}
use Rattle.iq_outside.specs.Devices.{block_of}
use Rattle.iq_outside.specs.declared.device.Device.{Ghosts}
use Rattle.iq_block_map.specs.Refs.{WhereTold}
use Rattle.iq_block_map.proofs.PutLemmas.{looked_same}
use Rattle.iq_base.specs.declared.descriptors.Descriptor.{Descriptor}
use Rattle.iq_root.specs.declared.root.Root.{Root}
use Rattle.iq_opening.specs.declared.faults.OpenFault.TheVariants.{NotAStore}
use Rattle.iq_opening.specs.declared.faults.StoreCause.TheVariants.{OldFormat, Size, BadCatalog}
use Rattle.iq_opening.specs.declared.opening.StoredTable.{StoredTable}
use Rattle.iq_descriptors.specs.Parts.{more_of, blocks_at, pages_at, said_by, table_at}
use Rattle.iq_opening.specs.Tables.{coded, is_table}
use Rattle.iq_opening.specs.Steps.{table, block_steps, objects_steps, table_steps, tables_steps}
use Rattle.iq_opening.specs.Walk.{Fault, fault, fault_at, walked}
use Rattle.iq_opening.specs.Opening.{body_of, none_reached, root_opened, stored_at, tables_at}
use Rattle.iq_opening.specs.Calls.{Goes, Stops}

pub table_begins : (all : List (List ℕ)) (body : ℕ) (before : List ℕ) (head : ℕ)
    → table_steps all coded body before head
    ≡ block_steps all body head ++ ((table coded head before ∷ []) ++ objects_steps all (blocks_at all head) (table_at all head))
unfolding table_steps
table_begins all body before head = refl

-- what was read of a descriptor is what its test sees
pub test_told : (all : List (List ℕ)) (head : ℕ) (before blocks more : List ℕ) (pages : List (List ℕ)) (right : Bool) → blocks ≡ blocks_at all head
    → pages ≡ pages_at all head → more ≡ drop 1 blocks → is_table coded before more pages ≡ right
    → is_table coded before (more_of (block_of all head)) (pages_at all head) ≡ right
test_told all head before blocks more pages right blocks_are pages_are more_is is =
    let more_are : more ≡ more_of (block_of all head) = more_is ∙ ap (drop 1) blocks_are in
    ap (λ (m : List ℕ). is_table coded before m (pages_at all head)) (sym more_are) ∙ (ap (is_table coded before more) (sym pages_are) ∙ is)

pub table_goes : {D : Type 0} (g : Ghosts D) (now : D) (reached : List Bool) (head : ℕ) (before : List ℕ)
    → WhereTold (g.blocks now) (λ all. is_table coded before (more_of (block_of all head)) (pages_at all head) ≡ true)
    → Goes g (λ all. table coded head before ∷ []) now now reached reached
unfolding walked fault_at
table_goes g now reached head before is = record {
  looked = looked_same g now;
  size = refl;
  walked = λ all told. rw (is all told) refl;
}

pub table_stops : {D : Type 0} (g : Ghosts D) (now : D) (reached : List Bool) (head : ℕ) (before : List ℕ)
    → WhereTold (g.blocks now) (λ all. is_table coded before (more_of (block_of all head)) (pages_at all head) ≡ false)
    → Stops g (λ all. table coded head before ∷ []) now now reached (NotAStore head BadCatalog)
unfolding walked fault_at
table_stops g now reached head before is = record {
  looked = looked_same g now;
  cause = λ all told. rw (is all told) refl;
}

-- the table that pages say is the one at their head
pub table_there : (all : List (List ℕ)) (head : ℕ) (t : Descriptor) (pages : List (List ℕ)) → t ≡ said_by pages → pages ≡ pages_at all head
    → t ≡ table_at all head
unfolding table_at
table_there all head t pages is pages_are = is ∙ ap said_by pages_are

pub objects_told : (all : List (List ℕ)) (head : ℕ) (t : Descriptor) (blocks : List ℕ) → blocks ≡ blocks_at all head → t ≡ table_at all head
    → objects_steps all (blocks_at all head) (table_at all head) ≡ objects_steps all blocks t
objects_told all head t blocks blocks_are is = rw (blocks_are, is) refl

pub tables_end : (all : List (List ℕ)) (body i : ℕ) (before heads : List ℕ) → length heads ≤ i
    → tables_steps all coded body before (drop i heads) ≡ []
unfolding tables_steps
tables_end all body i before heads past = ap (tables_steps all coded body before) (drop_all i heads past)

pub tables_go_on : (all : List (List ℕ)) (body i : ℕ) (before heads : List ℕ) (t : Descriptor) (name : List ℕ) → i < length heads
    → t ≡ table_at all (slice_index heads i) → name ≡ t.name
    → tables_steps all coded body before (drop i heads)
    ≡ table_steps all coded body before (slice_index heads i) ++ tables_steps all coded body name (drop (i + 1) heads)
unfolding tables_steps
tables_go_on all body i before heads t name within is same =
    rw (add-one, drop-cons heads i 0, same, is) refl

-- the same where the table isn't known
pub tables_next : (all : List (List ℕ)) (body i : ℕ) (before heads : List ℕ) → i < length heads
    → tables_steps all coded body before (drop i heads)
    ≡ table_steps all coded body before (slice_index heads i) ++ tables_steps all coded body (table_at all (slice_index heads i)).name (drop (i + 1) heads)
unfolding tables_steps
tables_next all body i before heads within = rw (add-one, drop-cons heads i 0) refl

stored_one : (all : List (List ℕ)) (xs : List ℕ) (head : ℕ) → tables_at all (xs ++ head ∷ []) ≡ tables_at all xs ++ stored_at all head ∷ []
stored_one all [] head = refl
stored_one all (x ∷ xs) head = ap (λ (ts : List StoredTable). stored_at all x ∷ ts) (stored_one all xs head)

pub tables_more : (all : List (List ℕ)) (i : ℕ) (heads : List ℕ) (old new : List StoredTable) (t : Descriptor) → i < length heads
    → t ≡ table_at all (slice_index heads i) → old ≡ tables_at all (take i heads)
    → new ≡ old ++ (record { head = slice_index heads i; table = t }) ∷ [] → new ≡ tables_at all (take (i + 1) heads)
tables_more all i heads old new t within is olds news =
    rw (news, olds, is, take_more heads i 0 within) (sym (stored_one all (take i heads) (slice_index heads i)))

pub tables_all : (all : List (List ℕ)) (i : ℕ) (heads : List ℕ) (tables : List StoredTable) → length heads ≤ i
    → tables ≡ tables_at all (take i heads) → tables ≡ tables_at all heads
tables_all all i heads tables past are = are ∙ ap (tables_at all) (take_all i heads past)

-- what opening by a root answers
pub root_old : (all : List (List ℕ)) (root : Root) → root.format ≡ 1 → root_opened all root ≡ Err (fault (body_of root) OldFormat)
root_old all root old = rw old refl

other_number : (a b : ℕ) → a ≢ b → nat_eq a b ≡ false
other_number a b other = grind (arith, nat_tests)

pub root_small : (all : List (List ℕ)) (root : Root) → root.format ≢ 1 → length all < 4
    → root_opened all root ≡ Err (fault (body_of root) Size)
root_small all root new small =
    let is_small : nat_le 4 (length all) ≡ false = grind (arith, nat_tests) in
    rw (other_number root.format 1 new, is_small) refl

pub root_size : (all : List (List ℕ)) (root : Root) → root.format ≢ 1 → 4 ≤ length all → length all ≢ root.count
    → root_opened all root ≡ Err (fault (body_of root) Size)
root_size all root new large other =
    rw (other_number root.format 1 new, le-leb 4 (length all) large, other_number (length all) root.count other) refl

pub root_walked : (all : List (List ℕ)) (root : Root) (count body : ℕ) (outcome : Result (List Bool) Fault) → root.format ≢ 1
    → 4 ≤ count → count ≡ length all → count ≡ root.count → body ≡ body_of root
    → walked all (none_reached count) (tables_steps all coded body [] root.tables) ≡ outcome → root_opened all root ≡ outcome
root_walked all root count body outcome new large size same from is =
    rw (
      other_number root.format 1 new,
      le-leb 4 (length all) (omega (arith, large, size)),
      eq-eqb (length all) root.count (sym size ∙ same),
    )
    (rw (← from, ← size) is)

-- a way from no block on
pub from_none : (all : List (List ℕ)) (count body : ℕ) (reached : List Bool) (heads named : List ℕ) (outcome : Result (List Bool) Fault)
    → reached ≡ replicate count false → heads ≡ named
    → walked all reached (tables_steps all coded body [] heads) ≡ outcome
    → walked all (none_reached count) (tables_steps all coded body [] named) ≡ outcome
unfolding none_reached
from_none all count body reached heads named outcome none same is = rw (← none, ← same) is

pub none_size : (count : ℕ) (reached : List Bool) → reached ≡ replicate count false → length reached ≡ count
none_size count reached none = ap length none ∙ length-replicate count false

pub same_tables : (all : List (List ℕ)) (heads named : List ℕ) (tables : List StoredTable) → heads ≡ named → tables ≡ tables_at all heads
    → tables ≡ tables_at all named
same_tables all heads named tables same are = are ∙ ap (tables_at all) same
