-- What opens is what is read by heads.
use Rattle.std.specs.Prelude.{◌≡◌, ℕ, ◌+◌, Bool, true, false, ◌&&◌, List, [], ◌∷◌, ◌++◌, length, map, flat_map, nat_eq, slice_set, Result, Ok, Err, None}
use Rattle.std.specs.List.{list_all}
use Rattle.std.proofs.Common.{refl, sym, ap, ◌∙◌}
use Rattle.std.proofs.lemmas.List.{length-set}
use Rattle.std.proofs.lemmas.Bool.{and_parts}
use Rattle.iq_outside.specs.Devices.{block_of}
use Rattle.iq_block_store.specs.Frames.{descriptor_kind, has_header, payload_of}
use Rattle.iq_block_map.specs.Maps.{is_address}
use Rattle.iq_base.specs.declared.descriptors.Descriptor.{Descriptor}
use Rattle.iq_descriptors.specs.Parts.{more_of, head_page, other_page, pages_at, said_by, table_at, are_packed, is_descriptor, named, is_head}
use Rattle.iq_descriptors.specs.Stored.{pages_behind, pages_in, said_in, descriptor_at, comes_behind, tables_ahead, behind, name_in, in_front, tables_behind}
use Rattle.iq_opening.specs.declared.faults.StoreCause.TheVariants.{BadCatalog}
use Rattle.iq_opening.specs.Tables.{Format, has_sizes, may_stand, is_table}
use Rattle.iq_opening.specs.Steps.{Step, visit, table, other_steps, block_steps, objects_steps, table_steps, tables_steps}
use Rattle.iq_opening.specs.Walk.{fault_at, walked}
use Rattle.iq_opening.proofs.Passed.{step_passed, split, size_walked, unless_none, visit_passed}

-- the other blocks of a descriptor, where no step to them is at fault
record OthersPassed (all : List (List ℕ)) (ats : List ℕ) : Type 0 where
  addresses : list_all (is_address (length all)) (named ats) ≡ true
  pages : pages_in all (named ats) ≡ Ok (flat_map (other_page all) ats)

others_passed : (all : List (List ℕ)) (before after : List Bool) (head : ℕ) (ats : List ℕ) → length before ≡ length all
    → walked all before (flat_map (other_steps head) ats) ≡ Ok after → OthersPassed all ats
unfolding other_steps
others_passed all before after head [] size is = record { addresses = refl; pages = refl }
others_passed all before after head (at ∷ ats) size is =
    by_zero (nat_eq at 0) refl (λ next size_next is_next. others_passed all next after head ats size_next is_next)
  where
    by_zero : (z : Bool) → nat_eq at 0 ≡ z
        → ((next : List Bool) → length next ≡ length all → walked all next (flat_map (other_steps head) ats) ≡ Ok after → OthersPassed all ats)
        → OthersPassed all (at ∷ ats)
    by_zero true none rest =
        let left : walked all before (flat_map (other_steps head) ats) ≡ Ok after = rw none at is in
        let passed = rest before size left in
        let addresses = passed.addresses in
        let pages = passed.pages in
        record { addresses = rw none addresses; pages = rw none pages }
    by_zero false some rest =
        let way : walked all before (visit head at descriptor_kind ∷ flat_map (other_steps head) ats) ≡ Ok after = rw some at is in
        let here = visit_passed all before after head at descriptor_kind (flat_map (other_steps head) ats) size way in
        let passed = rest (slice_set before at true) (length-set before at true ∙ size) here.rest in
        let address = here.here.address in
        let header = here.header in
        let addresses = passed.addresses in
        let pages = passed.pages in
        record {
          addresses = rw (some, address, addresses) refl;
          pages = rw (some, header, pages) refl;
        }

-- a table, where no step of it is at fault
record TablePassed (all : List (List ℕ)) (name : List ℕ) (head : ℕ) : Type 0 where
  stands : descriptor_at all head ≡ Ok (table_at all head)
  order : comes_behind name (table_at all head).name ≡ true

all_three : (a b c : Bool) → a ≡ true → b ≡ true → c ≡ true → (a && b && c) ≡ true
all_three a b c one two three = rw (one, two, three) refl

both_true : (a b : Bool) → a ≡ true → b ≡ true → (a && b) ≡ true
both_true a b one two = rw (one, two) refl

table_passed : (all : List (List ℕ)) (format : Format) (body : ℕ) (name : List ℕ) (head : ℕ) (before after : List Bool) → length before ≡ length all
    → walked all before (table_steps all format body name head) ≡ Ok after → TablePassed all name head
unfolding table_steps block_steps fault_at table_at
table_passed all format body name head before after size is =
    let more = more_of (block_of all head) in
    let parts = split all before after (visit body head descriptor_kind ∷ flat_map (other_steps head) more) (table format head name ∷ objects_steps all (head ∷ more) (said_by (pages_at all head))) is in
    let first = visit_passed all before parts.mid body head descriptor_kind (flat_map (other_steps head) more) size parts.first in
    let others = others_passed all (slice_set before head true) parts.mid head more (length-set before head true ∙ size) first.rest in
    let last = step_passed all parts.mid after (table format head name) (objects_steps all (head ∷ more) (said_by (pages_at all head))) parts.second in
    let right : is_table format name more (pages_at all head) ≡ true = unless_none (is_table format name more (pages_at all head)) head BadCatalog last.0 in
    let both = and_parts (is_descriptor (pages_at all head)) (may_stand format name more (said_by (pages_at all head))) right in
    let stand = and_parts (are_packed more && comes_behind name (said_by (pages_at all head)).name) (has_sizes format (said_by (pages_at all head))) both.1 in
    let packed = and_parts (are_packed more) (comes_behind name (said_by (pages_at all head)).name) stand.0 in
    let is_one : is_head all head ≡ true
    = all_three _ _ _ first.here.address first.header (both_true (are_packed more) (list_all (is_address (length all)) (named more)) packed.0 others.addresses) in
    let pages : pages_behind (head_page (block_of all head) ∷ []) (pages_in all (named more)) ≡ Ok (pages_at all head)
    = ap (pages_behind (head_page (block_of all head) ∷ [])) others.pages in
    let descriptor = both.0 in
    let said : said_in head (Ok (pages_at all head)) ≡ Ok (said_by (pages_at all head)) = rw descriptor refl in
    record {
      stands = rw is_one (ap (said_in head) pages ∙ said);
      order = packed.1;
    }

pub tables_passed : (all : List (List ℕ)) (format : Format) (body : ℕ) (name heads : List ℕ) (before after : List Bool) → length before ≡ length all
    → walked all before (tables_steps all format body name heads) ≡ Ok after → tables_behind all name heads ≡ Ok (map (table_at all) heads)
unfolding tables_steps
tables_passed all format body name [] before after size is = refl
tables_passed all format body name (head ∷ heads) before after size is =
    let parts = split all before after (table_steps all format body name head) (tables_steps all format body (table_at all head).name heads) is in
    let here = table_passed all format body name head before parts.mid size parts.first in
    let rest = tables_passed all format body (table_at all head).name heads parts.mid after (size_walked all before parts.mid (table_steps all format body name head) parts.first ∙ size) parts.second in
    let order = here.order in
    ap (λ (r : Result Descriptor ℕ). in_front (behind name head r) (tables_behind all (name_in r) heads)) here.stands
    ∙ rw order (ap (tables_ahead (table_at all head ∷ [])) rest)
