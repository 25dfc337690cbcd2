-- What was read of descriptors.
use Rattle.std.specs.Prelude.{◌≡◌, ℕ, zero, suc, ◌+◌, ◌<◌, ◌≤◌, Bool, true, false, ◌&&◌, List, [], ◌∷◌, ◌++◌, length, drop, slice_index, Option, Some, Result, Ok, Err}
use Rattle.std.specs.List.{list_all}
use Rattle.std.proofs.Common.{refl, sym, ap, ◌∙◌, arith, append_assoc, append-nil, add-one}
use Rattle.std.proofs.Math.Seq.{drop-cons}
use Rattle.std.proofs.lemmas.List.{drop_all}
use Rattle.std.proofs.lemmas.Bool.{ltb-true, and_parts}
use Rattle.iq_outside.specs.Devices.{block_of}
use Rattle.iq_block_store.specs.Frames.{descriptor_kind, has_header}
use Rattle.iq_block_map.specs.Maps.{is_address}
use Rattle.iq_base.specs.declared.descriptors.Descriptor.{Descriptor}
use Rattle.iq_catalog.specs.Pages.{HasPages}
use Rattle.iq_catalog.specs.Storable.{IsStorable}
use Rattle.iq_descriptors.specs.declared.faults.DescriptorFault.{DescriptorFault}
use Rattle.iq_descriptors.specs.declared.faults.DescriptorFault.TheVariants.{StoreFault, Bad, NoSpace, NoMemory}
use Rattle.iq_descriptors.specs.Parts.{more_of, head_page, named, parts_at, are_others, is_head}
use Rattle.iq_descriptors.specs.Heads.{IsHeadOf}
use Rattle.iq_descriptors.specs.Stored.{pages_behind, pages_in, said_in, descriptor_at, Describes, comes_behind, tables_ahead, behind, name_in, in_front, tables_behind, tables_of}
use Rattle.iq_descriptors.specs.Causes.{IsReadFault}
use Rattle.iq_descriptors.proofs.SaidLemmas.{said_back, descriptor_pages, no_descriptor_pages}

-- a cause is handed on by whoever looked before
pub read_fault_on : (P Q : ℕ → List (List ℕ) → Type 0) (e : DescriptorFault) (told told' : Option (List (List ℕ))) (first first' last last' : ℕ)
    → told' ≡ told → first ≤ first' → last' ≤ last → ((b : ℕ) (all : List (List ℕ)) → told ≡ Some all → P b all → Q b all)
    → IsReadFault P e told' first' last' → IsReadFault Q e told first last
read_fault_on P Q (StoreFault before after) told told' first first' last last' same early late pass rose =
    record { since = omega (arith, early, rose.since); risen = rose.risen; until = omega (arith, late, rose.until) }
read_fault_on P Q (Bad block) told told' first first' last last' same early late pass bad = λ all is. pass block all is (bad all (same ∙ is))
read_fault_on P Q NoSpace told told' first first' last last' same early late pass bad = bad
read_fault_on P Q NoMemory told told' first first' last last' same early late pass bad = bad

no_middle : (a h o : Bool) → h ≡ false → (a && h && o) ≡ false
no_middle true false o is = refl
no_middle false false o is = refl
no_middle a true o is = cc

pub no_head : (all : List (List ℕ)) (head : ℕ) → has_header descriptor_kind head (block_of all head) ≡ false → is_head all head ≡ false
no_head all head is =
    no_middle (is_address (length all) head) (has_header descriptor_kind head (block_of all head)) (are_others (length all) (more_of (block_of all head))) is

pub below_all : (count : ℕ) (xs : List ℕ) (k : ℕ) → list_all (is_address count) xs ≡ true → k < length xs → slice_index xs k < count
below_all count [] k pass within = absurd (omega (arith, within))
below_all count (x ∷ xs) zero pass within = ltb-true _ _ (and_parts _ _ (and_parts (is_address count x) (list_all (is_address count) xs) pass).0).1
below_all count (x ∷ xs) (suc k) pass within = below_all count xs k (and_parts (is_address count x) (list_all (is_address count) xs) pass).1 (omega (arith, within))

err_behind : (front : List (List ℕ)) (r : Result (List (List ℕ)) ℕ) (b : ℕ) → Err b ≡ pages_behind front r → r ≡ Err b
err_behind front (Err c) b is = sym is
err_behind front (Ok pages) b is = cc

-- the next block is no part of a descriptor
pub pages_stop : (all : List (List ℕ)) (front pages : List (List ℕ)) (others : List ℕ) (k b : ℕ) → k < length others → b ≡ slice_index others k
    → has_header descriptor_kind (slice_index others k) (block_of all (slice_index others k)) ≡ false
    → pages_behind pages (pages_in all (drop k others)) ≡ pages_behind front (pages_in all others) → pages_in all others ≡ Err b
pages_stop all front pages others k b within is wrong so_far =
    let at = slice_index others k in
    let next : pages_in all (drop k others) ≡ Err at
    = ap (pages_in all) (drop-cons others k 0 within) ∙ rw wrong refl in
    err_behind front (pages_in all others) b (ap Err is ∙ ap (pages_behind pages) (sym next) ∙ so_far)

others_of : (all : List (List ℕ)) (head : ℕ) (blocks : List ℕ) → blocks ≡ parts_at all head → drop 1 blocks ≡ named (more_of (block_of all head))
others_of all head blocks is = ap (drop 1) is

-- what a head and its pages say
pub read_says : (all : List (List ℕ)) (head : ℕ) (page blocks others : List ℕ) (pages : List (List ℕ)) → IsHeadOf head page blocks all → others ≡ drop 1 blocks
    → pages_behind (page ∷ []) (pages_in all others) ≡ Ok pages → descriptor_at all head ≡ said_in head (Ok pages)
read_says all head page blocks others pages is rest read =
    let named_are : others ≡ named (more_of (block_of all head)) = rest ∙ others_of all head blocks is.parts in
    let right = is.is in
    rw right (
    ap (said_in head) (
    ap (λ (os : List ℕ). pages_behind (head_page (block_of all head) ∷ []) (pages_in all os)) (sym named_are)
    ∙ ap (λ (p : List ℕ). pages_behind (p ∷ []) (pages_in all others)) (sym is.says)
    ∙ read
    )
    )

pub stored : (all : List (List ℕ)) (head : ℕ) (page blocks others : List ℕ) (pages : List (List ℕ)) (table : Descriptor) → IsHeadOf head page blocks all → others ≡ drop 1 blocks
    → pages_behind (page ∷ []) (pages_in all others) ≡ Ok pages → IsStorable table → HasPages table pages → Describes all head table blocks
stored all head page blocks others pages table is rest read may has = record {
  stands =
      let right = descriptor_pages table pages may has in
      read_says all head page blocks others pages is rest read ∙ rw right (ap Ok (said_back table pages may has));
  parts = is.parts;
}

pub not_stored : (all : List (List ℕ)) (head : ℕ) (page blocks others : List ℕ) (pages : List (List ℕ)) → IsHeadOf head page blocks all → others ≡ drop 1 blocks
    → pages_behind (page ∷ []) (pages_in all others) ≡ Ok pages → ((t : Descriptor) → IsStorable t → ¬ (HasPages t pages)) → descriptor_at all head ≡ Err head
not_stored all head page blocks others pages is rest read none =
    let wrong = no_descriptor_pages pages none in
    read_says all head page blocks others pages is rest read ∙ rw wrong refl

-- the next table of a version isn't right
pub tables_stop : (all : List (List ℕ)) (ts : List Descriptor) (before heads : List ℕ) (k b : ℕ) → k < length heads
    → behind before (slice_index heads k) (descriptor_at all (slice_index heads k)) ≡ Err b
    → tables_ahead ts (tables_behind all before (drop k heads)) ≡ tables_of all heads → tables_of all heads ≡ Err b
tables_stop all ts before heads k b within wrong so_far =
    let next : tables_behind all before (drop k heads) ≡ Err b
    = ap (tables_behind all before) (drop-cons heads k 0 within) ∙ ap (λ (r : Result Descriptor ℕ). in_front r (tables_behind all (name_in (descriptor_at all (slice_index heads k))) (drop (suc k) heads))) wrong in
    sym so_far ∙ ap (tables_ahead ts) next

pub bad_stops : (all : List (List ℕ)) (ts : List Descriptor) (before heads : List ℕ) (k b : ℕ) → k < length heads
    → descriptor_at all (slice_index heads k) ≡ Err b
    → tables_ahead ts (tables_behind all before (drop k heads)) ≡ tables_of all heads → tables_of all heads ≡ Err b
bad_stops all ts before heads k b within wrong so_far =
    tables_stop all ts before heads k b within (ap (behind before (slice_index heads k)) wrong) so_far

pub order_stops : (all : List (List ℕ)) (ts : List Descriptor) (before heads : List ℕ) (k : ℕ) (t : Descriptor) → k < length heads
    → descriptor_at all (slice_index heads k) ≡ Ok t → comes_behind before t.name ≡ false
    → tables_ahead ts (tables_behind all before (drop k heads)) ≡ tables_of all heads → tables_of all heads ≡ Err (slice_index heads k)
order_stops all ts before heads k t within stands wrong so_far =
    tables_stop all ts before heads k (slice_index heads k) within (ap (behind before (slice_index heads k)) stands ∙ rw wrong refl) so_far

ahead_twice : (ts us : List Descriptor) (r : Result (List Descriptor) ℕ) → tables_ahead ts (tables_ahead us r) ≡ tables_ahead (ts ++ us) r
ahead_twice ts us (Err b) = refl
ahead_twice ts us (Ok vs) = ap Ok (sym (append_assoc ts us vs))

pub tables_more : (all : List (List ℕ)) (ts new : List Descriptor) (before name heads : List ℕ) (k : ℕ) (t : Descriptor) → k < length heads
    → descriptor_at all (slice_index heads k) ≡ Ok t → comes_behind before t.name ≡ true → name ≡ t.name → new ≡ ts ++ t ∷ []
    → tables_ahead ts (tables_behind all before (drop k heads)) ≡ tables_of all heads
    → tables_ahead new (tables_behind all name (drop (k + 1) heads)) ≡ tables_of all heads
tables_more all ts new before name heads k t within stands right same more so_far =
    let rest = tables_behind all t.name (drop (suc k) heads) in
    let next : tables_behind all before (drop k heads) ≡ tables_ahead (t ∷ []) rest
    = ap (tables_behind all before) (drop-cons heads k 0 within)
    ∙ ap (λ (r : Result Descriptor ℕ). in_front (behind before (slice_index heads k) r) (tables_behind all (name_in r) (drop (suc k) heads))) stands
    ∙ rw right refl in
    rw (more, same, add-one) (sym (ahead_twice ts (t ∷ []) rest) ∙ ap (tables_ahead ts) (sym next) ∙ so_far)

pub tables_end : (all : List (List ℕ)) (ts : List Descriptor) (before heads : List ℕ) (k : ℕ) → length heads ≤ k
    → tables_ahead ts (tables_behind all before (drop k heads)) ≡ tables_of all heads → tables_of all heads ≡ Ok ts
tables_end all ts before heads k past so_far =
    sym so_far ∙ ap (λ (hs : List ℕ). tables_ahead ts (tables_behind all before hs)) (drop_all k heads past) ∙ ap Ok (append-nil ts)
