-- What descriptors stand on.
use Rattle.std.specs.Prelude.{◌≡◌, ℕ, suc, Bool, true, false, if◌then◌else◌, List, [], ◌∷◌, ◌++◌, flat_map, nat_eq, Result, Ok, Err}
use Rattle.std.specs.List.{All}
use Rattle.std.proofs.Common.{refl, sym, ap, subst, ◌∙◌, arith, append_assoc}
use Rattle.std.proofs.lemmas.Bool.{and_parts}
use Rattle.iq_outside.specs.Devices.{block_of}
use Rattle.iq_block_store.specs.Frames.{descriptor_kind, has_header, payload_of}
use Rattle.iq_block_map.specs.Laws.{SameOn}
use Rattle.iq_block_map.specs.Writing.{SameBeside}
use Rattle.iq_block_map.proofs.FrameLaws.{frame_law}
use Rattle.iq_base.specs.declared.descriptors.Descriptor.{Descriptor}
use Rattle.iq_catalog.specs.Storable.{IsStorable}
use Rattle.iq_descriptors.specs.Parts.{more_of, head_page, other_page, said_by, table_at, is_descriptor, named, parts_at, is_head}
use Rattle.iq_descriptors.specs.Stored.{pages_behind, pages_in, said_in, descriptor_at, Describes}
use Rattle.iq_descriptors.specs.Laws.{AreBeside, KeepsDescriptors, KeepsObjects}
use Rattle.iq_descriptors.proofs.SaidLemmas.{storable_of}

-- the pages in blocks that stay
pub pages_same : (all now : List (List ℕ)) (xs : List ℕ) → All (λ b. block_of now b ≡ block_of all b) xs → pages_in now xs ≡ pages_in all xs
pages_same all now [] same = refl
pages_same all now (x ∷ xs) same =
    let here : block_of now x ≡ block_of all x = same 0 0 (omega arith) in
    let rest = pages_same all now xs (λ k d within. same (suc k) d (omega (arith, within))) in
    rw (here, rest) refl

pub stands_on : (all now : List (List ℕ)) (head : ℕ) (table : Descriptor) (blocks : List ℕ) → Describes all head table blocks → SameOn blocks all now
    → Describes now head table blocks
stands_on all now head table blocks is same =
    let each : All (λ b. block_of now b ≡ block_of all b) (parts_at all head) = subst (All (λ b. block_of now b ≡ block_of all b)) is.parts same.blocks in
    let here : block_of now head ≡ block_of all head = each 0 0 (omega arith) in
    let size = same.size in
    let rest = pages_same all now (named (more_of (block_of all head))) (λ k d within. each (suc k) d (omega (arith, within))) in
    let both : descriptor_at now head ≡ descriptor_at all head = rw (size, here, rest) refl in
    record {
      stands = both ∙ is.stands;
      parts = is.parts ∙ ap (λ (b : List ℕ). head ∷ named (more_of b)) (sym here);
    }

same_there : (places blocks : List ℕ) (all now : List (List ℕ)) → SameBeside places all now → AreBeside places blocks → SameOn blocks all now
same_there places blocks all now same beside = record {
  size = same.size;
  blocks = λ k d within. same.others _ (beside k d within);
}

pub keeps_descriptors : (places : List ℕ) (all now : List (List ℕ)) → SameBeside places all now → KeepsDescriptors places all now
keeps_descriptors places all now same head table blocks is beside =
    stands_on all now head table blocks is (same_there places blocks all now same beside)

pub keeps_objects : (places : List ℕ) (all now : List (List ℕ)) → SameBeside places all now → KeepsObjects places all now
keeps_objects places all now same object blocks few is beside =
    frame_law all now object blocks few is (same_there places blocks all now same beside)

behind_twice : (front pages : List (List ℕ)) (r : Result (List (List ℕ)) ℕ) → pages_behind front (pages_behind pages r) ≡ pages_behind (front ++ pages) r
behind_twice front pages (Err b) = refl
behind_twice front pages (Ok ps) = ap Ok (sym (append_assoc front pages ps))

-- the pages of a descriptor, read one behind the other, and as its bytes say
pages_are : (all front pages : List (List ℕ)) (more : List ℕ) → pages_behind front (pages_in all (named more)) ≡ Ok pages
    → pages ≡ front ++ flat_map (other_page all) more
pages_are all front pages [] read = cc
pages_are all front pages (at ∷ more) read = by_zero (nat_eq at 0) refl (λ next is. pages_are all next pages more is)
  where
    by_header : (h : Bool) → has_header descriptor_kind at (block_of all at) ≡ h → nat_eq at 0 ≡ false
        → ((next : List (List ℕ)) → pages_behind next (pages_in all (named more)) ≡ Ok pages → pages ≡ next ++ flat_map (other_page all) more)
        → pages ≡ front ++ flat_map (other_page all) (at ∷ more)
    by_header true is some rest =
        let page = payload_of (block_of all at) in
        let next : pages_behind (front ++ page ∷ []) (pages_in all (named more)) ≡ Ok pages
        = sym (behind_twice front (page ∷ []) (pages_in all (named more))) ∙ (rw (some, is) at read) in
        rw some (rest (front ++ page ∷ []) next ∙ append_assoc front (page ∷ []) (flat_map (other_page all) more))
    by_header false is some rest =
        let never : ◌≡◌ {A = Result (List (List ℕ)) ℕ} (Err at) (Ok pages) = rw (some, is) at read in
        absurd (cc)

    by_zero : (z : Bool) → nat_eq at 0 ≡ z
        → ((next : List (List ℕ)) → pages_behind next (pages_in all (named more)) ≡ Ok pages → pages ≡ next ++ flat_map (other_page all) more)
        → pages ≡ front ++ flat_map (other_page all) (at ∷ more)
    by_zero true none rest =
        let next : pages_behind front (pages_in all (named more)) ≡ Ok pages = rw none at read in
        rw none (rest front next)
    by_zero false some rest = by_header (has_header descriptor_kind at (block_of all at)) refl some rest

-- what a descriptor that stands was read of
record IsRead (head : ℕ) (r : Result (List (List ℕ)) ℕ) (table : Descriptor) : Type 0 where
  pages : List (List ℕ)
  read : r ≡ Ok pages
  right : is_descriptor pages ≡ true
  said : table ≡ said_by pages

was_read : (b : Bool) (head : ℕ) (r : Result (List (List ℕ)) ℕ) (table : Descriptor) → ◌≡◌ {A = Result Descriptor ℕ} (if b then said_in head r else Err head) (Ok table) → IsRead head r table
was_read false head r table is = absurd (cc)
was_read true head (Err b) table is = absurd (cc)
was_read true head (Ok pages) table is = by_test (is_descriptor pages) refl is
  where
    by_test : (d : Bool) → is_descriptor pages ≡ d → ◌≡◌ {A = Result Descriptor ℕ} (if d then Ok (said_by pages) else Err head) (Ok table) → IsRead head (Ok pages) table
    by_test true right said = record { pages = pages; read = refl; right = right; said = cc }
    by_test false right said = absurd (cc)

read_of : (all : List (List ℕ)) (head : ℕ) (table : Descriptor) (blocks : List ℕ) → Describes all head table blocks
    → IsRead head (pages_behind (head_page (block_of all head) ∷ []) (pages_in all (named (more_of (block_of all head))))) table
read_of all head table blocks is =
    was_read (is_head all head) head (pages_behind (head_page (block_of all head) ∷ []) (pages_in all (named (more_of (block_of all head))))) table is.stands

pub what_it_says : (all : List (List ℕ)) (head : ℕ) (table : Descriptor) (blocks : List ℕ) → Describes all head table blocks → table ≡ table_at all head
unfolding table_at
what_it_says all head table blocks is =
    let r = read_of all head table blocks is in
    r.said ∙ ap said_by (pages_are all (head_page (block_of all head) ∷ []) r.pages (more_of (block_of all head)) r.read)

pub may_be_there : (all : List (List ℕ)) (head : ℕ) (table : Descriptor) (blocks : List ℕ) → Describes all head table blocks → IsStorable table
may_be_there all head table blocks is =
    let r = read_of all head table blocks is in
    subst IsStorable (sym r.said) (storable_of (said_by r.pages) (and_parts _ _ r.right).0)
