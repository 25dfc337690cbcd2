-- Lists that grow in a loop.
use Rattle.std.specs.Prelude.{◌≡◌, ℕ, suc, ◌+◌, ◌-◌, ◌*◌, ◌<◌, ◌≤◌, min, Bool, true, false, List, [], ◌∷◌, ◌++◌, length, drop, flat_map, replicate, slice_index, get_or, nat_eq}
use Rattle.std.specs.Prelude.{◌↔◌, IsTrue}
use Rattle.std.proofs.lemmas.Bool.{iff_false}
use Rattle.std.proofs.Common.{refl, sym, ap, ◌∙◌, arith, append-nil, append_assoc}
use Rattle.iq_base.specs.declared.descriptors.ColumnPart.{ColumnPart}
use Rattle.iq_base.specs.declared.descriptors.IndexPart.{IndexPart}
use Rattle.iq_outside.specs.Devices.{block_of}
use Rattle.iq_block_store.specs.Frames.{number_at, numbers_at, descriptor_kind}
use Rattle.iq_base.specs.declared.descriptors.Descriptor.{Descriptor}
use Rattle.iq_block_map.specs.Maps.{places}
use Rattle.iq_catalog.specs.Pages.{joined}
use Rattle.iq_catalog.specs.Storable.{IsStorable}
use Rattle.iq_descriptors.proofs.SaidLemmas.{test_of, storable_of}
use Rattle.iq_descriptors.specs.Parts.{more_of, other_page, head_page, pages_at, table_at, may_be_stored}
use Rattle.iq_opening.specs.Tables.{coded}
use Rattle.iq_opening.specs.Steps.{Step, visit, leaf_steps, leaves_steps, column_steps, columns_steps, index_steps, indexes_steps, other_steps, block_steps, table_steps, tables_steps}
use Rattle.iq_opening.proofs.Parts.{leaves_go_on, leaves_end, columns_go_on, columns_end, indexes_go_on, indexes_end}
use Rattle.iq_opening.proofs.Wholes.{tables_next, tables_end}

-- a number more
pub numbers_on : (bytes old new whole : List ℕ) (x i k count : ℕ) → x ≡ number_at bytes (i + 4 * k) → new ≡ old ++ x ∷ [] → k < count
    → old ++ numbers_at bytes (i + 4 * k) (count - k) ≡ whole → new ++ numbers_at bytes (i + 4 * (k + 1)) (count - (k + 1)) ≡ whole
numbers_on bytes old new whole x i k count is pushed within so_far =
    let left : count - k ≡ suc (count - (k + 1)) = omega arith in
    let place : i + 4 * k + 4 ≡ i + 4 * (k + 1) = omega arith in
    let more = numbers_at bytes (i + 4 * (k + 1)) (count - (k + 1)) in
    ap (λ (t : List ℕ). t ++ more) pushed ∙ append_assoc old (x ∷ []) more ∙ ap (λ (y : ℕ). old ++ y ∷ more) is
    ∙ ap (λ (m : ℕ). old ++ number_at bytes (i + 4 * k) ∷ numbers_at bytes m (count - (k + 1))) (sym place)
    ∙ ap (λ (n : ℕ). old ++ numbers_at bytes (i + 4 * k) n) (sym left) ∙ so_far

pub numbers_done : (bytes old whole : List ℕ) (i k count : ℕ) → count ≤ k → old ++ numbers_at bytes i (count - k) ≡ whole → old ≡ whole
numbers_done bytes old whole i k count past so_far =
    let left : count - k ≡ 0 = omega arith in
    sym (append-nil old) ∙ ap (λ (n : ℕ). old ++ numbers_at bytes i n) (sym left) ∙ so_far

-- some steps more
steps_on : (old new front rest behind whole : List Step) → new ≡ old ++ front → rest ≡ front ++ behind → old ++ rest ≡ whole → new ++ behind ≡ whole
steps_on old new front rest behind whole pushed is so_far =
    ap (λ (t : List Step). t ++ behind) pushed ∙ append_assoc old front behind ∙ ap (λ (t : List Step). old ++ t) (sym is) ∙ so_far

pub steps_done : (old rest whole : List Step) → rest ≡ [] → old ++ rest ≡ whole → old ≡ whole
steps_done old rest whole none so_far = sym (append-nil old) ∙ ap (λ (t : List Step). old ++ t) (sym none) ∙ so_far

pub leaves_on : (all : List (List ℕ)) (top pages used left k : ℕ) (leaves : List ℕ) (old new whole : List Step) → k < length leaves → used ≡ min pages 252
    → left ≡ pages - 252 → new ≡ old ++ leaf_steps all top (slice_index leaves k) used → old ++ leaves_steps all top pages (drop k leaves) ≡ whole
    → new ++ leaves_steps all top left (drop (k + 1) leaves) ≡ whole
leaves_on all top pages used left k leaves old new whole within is less pushed so_far =
    steps_on old new (leaf_steps all top (slice_index leaves k) used) (leaves_steps all top pages (drop k leaves)) (leaves_steps all top left (drop (k + 1) leaves)) whole pushed
    (leaves_go_on all top pages used left k leaves within is less) so_far

pub columns_on : (all : List (List ℕ)) (numbers : List ℕ) (k : ℕ) (cs : List ColumnPart) (c : ColumnPart) (old new whole : List Step) → k < length cs
    → c ≡ get_or cs k c → new ≡ old ++ column_steps all numbers (57 + 55 * k) c → old ++ columns_steps all numbers (57 + 55 * k) (drop k cs) ≡ whole
    → new ++ columns_steps all numbers (57 + 55 * (k + 1)) (drop (k + 1) cs) ≡ whole
columns_on all numbers k cs c old new whole within is pushed so_far =
    let place : 57 + 55 * k + 55 ≡ 57 + 55 * (k + 1) = omega arith in
    let front = column_steps all numbers (57 + 55 * k) c in
    steps_on old new front (columns_steps all numbers (57 + 55 * k) (drop k cs)) (columns_steps all numbers (57 + 55 * (k + 1)) (drop (k + 1) cs)) whole pushed
    (columns_go_on all numbers (57 + 55 * k) k cs c within is ∙ ap (λ (m : ℕ). front ++ columns_steps all numbers m (drop (k + 1) cs)) place) so_far

pub indexes_on : (all : List (List ℕ)) (numbers : List ℕ) (first k : ℕ) (is : List IndexPart) (i : IndexPart) (old new whole : List Step) → k < length is
    → i ≡ get_or is k i → new ≡ old ++ index_steps all numbers (first + 62 * k) i → old ++ indexes_steps all numbers (first + 62 * k) (drop k is) ≡ whole
    → new ++ indexes_steps all numbers (first + 62 * (k + 1)) (drop (k + 1) is) ≡ whole
indexes_on all numbers first k is i old new whole within here pushed so_far =
    let place : first + 62 * k + 62 ≡ first + 62 * (k + 1) = omega arith in
    let front = index_steps all numbers (first + 62 * k) i in
    steps_on old new front (indexes_steps all numbers (first + 62 * k) (drop k is)) (indexes_steps all numbers (first + 62 * (k + 1)) (drop (k + 1) is)) whole pushed
    (indexes_go_on all numbers (first + 62 * k) k is i within here ∙ ap (λ (m : ℕ). front ++ indexes_steps all numbers m (drop (k + 1) is)) place) so_far

pub tables_on : (all : List (List ℕ)) (body k : ℕ) (before name heads : List ℕ) (old new whole : List Step) → k < length heads
    → name ≡ (table_at all (slice_index heads k)).name → new ≡ old ++ table_steps all coded body before (slice_index heads k)
    → old ++ tables_steps all coded body before (drop k heads) ≡ whole → new ++ tables_steps all coded body name (drop (k + 1) heads) ≡ whole
tables_on all body k before name heads old new whole within named pushed so_far =
    let front = table_steps all coded body before (slice_index heads k) in
    ap (λ (n : List ℕ). new ++ tables_steps all coded body n (drop (k + 1) heads)) named
    ∙ steps_on old new front (tables_steps all coded body before (drop k heads))
    (tables_steps all coded body (table_at all (slice_index heads k)).name (drop (k + 1) heads)) whole pushed
    (tables_next all body k before heads within) so_far

-- pages one behind the other, of which some are those of the other blocks of a descriptor
joined-append : (ps qs : List (List ℕ)) → joined (ps ++ qs) ≡ joined ps ++ joined qs
joined-append [] qs = refl
joined-append (p ∷ ps) qs = ap (λ (t : List ℕ). p ++ t) (joined-append ps qs) ∙ sym (append_assoc p (joined ps) (joined qs))

not_true : (m : Bool) → (m ≡ true → ⊥) → false ≡ m
not_true true never = absurd (never refl)
not_true false never = refl

-- the test of a descriptor is the one that the definition names
pub stored_same : (b : Bool) (t : Descriptor) → (IsTrue b ↔ IsStorable t) → b ≡ may_be_stored t
stored_same true t tells = sym (test_of t (tells.0 refl))
stored_same false t tells = not_true (may_be_stored t) (λ e. iff_false tells refl (storable_of t e))

-- the numbers of a map
pub places_are : (numbers block whole : List ℕ) → block ≡ whole → numbers ≡ numbers_at block 16 252 → numbers ≡ places whole
unfolding places
places_are numbers block whole is made = rw (← is) made
