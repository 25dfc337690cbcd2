-- Tests one after the other, and bytes that are compared.
use Rattle.std.specs.Prelude.{◌≡◌, ℕ, ◌+◌, ◌*◌, ◌<◌, ◌≤◌, Bool, true, false, List, [], ◌∷◌, ◌++◌, length, drop, slice_index, slice_index_or, if◌then◌else◌, Option, Some, None}
use Rattle.std.proofs.Common.{refl, sym, ap, ◌∙◌, arith}
use Rattle.std.proofs.lemmas.List.{drop_more, drop_all, length-drop}
use Rattle.std.proofs.lemmas.Bool.{eqb-true}
use Rattle.iq_base.specs.declared.descriptors.ColumnPart.{ColumnPart}
use Rattle.iq_base.specs.declared.descriptors.IndexPart.{IndexPart}
use Rattle.iq_base.specs.declared.descriptors.Descriptor.{Descriptor}
use Rattle.iq_catalog.specs.declared.first_fault.Test.{Test}
use Rattle.iq_catalog.specs.Pages.{page_count}
use Rattle.iq_catalog.specs.Reading.{text_size}
use Rattle.iq_catalog.specs.FirstFault.{first_failed, head_tests, column_tests, index_tests, columns_tests, indexes_tests, all_tests, same_front, has_count}

-- a test that fails at the front is the first
pub failed_front : (ts us : List Test) (b : ℕ) → first_failed ts ≡ Some b → first_failed (ts ++ us) ≡ Some b
failed_front [] us b h = absurd (cc)
failed_front (t ∷ ts) us b h = here t.holds (λ e. failed_front ts us b e) h
  where
    here : (x : Bool) → (first_failed ts ≡ Some b → first_failed (ts ++ us) ≡ Some b) → (if x then first_failed ts else Some t.byte) ≡ Some b → (if x then first_failed (ts ++ us) else Some t.byte) ≡ Some b
    here true more e = more e
    here false more e = e

-- where none fails at the front, the first is the first behind
pub failed_behind : (ts us : List Test) → first_failed ts ≡ None → first_failed (ts ++ us) ≡ first_failed us
failed_behind [] us h = refl
failed_behind (t ∷ ts) us h = here t.holds (λ e. failed_behind ts us e) h
  where
    here : (x : Bool) → (first_failed ts ≡ None → first_failed (ts ++ us) ≡ first_failed us) → (if x then first_failed ts else Some t.byte) ≡ None → (if x then first_failed (ts ++ us) else Some t.byte) ≡ first_failed us
    here true more e = more e
    here false more e = absurd (cc)

-- the tests from a column on are its own, and those of the next
pub column_here : (cs : List ColumnPart) (k : ℕ) (c : ColumnPart) (ts : List Test) → k < length cs → c ≡ slice_index_or cs k c
    → ts ≡ column_tests cs k (57 + 55 * k) c → columns_tests cs k (drop k cs) ≡ ts ++ columns_tests cs (k + 1) (drop (k + 1) cs)
column_here cs k c ts within is made =
    ap (columns_tests cs k) (drop_more cs k c within)
    ∙ ap (λ (d : ColumnPart). column_tests cs k (57 + 55 * k) d ++ columns_tests cs (k + 1) (drop (k + 1) cs)) (sym is)
    ∙ ap (λ (us : List Test). us ++ columns_tests cs (k + 1) (drop (k + 1) cs)) (sym made)

-- the tests from an index on are its own, and those of the next
pub index_here : (count : ℕ) (is : List IndexPart) (k : ℕ) (i : IndexPart) (ts : List Test) → k < length is → i ≡ slice_index_or is k i
    → ts ≡ index_tests count is k (57 + 55 * count + 62 * k) i
    → indexes_tests count is k (drop k is) ≡ ts ++ indexes_tests count is (k + 1) (drop (k + 1) is)
index_here count is k i ts within at made =
    ap (indexes_tests count is k) (drop_more is k i within)
    ∙ ap (λ (j : IndexPart). index_tests count is k (57 + 55 * count + 62 * k) j ++ indexes_tests count is (k + 1) (drop (k + 1) is)) (sym at)
    ∙ ap (λ (us : List Test). us ++ indexes_tests count is (k + 1) (drop (k + 1) is)) (sym made)

same_front-nil : (xs : List ℕ) → same_front xs [] ≡ 0
same_front-nil [] = refl
same_front-nil (x ∷ xs) = refl

-- no byte is the same where there is none left
pub same_front-past : (xs ys : List ℕ) (k whole : ℕ) → length ys ≤ k → k + same_front xs (drop k ys) ≡ whole → k ≡ whole
same_front-past xs ys k whole past so_far =
    omega (arith, so_far, ap (same_front xs) (drop_all k ys past) ∙ same_front-nil xs)

-- bytes of as many pages as they count have the text that they count
pub counted_long : (bytes : List ℕ) → has_count bytes ≡ true
    → text_size (slice_index (drop 12 bytes) 31) (slice_index (drop 12 bytes) 32) ≤ length (drop 12 bytes)
counted_long bytes h =
    omega (arith, length-drop 12 bytes, eqb-true (length bytes) (1008 * page_count (12 + text_size (slice_index (drop 12 bytes) 31) (slice_index (drop 12 bytes) 32))) h)

-- of a descriptor whose head is right, a column that fails
pub behind_head : (t : Descriptor) (ts : List Test) (cs : List ColumnPart) (b : ℕ) → ts ≡ head_tests t → first_failed ts ≡ None → cs ≡ t.columns
    → first_failed (columns_tests cs 0 cs) ≡ Some b → Some b ≡ first_failed (all_tests t)
behind_head t ts cs b made none same found =
    let columns = ap (λ (ds : List ColumnPart). first_failed (columns_tests ds 0 ds)) (sym same) ∙ found in
    let parts = columns_tests t.columns 0 t.columns ++ indexes_tests (length t.columns) t.indexes 0 t.indexes in
    sym (
    failed_behind (head_tests t) parts (sym (ap first_failed made) ∙ none)
    ∙ failed_front (columns_tests t.columns 0 t.columns) (indexes_tests (length t.columns) t.indexes 0 t.indexes) b columns
    )

-- where its columns are right too, its indexes
pub behind_columns : (t : Descriptor) (ts : List Test) (cs : List ColumnPart) (is : List IndexPart) (found : Option ℕ) → ts ≡ head_tests t
    → first_failed ts ≡ None → cs ≡ t.columns → first_failed (columns_tests cs 0 cs) ≡ None → is ≡ t.indexes
    → found ≡ first_failed (indexes_tests (length cs) is 0 is) → found ≡ first_failed (all_tests t)
behind_columns t ts cs is found made none same columns also told =
    let right = ap (λ (ds : List ColumnPart). first_failed (columns_tests ds 0 ds)) (sym same) ∙ columns in
    let parts = columns_tests t.columns 0 t.columns ++ indexes_tests (length t.columns) t.indexes 0 t.indexes in
    told ∙ ap (λ (ds : List ColumnPart). first_failed (indexes_tests (length ds) is 0 is)) same
    ∙ ap (λ (js : List IndexPart). first_failed (indexes_tests (length t.columns) js 0 js)) also
    ∙ sym (
    failed_behind (head_tests t) parts (sym (ap first_failed made) ∙ none)
    ∙ failed_behind (columns_tests t.columns 0 t.columns) (indexes_tests (length t.columns) t.indexes 0 t.indexes) right
    )
