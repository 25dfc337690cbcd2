-- The references of a descriptor that may be stored have few pages.
use Rattle.std.specs.Prelude.{◌≡◌, ℕ, suc, ◌+◌, ◌<◌, ◌≤◌, true, List, ◌∷◌, length, drop, get_or}
use Rattle.std.proofs.Common.{sym, ap, ◌∙◌, add-one}
use Rattle.std.proofs.Math.Seq.{drop-cons}
use Rattle.std.proofs.lemmas.Bool.{and_parts, leb-true}
use Rattle.iq_base.specs.declared.refs.Ref.{Ref}
use Rattle.iq_base.specs.declared.descriptors.ColumnPart.{ColumnPart}
use Rattle.iq_base.specs.declared.descriptors.IndexPart.{IndexPart}
use Rattle.iq_catalog.specs.Storable.{is_ref, is_column, is_index, are_columns, are_indexes}

pub few_pages : (object : Ref) → is_ref object ≡ true → object.pages ≤ 63504
few_pages object is = leb-true _ _ (and_parts _ _ (and_parts _ _ is).0).0

pub record ColumnRefs (c : ColumnPart) (others : List ColumnPart) : Type 0 where
  pub cells : c.cells.pages ≤ 63504
  pub values : c.values.pages ≤ 63504
  pub rest : are_columns others ≡ true

pub column_refs : (c : ColumnPart) (cs : List ColumnPart) → are_columns (c ∷ cs) ≡ true → ColumnRefs c cs
column_refs c cs are =
    let parts = and_parts (is_column c) (are_columns cs) are in
    let last = and_parts _ _ parts.0 in
    record { cells = few_pages c.cells (and_parts _ _ last.0).1; values = few_pages c.values last.1; rest = parts.1 }

pub next_column : (cs : List ColumnPart) (i : ℕ) (c : ColumnPart) → i < length cs → c ≡ get_or cs i c → are_columns (drop i cs) ≡ true
    → ColumnRefs c (drop (i + 1) cs)
next_column cs i c within is are =
    rw add-one
    (column_refs c (drop (suc i) cs)
    (ap (λ (d : ColumnPart). are_columns (d ∷ drop (suc i) cs)) is ∙ (ap are_columns (sym (drop-cons cs i c within)) ∙ are)))

pub record IndexRefs (count : ℕ) (i : IndexPart) (others : List IndexPart) : Type 0 where
  pub first : i.first.pages ≤ 63504
  pub second : i.second.pages ≤ 63504
  pub third : i.third.pages ≤ 63504
  pub rest : are_indexes count others ≡ true

pub index_refs : (count : ℕ) (x : IndexPart) (xs : List IndexPart) → are_indexes count (x ∷ xs) ≡ true → IndexRefs count x xs
index_refs count x xs are =
    let parts = and_parts (is_index count x) (are_indexes count xs) are in
    let last = and_parts _ _ parts.0 in
    let middle = and_parts _ _ last.0 in
    record {
      first = few_pages x.first (and_parts _ _ middle.0).1;
      second = few_pages x.second middle.1;
      third = few_pages x.third last.1;
      rest = parts.1;
    }

pub next_index : (count : ℕ) (xs : List IndexPart) (i : ℕ) (x : IndexPart) → i < length xs → x ≡ get_or xs i x → are_indexes count (drop i xs) ≡ true
    → IndexRefs count x (drop (i + 1) xs)
next_index count xs i x within is are =
    rw add-one
    (index_refs count x (drop (suc i) xs)
    (ap (λ (d : IndexPart). are_indexes count (d ∷ drop (suc i) xs)) is ∙ (ap (are_indexes count) (sym (drop-cons xs i x within)) ∙ are)))
