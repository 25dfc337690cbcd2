-- A page is one leaf at most.
use Rattle.std.proofs.Common.{◌≡◌, ◌<◌, ◌≤◌, ℕ, ◌+◌, ◌^◌, List, [], ◌∷◌, ◌++◌, length, take, drop, sym, ap, ◌∙◌, refl, arith, w32}
use Rattle.std.specs.Int.{to_le_bytes, from_le_bytes}
use Rattle.std.proofs.lemmas.Nat.{from_le_bytes-to_le_bytes_4}
use Rattle.std.proofs.Math.Nat.{div-le_self}
use Rattle.std.proofs.Math.Seq.{take-append_seam, drop-append_seam}
use Rattle.std.specs.List.{All}
use Rattle.std.proofs.lemmas.List.{append_assoc}
use Rattle.std.proofs.lemmas.List.Elements.{All-head, All-tail}
use Rattle.iq_base.specs.declared.values.Kind.{Kind}
use Rattle.iq_base.specs.declared.values.Value.{Value}
use Rattle.iq_base.specs.Cells.{width, cell}
use Rattle.iq_base.proofs.CellLaws.{cell_tells}
use Rattle.iq_hg_leaves.specs.declared.entries.Entry.{Entry}
use Rattle.iq_cells.proofs.CellValues.{cell_long}
use Rattle.iq_hg_leaves.specs.Entries.{IsEntry}
use Rattle.iq_hg_leaves.specs.Bytes.{most_in_leaf, entry_bytes, entries_bytes, leaf_head, BeginsAsLeaf}
use Rattle.iq_hg_leaves.proofs.PageBytes.{length_entry}

-- joined lists whose first parts are es long are the same part by part
pub same_parts : (xs ys us vs : List ℕ) → length xs ≡ length us → xs ++ ys ≡ us ++ vs → (xs ≡ us) × (ys ≡ vs)
same_parts xs ys us vs long e = (
  sym (take-append_seam xs ys) ∙ ap (take (length xs)) e ∙ ap (λ n. take n (us ++ vs)) long ∙ take-append_seam us vs,
  sym (drop-append_seam xs ys) ∙ ap (drop (length xs)) e ∙ ap (λ n. drop n (us ++ vs)) long ∙ drop-append_seam us vs,
)

pub number_same : (a b : ℕ) → a < 2 ^ 32 → b < 2 ^ 32 → to_le_bytes w32 a ≡ to_le_bytes w32 b → a ≡ b
number_same a b h l e = sym (from_le_bytes-to_le_bytes_4 a h) ∙ ap (from_le_bytes w32) e ∙ from_le_bytes-to_le_bytes_4 b l

pub entry_same : (kind : Kind) (a b : Entry) → IsEntry kind a → IsEntry kind b → entry_bytes kind a ≡ entry_bytes kind b → a ≡ b
entry_same kind a b p q e =
    let both = same_parts (cell kind a.value) (to_le_bytes w32 a.row) (cell kind b.value) (to_le_bytes w32 b.row) (cell_long kind a.value p.of_kind ∙ sym (cell_long kind b.value q.of_kind)) e in
    let values : a.value ≡ b.value = cell_tells kind a.value b.value p.of_kind q.of_kind both.0 in
    let rows : a.row ≡ b.row = number_same a.row b.row p.small q.small both.1 in
    ap (λ (v : Value). record { value = v; row = a.row }) values ∙ ap (λ (r : ℕ). record { value = b.value; row = r }) rows

entries_same : (kind : Kind) (es bs : List Entry) (r s : List ℕ) → All (IsEntry kind) es → All (IsEntry kind) bs → length es ≡ length bs → entries_bytes kind es ++ r ≡ entries_bytes kind bs ++ s → es ≡ bs
entries_same kind [] [] r s p q long e = refl
entries_same kind [] (b ∷ bs) r s p q long e = absurd (omega arith)
entries_same kind (a ∷ es) [] r s p q long e = absurd (omega arith)
entries_same kind (a ∷ es) (b ∷ bs) r s p q long e =
    let pa = All-head (IsEntry kind) a es p in
    let qb = All-head (IsEntry kind) b bs q in
    let both = same_parts (entry_bytes kind a) (entries_bytes kind es ++ r) (entry_bytes kind b) (entries_bytes kind bs ++ s) (length_entry kind a pa ∙ sym (length_entry kind b qb))
    (sym (append_assoc (entry_bytes kind a) (entries_bytes kind es) r) ∙ e ∙ append_assoc (entry_bytes kind b) (entries_bytes kind bs) s) in
    let first : a ≡ b = entry_same kind a b pa qb both.0 in
    let rest : es ≡ bs = entries_same kind es bs r s (All-tail (IsEntry kind) a es p) (All-tail (IsEntry kind) b bs q) (omega arith) both.1 in
    ap (λ (x : Entry). x ∷ es) first ∙ ap (λ (xs : List Entry). b ∷ xs) rest

pub few : (kind : Kind) (n : ℕ) → n ≤ most_in_leaf kind → n < 2 ^ 32
few kind n h = omega (arith, div-le_self 1000 (width kind + 4))

pub only_leaf : (kind : Kind) (page : List ℕ) (n m : ℕ) (es bs : List Entry) → BeginsAsLeaf kind page n es → BeginsAsLeaf kind page m bs → (n ≡ m) × (es ≡ bs)
only_leaf kind page n m es bs p q =
    let halves = same_parts (leaf_head (length es) n) (entries_bytes kind es ++ p.rest) (leaf_head (length bs) m) (entries_bytes kind bs ++ q.rest) refl (sym p.bytes_are ∙ q.bytes_are) in
    let numbers = same_parts (to_le_bytes w32 (length es)) (to_le_bytes w32 n) (to_le_bytes w32 (length bs)) (to_le_bytes w32 m) refl halves.0 in
    let long : length es ≡ length bs = number_same (length es) (length bs) (few kind (length es) p.fits) (few kind (length bs) q.fits) numbers.0 in
    (number_same n m p.small q.small numbers.1, entries_same kind es bs p.rest q.rest p.each q.each long halves.1)
