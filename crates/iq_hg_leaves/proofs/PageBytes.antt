-- The bytes of entries in a page.
use Rattle.std.proofs.Common.{◌≡◌, ◌≢◌, ◌<◌, ◌≤◌, ℕ, ◌+◌, ◌-◌, ◌*◌, ◌^◌, List, [], ◌∷◌, ◌++◌, length, take, drop, take-add, replicate, zero, suc, sym, ap, ◌∙◌, refl, subst, arith, w32}
use Rattle.std.specs.Int.{to_le_bytes}
use Rattle.std.specs.List.{All}
use Rattle.std.proofs.Math.Nat.{mul-le-mul_right, div-mul-le_self, suc-mul, zero-mul}
use Rattle.std.proofs.lemmas.List.{length-append, append_assoc, append-nil, take-append-drop, drop-drop, take_more, get_or-drop, length-drop, length-take, length-replicate}
use Rattle.std.proofs.Math.Seq.{take-append_seam, drop-append_seam}
use Rattle.std.proofs.lemmas.List.Concat.{flat_map-append}
use Rattle.std.proofs.lemmas.List.Elements.{All-head, All-tail, All-push, All-take, All-drop}
use Rattle.iq_base.specs.declared.values.Kind.{Kind}
use Rattle.iq_base.specs.declared.values.Value.{Value}
use Rattle.iq_base.specs.declared.values.Value.TheVariants.{Null}
use Rattle.iq_base.specs.Cells.{width, cell, IsCell}
use Rattle.iq_hg_leaves.specs.declared.entries.Entry.{Entry}
use Rattle.iq_cells.proofs.CellValues.{cell_long}
use Rattle.iq_hg_leaves.specs.Entries.{IsEntry, entry_at}
use Rattle.iq_hg_leaves.specs.Bytes.{most_in_leaf, entry_bytes, entries_bytes, leaf_head, BeginsAsLeaf, IsLeaf}

-- how many bytes an entry has
pub length_entry : (kind : Kind) (e : Entry) → IsEntry kind e → length (entry_bytes kind e) ≡ width kind + 4
length_entry kind e p = length-append (cell kind e.value) (to_le_bytes w32 e.row) ∙ ap (λ n. n + 4) (cell_long kind e.value p.of_kind)

-- and how many some entries have
pub length_entries : (kind : Kind) (es : List Entry) → All (IsEntry kind) es → length (entries_bytes kind es) ≡ length es * (width kind + 4)
length_entries kind [] all = omega arith
length_entries kind (e ∷ es) all =
    let one = length_entry kind e (All-head (IsEntry kind) e es all) in
    let more = length_entries kind es (All-tail (IsEntry kind) e es all) in
    omega (arith, length-append (entry_bytes kind e) (entries_bytes kind es))

-- so many entries as a leaf may have fit its page
pub leaf_fits : (kind : Kind) (n : ℕ) → n ≤ most_in_leaf kind → n * (width kind + 4) ≤ 1000
leaf_fits kind n h =
    let a : n * (width kind + 4) ≤ most_in_leaf kind * (width kind + 4) = mul-le-mul_right (width kind + 4) h in
    let b = div-mul-le_self 1000 (width kind + 4) in
    omega arith

-- one entry more
pub bytes_more : (kind : Kind) (es : List Entry) (e : Entry) → entries_bytes kind (es ++ e ∷ []) ≡ entries_bytes kind es ++ entry_bytes kind e
bytes_more kind es e = flat_map-append (entry_bytes kind) es (e ∷ []) ∙ ap (λ (bs : List ℕ). entries_bytes kind es ++ bs) (append-nil (entry_bytes kind e))

-- a part of the bytes and the part behind it
pub next_bytes : (a b : ℕ) (bs xs ys : List ℕ) → take a bs ≡ xs → take b (drop a bs) ≡ ys → take (a + b) bs ≡ xs ++ ys
next_bytes a b bs xs ys p q = take-add a b bs ∙ ap (λ (zs : List ℕ). zs ++ take b (drop a bs)) p ∙ ap (λ (zs : List ℕ). xs ++ zs) q

-- one entry more of a list
pub bytes_next : (kind : Kind) (es : List Entry) (from i : ℕ) (head old new : List ℕ) → from + i < length es → old ≡ head ++ entries_bytes kind (take i (drop from es)) → new ≡ old ++ entry_bytes kind (entry_at (from + i) es) → new ≡ head ++ entries_bytes kind (take (i + 1) (drop from es))
bytes_next kind es from i head old new h was is =
    let d : Entry = record { value = Null; row = 0 } in
    let part = take i (drop from es) in
    let one : take (i + 1) (drop from es) ≡ part ++ entry_at (from + i) es ∷ [] = take_more (drop from es) i d (omega (arith, length-drop from es)) ∙ ap (λ (e : Entry). part ++ e ∷ []) (get_or-drop from es i d) in
    is ∙ ap (λ (bs : List ℕ). bs ++ entry_bytes kind (entry_at (from + i) es)) was
    ∙ append_assoc head (entries_bytes kind part) (entry_bytes kind (entry_at (from + i) es))
    ∙ ap (λ (bs : List ℕ). head ++ bs) (sym (bytes_more kind part (entry_at (from + i) es)))
    ∙ ap (λ (xs : List Entry). head ++ entries_bytes kind xs) (sym one)

-- some entries of a list
some_each : (kind : Kind) (all : List Entry) (from n : ℕ) → All (IsEntry kind) all → All (IsEntry kind) (take n (drop from all))
some_each kind all from n each = All-take (IsEntry kind) n (drop from all) (All-drop (IsEntry kind) from all each)

some_long : (all : List Entry) (from n : ℕ) → from + n ≤ length all → length (take n (drop from all)) ≡ n
some_long all from n h = length-take n (drop from all) ∙ (omega (arith, length-drop from all))

-- the bytes of a leaf fit its page
pub leaf_bytes_fit : (kind : Kind) (all : List Entry) (from n next : ℕ) (bytes : List ℕ) → from + n ≤ length all → n ≤ most_in_leaf kind → All (IsEntry kind) all → bytes ≡ leaf_head n next ++ entries_bytes kind (take n (drop from all)) → length bytes ≤ 1008
leaf_bytes_fit kind all from n next bytes there h each is =
    let es = take n (drop from all) in
    let long : length es * (width kind + 4) ≤ 1000 = leaf_fits kind (length es) (omega (arith, some_long all from n there)) in
    omega (arith, ap length is, length-append (leaf_head n next) (entries_bytes kind es), length_entries kind es (some_each kind all from n each))

-- a page of the bytes of a leaf, and zeros
pub leaf_made : (kind : Kind) (all : List Entry) (from n next : ℕ) (page bytes : List ℕ) → from + n ≤ length all → n ≤ most_in_leaf kind → All (IsEntry kind) all → bytes ≡ leaf_head n next ++ entries_bytes kind (take n (drop from all)) → page ≡ bytes ++ replicate (1008 - length bytes) 0 → next < 2 ^ 32 → IsLeaf kind page next (take n (drop from all))
leaf_made kind all from n next page bytes there h each is begins small =
    let es = take n (drop from all) in
    let long : length es ≡ n = some_long all from n there in
    let zeros : List ℕ = replicate (1008 - length bytes) 0 in
    let many : length zeros ≡ 1008 - length bytes = length-replicate (1008 - length bytes) 0 in
    record {
      begins = record {
        rest = zeros;
        bytes_are = begins ∙ ap (λ (bs : List ℕ). bs ++ zeros) is ∙ append_assoc (leaf_head n next) (entries_bytes kind es) zeros ∙ ap (λ k. leaf_head k next ++ (entries_bytes kind es ++ zeros)) (sym long);
        each = some_each kind all from n each;
        fits = omega arith;
        small = small;
      };
      blank = ap (λ k. replicate k 0) (sym many);
    }

-- a page is read one entry further
pub read_more : (kind : Kind) (page head : List ℕ) (es : List Entry) (e : Entry) (at w n : ℕ) → w ≡ width kind + 4 → at ≡ 8 + n * w → take at page ≡ head ++ entries_bytes kind es → take (width kind + 4) (drop at page) ≡ entry_bytes kind e → take (8 + (n + 1) * w) page ≡ head ++ entries_bytes kind (es ++ e ∷ [])
read_more kind page head es e at w n wide is before bytes =
    let place : at + (width kind + 4) ≡ 8 + (n + 1) * w = omega arith in
    ap (λ k. take k page) (sym place)
    ∙ next_bytes at (width kind + 4) page (head ++ entries_bytes kind es) (entry_bytes kind e) before bytes
    ∙ append_assoc head (entries_bytes kind es) (entry_bytes kind e)
    ∙ ap (λ (bs : List ℕ). head ++ bs) (sym (bytes_more kind es e))

-- a page whose entries are all read is a leaf
pub leaf_read : (kind : Kind) (page : List ℕ) (next count at : ℕ) (es : List Entry) → length es ≡ count → to_le_bytes w32 count ≡ take 4 (drop 0 page) → to_le_bytes w32 next ≡ take 4 (drop 4 page) → take at page ≡ take 8 page ++ entries_bytes kind es → All (IsEntry kind) es → count ≤ most_in_leaf kind → next < 2 ^ 32 → BeginsAsLeaf kind page next es
leaf_read kind page next count at es long counted names read all h small =
    let head : take 8 page ≡ leaf_head (length es) next = next_bytes 4 4 page (to_le_bytes w32 (length es)) (to_le_bytes w32 next) (rw long (sym counted)) (sym names) in
    record {
      rest = drop at page;
      bytes_are = sym (take-append-drop at page) ∙ ap (λ (bs : List ℕ). bs ++ drop at page) (read ∙ ap (λ (bs : List ℕ). bs ++ entries_bytes kind es) head) ∙ append_assoc (leaf_head (length es) next) (entries_bytes kind es) (drop at page);
      each = all;
      fits = rw long h;
      small = small;
    }

-- a cell and the number behind it are an entry
pub entry_read : (kind : Kind) (page : List ℕ) (v : Value) (row at w k : ℕ) → w ≡ width kind → k ≡ w → IsCell kind v (take k (drop at page)) → v ≢ Null → row < 2 ^ 32 → to_le_bytes w32 row ≡ take 4 (drop (at + w) page) → IsEntry kind (record { value = v; row = row }) × (take (width kind + 4) (drop at page) ≡ entry_bytes kind (record { value = v; row = row }))
entry_read kind page v row at w k wide long c filled small bytes =
    let value : take w (drop at page) ≡ cell kind v = ap (λ n. take n (drop at page)) (sym long) ∙ sym c.bytes_are in
    let number : take 4 (drop w (drop at page)) ≡ to_le_bytes w32 row = ap (take 4) (drop-drop w at page) ∙ sym bytes in (
      record { of_kind = c.of_kind; utf8 = c.utf8; filled = filled; small = small },
      ap (λ n. take (n + 4) (drop at page)) (sym wide) ∙ next_bytes w 4 (drop at page) (cell kind v) (to_le_bytes w32 row) value number,
    )

-- the next entry is read
pub entries_read : (kind : Kind) (page : List ℕ) (es es' : List Entry) (e : Entry) (w n : ℕ) → w ≡ width kind + 4 → length es ≡ n → take (8 + n * w) page ≡ take 8 page ++ entries_bytes kind es → All (IsEntry kind) es → es' ≡ es ++ e ∷ [] → IsEntry kind e → take (width kind + 4) (drop (8 + n * w) page) ≡ entry_bytes kind e → (length es' ≡ n + 1) × (take (8 + (n + 1) * w) page ≡ take 8 page ++ entries_bytes kind es') × All (IsEntry kind) es'
entries_read kind page es es' e w n wide long read all is one bytes = (
  ap length is ∙ length-append es (e ∷ []) ∙ (omega arith),
  read_more kind page (take 8 page) es e (8 + n * w) w n wide refl read bytes ∙ ap (λ (xs : List Entry). take 8 page ++ entries_bytes kind xs) (sym is),
  subst (All (IsEntry kind)) (sym is) (All-push (IsEntry kind) es e all one),
)

-- entry i of some, by their bytes
entry_there : (kind : Kind) (es : List Entry) (i : ℕ) (rest : List ℕ) → All (IsEntry kind) es → i < length es → take (width kind + 4) (drop (i * (width kind + 4)) (entries_bytes kind es ++ rest)) ≡ entry_bytes kind (entry_at i es)
entry_there kind [] i rest all h = absurd (omega arith)
entry_there kind (e ∷ es) zero rest all h =
    let long : length (entry_bytes kind e) ≡ width kind + 4 = length_entry kind e (All-head (IsEntry kind) e es all) in
    ap (λ n. take (width kind + 4) (drop n (entries_bytes kind (e ∷ es) ++ rest))) (zero-mul (width kind + 4))
    ∙ ap (take (width kind + 4)) (append_assoc (entry_bytes kind e) (entries_bytes kind es) rest)
    ∙ ap (λ n. take n (entry_bytes kind e ++ (entries_bytes kind es ++ rest))) (sym long)
    ∙ take-append_seam (entry_bytes kind e) (entries_bytes kind es ++ rest)
entry_there kind (e ∷ es) (suc i) rest all h =
    let w = width kind + 4 in
    let tail = entries_bytes kind es ++ rest in
    let long : length (entry_bytes kind e) ≡ w = length_entry kind e (All-head (IsEntry kind) e es all) in
    let split : suc i * w ≡ i * w + length (entry_bytes kind e) = suc-mul i w ∙ (omega arith) in
    let past : drop (suc i * w) (entry_bytes kind e ++ tail) ≡ drop (i * w) tail =
    ap (λ n. drop n (entry_bytes kind e ++ tail)) (split ∙ (omega arith)) ∙ sym (drop-drop (i * w) (length (entry_bytes kind e)) (entry_bytes kind e ++ tail)) ∙ ap (drop (i * w)) (drop-append_seam (entry_bytes kind e) tail) in
    ap (λ (bs : List ℕ). take w (drop (suc i * w) bs)) (append_assoc (entry_bytes kind e) (entries_bytes kind es) rest)
    ∙ ap (take w) past ∙ entry_there kind es i rest (All-tail (IsEntry kind) e es all) (omega arith)

-- entry i of a leaf, by the bytes of its page
pub leaf_entry : (kind : Kind) (page : List ℕ) (next : ℕ) (es : List Entry) (i at : ℕ) → BeginsAsLeaf kind page next es → i < length es → at ≡ 8 + i * (width kind + 4) → take (width kind + 4) (drop at page) ≡ entry_bytes kind (entry_at i es)
leaf_entry kind page next es i at p h is =
    let head = leaf_head (length es) next in
    let tail = entries_bytes kind es ++ p.rest in
    let w = width kind + 4 in
    let place : at ≡ length head + i * w = is in
    ap (λ n. take w (drop n page)) place ∙ ap (λ (bs : List ℕ). take w (drop (length head + i * w) bs)) p.bytes_are
    ∙ ap (take w) (sym (drop-drop (i * w) (length head) (head ++ tail)) ∙ ap (drop (i * w)) (drop-append_seam head tail))
    ∙ entry_there kind es i p.rest p.each h

-- how many entries a leaf has, by the bytes of its page
pub leaf_count : (kind : Kind) (page : List ℕ) (next : ℕ) (es : List Entry) → BeginsAsLeaf kind page next es → take 4 (drop 0 page) ≡ to_le_bytes w32 (length es)
leaf_count kind page next es p = ap (take 4) p.bytes_are ∙ ap (take 4) (append_assoc (to_le_bytes w32 (length es)) (to_le_bytes w32 next) (entries_bytes kind es ++ p.rest)) ∙ take-append_seam (to_le_bytes w32 (length es)) (to_le_bytes w32 next ++ (entries_bytes kind es ++ p.rest))
