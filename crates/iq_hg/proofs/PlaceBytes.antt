-- The bytes of places in a page of the directory.
use Rattle.std.proofs.Common.{◌≡◌, ◌≢◌, ◌<◌, ◌≤◌, ℕ, zero, suc, ◌+◌, ◌*◌, ◌^◌, List, [], ◌∷◌, ◌++◌, length, take, drop, sym, ap, ◌∙◌, refl, subst, arith, w32}
use Rattle.std.specs.Int.{to_le_bytes}
use Rattle.std.specs.List.{All}
use Rattle.std.proofs.Math.Nat.{suc-mul, zero-mul, div-le_self}
use Rattle.std.proofs.Math.Seq.{take-append_seam, drop-append_seam}
use Rattle.std.proofs.lemmas.List.{length-append, append_assoc, append-nil, take-append-drop, drop-drop, take-take}
use Rattle.std.proofs.lemmas.List.Concat.{flat_map-append}
use Rattle.std.proofs.lemmas.List.Elements.{All-head, All-tail, All-push}
use Rattle.iq_base.specs.declared.values.Kind.{Kind}
use Rattle.iq_base.specs.Cells.{width}
use Rattle.iq_hg_leaves.specs.declared.entries.Entry.{Entry}
use Rattle.iq_hg_leaves.specs.Entries.{IsEntry}
use Rattle.iq_hg_leaves.specs.Bytes.{entry_bytes}
use Rattle.iq_hg_leaves.proofs.PageBytes.{length_entry, next_bytes}
use Rattle.iq_hg_leaves.proofs.OnlyLeaf.{same_parts, number_same, entry_same}
use Rattle.iq_hg.specs.declared.places.Place.{Place}
use Rattle.iq_hg.specs.Places.{IsPlace, place_bytes, places_bytes, most_places, BeginsAsPlaces, place_at}

-- how many bytes a place has
pub length_place : (kind : Kind) (p : Place) → IsPlace kind p → length (place_bytes kind p) ≡ width kind + 8
length_place kind p is = omega (arith, length-append (entry_bytes kind p.first) (to_le_bytes w32 p.page), length_entry kind p.first is.first)

-- an entry and the number behind it are a place
pub place_read : (kind : Kind) (page : List ℕ) (e : Entry) (n at w : ℕ) → w ≡ width kind → take (width kind + 4) (drop at page) ≡ entry_bytes kind e → to_le_bytes w32 n ≡ take 4 (drop (at + (w + 4)) page) → take (width kind + 8) (drop at page) ≡ place_bytes kind (record { first = e; page = n })
place_read kind page e n at w wide first number =
    let whole : width kind + 8 ≡ (width kind + 4) + 4 = omega arith in
    let far : at + (width kind + 4) ≡ at + (w + 4) = omega arith in
    let behind : take 4 (drop (width kind + 4) (drop at page)) ≡ to_le_bytes w32 n = ap (take 4) (drop-drop (width kind + 4) at page ∙ ap (λ k. drop k page) far) ∙ sym number in
    ap (λ k. take k (drop at page)) whole ∙ next_bytes (width kind + 4) 4 (drop at page) (entry_bytes kind e) (to_le_bytes w32 n) first behind

-- where there is no entry, there is no place
pub place_bad : (kind : Kind) (page : List ℕ) (at : ℕ) (p : Place) → ((e : Entry) → IsEntry kind e → take (width kind + 4) (drop at page) ≢ entry_bytes kind e) → IsPlace kind p → take (width kind + 8) (drop at page) ≢ place_bytes kind p
place_bad kind page at p bad is e =
    let less : width kind + 4 ≤ width kind + 8 = omega arith in
    let front : take (width kind + 4) (drop at page) ≡ take (width kind + 4) (place_bytes kind p) = sym (take-take (width kind + 4) (width kind + 8) (drop at page) less) ∙ ap (take (width kind + 4)) e in
    let first : take (width kind + 4) (place_bytes kind p) ≡ entry_bytes kind p.first = ap (λ k. take k (place_bytes kind p)) (sym (length_entry kind p.first is.first)) ∙ take-append_seam (entry_bytes kind p.first) (to_le_bytes w32 p.page) in
    bad p.first is.first (front ∙ first)

-- the next place is read
pub places_read : (kind : Kind) (page : List ℕ) (ps ps' : List Place) (p : Place) (w n : ℕ) → w ≡ width kind + 8 → length ps ≡ n → take (4 + n * w) page ≡ take 4 page ++ places_bytes kind ps → All (IsPlace kind) ps → ps' ≡ ps ++ p ∷ [] → IsPlace kind p → take (width kind + 8) (drop (4 + n * w) page) ≡ place_bytes kind p → (length ps' ≡ n + 1) × (take (4 + (n + 1) * w) page ≡ take 4 page ++ places_bytes kind ps') × All (IsPlace kind) ps'
places_read kind page ps ps' p w n wide long read all is one bytes =
    let place : (4 + n * w) + (width kind + 8) ≡ 4 + (n + 1) * w = omega arith in
    let more : places_bytes kind ps ++ place_bytes kind p ≡ places_bytes kind ps' = sym (ap (places_bytes kind) is ∙ flat_map-append (place_bytes kind) ps (p ∷ []) ∙ ap (λ (bs : List ℕ). places_bytes kind ps ++ bs) (append-nil (place_bytes kind p))) in (
      ap length is ∙ length-append ps (p ∷ []) ∙ (omega arith),
      ap (λ k. take k page) (sym place) ∙ next_bytes (4 + n * w) (width kind + 8) page (take 4 page ++ places_bytes kind ps) (place_bytes kind p) read bytes
          ∙ append_assoc (take 4 page) (places_bytes kind ps) (place_bytes kind p) ∙ ap (λ (bs : List ℕ). take 4 page ++ bs) more,
      subst (All (IsPlace kind)) (sym is) (All-push (IsPlace kind) ps p all one),
    )

-- a page whose places are all read
pub all_read : (kind : Kind) (page : List ℕ) (count at : ℕ) (ps : List Place) → length ps ≡ count → to_le_bytes w32 count ≡ take 4 (drop 0 page) → take at page ≡ take 4 page ++ places_bytes kind ps → All (IsPlace kind) ps → count ≤ most_places kind → BeginsAsPlaces kind page ps
all_read kind page count at ps long counted read all h =
    let head : take 4 page ≡ to_le_bytes w32 (length ps) = sym counted ∙ ap (to_le_bytes w32) (sym long) in
    record {
      rest = drop at page;
      bytes_are = sym (take-append-drop at page) ∙ ap (λ (bs : List ℕ). bs ++ drop at page) (read ∙ ap (λ (bs : List ℕ). bs ++ places_bytes kind ps) head) ∙ append_assoc (to_le_bytes w32 (length ps)) (places_bytes kind ps) (drop at page);
      each = all;
      fits = rw long h;
    }

-- place i of some, by their bytes
place_there : (kind : Kind) (ps : List Place) (i : ℕ) (rest : List ℕ) → All (IsPlace kind) ps → i < length ps → take (width kind + 8) (drop (i * (width kind + 8)) (places_bytes kind ps ++ rest)) ≡ place_bytes kind (place_at i ps)
place_there kind [] i rest all h = absurd (omega arith)
place_there kind (p ∷ ps) zero rest all h =
    let long : length (place_bytes kind p) ≡ width kind + 8 = length_place kind p (All-head (IsPlace kind) p ps all) in
    ap (λ n. take (width kind + 8) (drop n (places_bytes kind (p ∷ ps) ++ rest))) (zero-mul (width kind + 8))
    ∙ ap (take (width kind + 8)) (append_assoc (place_bytes kind p) (places_bytes kind ps) rest)
    ∙ ap (λ n. take n (place_bytes kind p ++ (places_bytes kind ps ++ rest))) (sym long)
    ∙ take-append_seam (place_bytes kind p) (places_bytes kind ps ++ rest)
place_there kind (p ∷ ps) (suc i) rest all h =
    let w = width kind + 8 in
    let tail = places_bytes kind ps ++ rest in
    let long : length (place_bytes kind p) ≡ w = length_place kind p (All-head (IsPlace kind) p ps all) in
    let split : suc i * w ≡ i * w + length (place_bytes kind p) = suc-mul i w ∙ (omega arith) in
    let past : drop (suc i * w) (place_bytes kind p ++ tail) ≡ drop (i * w) tail =
    ap (λ n. drop n (place_bytes kind p ++ tail)) (split ∙ (omega arith)) ∙ sym (drop-drop (i * w) (length (place_bytes kind p)) (place_bytes kind p ++ tail)) ∙ ap (drop (i * w)) (drop-append_seam (place_bytes kind p) tail) in
    ap (λ (bs : List ℕ). take w (drop (suc i * w) bs)) (append_assoc (place_bytes kind p) (places_bytes kind ps) rest)
    ∙ ap (take w) past ∙ place_there kind ps i rest (All-tail (IsPlace kind) p ps all) (omega arith)

pub place_in : (kind : Kind) (page : List ℕ) (ps : List Place) (i at : ℕ) → BeginsAsPlaces kind page ps → i < length ps → at ≡ 4 + i * (width kind + 8) → take (width kind + 8) (drop at page) ≡ place_bytes kind (place_at i ps)
place_in kind page ps i at p h is =
    let head = to_le_bytes w32 (length ps) in
    let tail = places_bytes kind ps ++ p.rest in
    let w = width kind + 8 in
    let place : at ≡ length head + i * w = is in
    ap (λ n. take w (drop n page)) place ∙ ap (λ (bs : List ℕ). take w (drop (length head + i * w) bs)) p.bytes_are
    ∙ ap (take w) (sym (drop-drop (i * w) (length head) (head ++ tail)) ∙ ap (drop (i * w)) (drop-append_seam head tail))
    ∙ place_there kind ps i p.rest p.each h

pub place_count : (kind : Kind) (page : List ℕ) (ps : List Place) → BeginsAsPlaces kind page ps → take 4 (drop 0 page) ≡ to_le_bytes w32 (length ps)
place_count kind page ps p = ap (take 4) p.bytes_are ∙ take-append_seam (to_le_bytes w32 (length ps)) (places_bytes kind ps ++ p.rest)

pub few_places : (kind : Kind) (n : ℕ) → n ≤ most_places kind → n < 2 ^ 32
few_places kind n h = omega (arith, div-le_self 1004 (width kind + 8))

-- ONE LIST A PAGE

place_same : (kind : Kind) (a b : Place) → IsPlace kind a → IsPlace kind b → place_bytes kind a ≡ place_bytes kind b → a ≡ b
place_same kind a b p q e =
    let both = same_parts (entry_bytes kind a.first) (to_le_bytes w32 a.page) (entry_bytes kind b.first) (to_le_bytes w32 b.page) (length_entry kind a.first p.first ∙ sym (length_entry kind b.first q.first)) e in
    ap (λ (x : Entry). record { first = x; page = a.page }) (entry_same kind a.first b.first p.first q.first both.0) ∙ ap (λ (n : ℕ). record { first = b.first; page = n }) (number_same a.page b.page p.small q.small both.1)

places_same : (kind : Kind) (xs ys : List Place) (r s : List ℕ) → All (IsPlace kind) xs → All (IsPlace kind) ys → length xs ≡ length ys → places_bytes kind xs ++ r ≡ places_bytes kind ys ++ s → xs ≡ ys
places_same kind [] [] r s p q long e = refl
places_same kind [] (b ∷ ys) r s p q long e = absurd (omega arith)
places_same kind (a ∷ xs) [] r s p q long e = absurd (omega arith)
places_same kind (a ∷ xs) (b ∷ ys) r s p q long e =
    let pa = All-head (IsPlace kind) a xs p in
    let qb = All-head (IsPlace kind) b ys q in
    let both = same_parts (place_bytes kind a) (places_bytes kind xs ++ r) (place_bytes kind b) (places_bytes kind ys ++ s) (length_place kind a pa ∙ sym (length_place kind b qb))
    (sym (append_assoc (place_bytes kind a) (places_bytes kind xs) r) ∙ e ∙ append_assoc (place_bytes kind b) (places_bytes kind ys) s) in
    ap (λ (x : Place). x ∷ xs) (place_same kind a b pa qb both.0) ∙ ap (λ (zs : List Place). b ∷ zs) (places_same kind xs ys r s (All-tail (IsPlace kind) a xs p) (All-tail (IsPlace kind) b ys q) (omega arith) both.1)

pub only_places : (kind : Kind) (page : List ℕ) (xs ys : List Place) → BeginsAsPlaces kind page xs → BeginsAsPlaces kind page ys → xs ≡ ys
only_places kind page xs ys p q =
    let halves = same_parts (to_le_bytes w32 (length xs)) (places_bytes kind xs ++ p.rest) (to_le_bytes w32 (length ys)) (places_bytes kind ys ++ q.rest) refl (sym p.bytes_are ∙ q.bytes_are) in
    let long : length xs ≡ length ys = number_same (length xs) (length ys) (few_places kind (length xs) p.fits) (few_places kind (length ys) q.fits) halves.0 in
    places_same kind xs ys p.rest q.rest p.each q.each long halves.1
