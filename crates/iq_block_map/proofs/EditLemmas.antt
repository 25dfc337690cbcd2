-- Pages replaced and added, piece by piece.
use Rattle.std.specs.Prelude.{◌≡◌, ℕ, zero, suc, ◌+◌, ◌-◌, ◌*◌, ◌<◌, ◌≤◌, min, true, false, List, [], ◌∷◌, ◌++◌, length, take, drop, replicate, slice_index_or, slice_set}
use Rattle.std.specs.List.{prefix_len}
use Rattle.std.proofs.Common.{refl, sym, ap, subst, ◌∙◌, inl, inr, arith, append_assoc, append-nil, length-append, length-set}
use Rattle.std.proofs.lemmas.List.{take_more, take_at, drop_at, take_all, drop_all, take-append-drop, length-take, length-drop, drop-replicate, take_min, drop_min, set-append_left, set-append_right, drop-drop}
use Rattle.std.proofs.lemmas.List.Sums.{fold-append}
use Rattle.std.proofs.lemmas.Bool.{cases_lt, lt-ltb, le-ltb}
use Rattle.iq_block_map.specs.Objects.{used_in}
use Rattle.iq_block_map.specs.Editing.{replaced_from, edited, piece, AreChanges}
use Rattle.iq_block_map.specs.Leaves.{below, padded}

abbrev change_one : ℕ → List ℕ → ℕ × ℕ → List ℕ
change_one first ys c = slice_set ys (c.0 - first) c.1

pub length-replaced : (first : ℕ) (xs : List ℕ) (cs : List (ℕ × ℕ)) → length (replaced_from first xs cs) ≡ length xs
length-replaced first xs [] = refl
length-replaced first xs (c ∷ cs) = length-replaced first (slice_set xs (c.0 - first) c.1) cs ∙ length-set xs (c.0 - first) c.1

-- one more change
pub replaced_more : (first : ℕ) (xs : List ℕ) (cs : List (ℕ × ℕ)) (i : ℕ) (d : ℕ × ℕ) → i < length cs
    → replaced_from first xs (take (i + 1) cs)
    ≡ slice_set (replaced_from first xs (take i cs)) ((slice_index_or cs i d).0 - first) (slice_index_or cs i d).1
replaced_more first xs cs i d within =
    ap (replaced_from first xs) (take_more cs i d within)
    ∙ fold-append (change_one first) xs (take i cs) (slice_index_or cs i d ∷ [])

-- a number in use of a map is replaced
pub padded_set : (ys : List ℕ) (i a : ℕ) → i < length ys → slice_set (padded ys) i a ≡ padded (slice_set ys i a)
padded_set ys i a within =
    set-append_left ys (replicate (252 - length ys) 0) i a within
    ∙ ap (λ (n : ℕ). slice_set ys i a ++ replicate (252 - n) 0) (sym (length-set ys i a))

-- numbers are put behind those in use
pub padded_put : (ys more : List ℕ) (used : ℕ) → length ys ≡ used
    → take used (padded ys) ++ (more ++ drop (length more) (drop used (padded ys))) ≡ padded (ys ++ more)
padded_put ys more used size =
    let zeros = replicate (252 - length ys) 0 in
    let front : take used (padded ys) ≡ ys = take_at ys zeros used size in
    let left : 252 - length ys - length more ≡ 252 - length (ys ++ more) = omega (arith, length-append ys more) in
    let back : drop (length more) (drop used (padded ys)) ≡ replicate (252 - length (ys ++ more)) 0
    = ap (drop (length more)) (drop_at ys zeros used size)
    ∙ drop-replicate (length more) (252 - length ys) 0
    ∙ ap (λ (n : ℕ). replicate n 0) left in
    ap (λ (t : List ℕ). t ++ (more ++ drop (length more) (drop used (padded ys)))) front
    ∙ ap (λ (t : List ℕ). ys ++ (more ++ t)) back
    ∙ sym (append_assoc ys more (replicate (252 - length (ys ++ more)) 0))

-- each change is of a page within the bounds
pub change_bounds : (first end : ℕ) (cs : List (ℕ × ℕ)) (i : ℕ) (d : ℕ × ℕ) → AreChanges first end cs → i < length cs
    → (first ≤ (slice_index_or cs i d).0) × ((slice_index_or cs i d).0 < end)
change_bounds first end [] i d are within = absurd (omega (arith, within))
change_bounds first end ((n, a) ∷ cs) zero d are within = (are.0, are.1)
change_bounds first end ((n, a) ∷ cs) (suc i) d are within =
    let rest = change_bounds (n + 1) end cs i d are.2 (omega (arith, within)) in
    (omega (arith, rest.0, are.0), rest.1)

changes_from : (first first' end : ℕ) (cs : List (ℕ × ℕ)) → first' ≤ first → AreChanges first end cs → AreChanges first' end cs
changes_from first first' end [] less are = tt
changes_from first first' end ((n, a) ∷ cs) less are = (omega (arith, less, are.0), are.1, are.2)

-- no change is below where all are past it
none_below : (first end mid : ℕ) (cs : List (ℕ × ℕ)) → mid ≤ first → AreChanges first end cs → prefix_len (below mid) cs ≡ 0
none_below first end mid [] past are = refl
none_below first end mid ((n, a) ∷ cs) past are = rw (le-ltb n mid (omega (arith, past, are.0))) refl

pub prefix_hit : (mid : ℕ) (c : ℕ × ℕ) (cs : List (ℕ × ℕ)) → below mid c ≡ true → prefix_len (below mid) (c ∷ cs) ≡ suc (prefix_len (below mid) cs)
prefix_hit mid c cs hit = rw hit (omega arith)

pub prefix_miss : (mid : ℕ) (c : ℕ × ℕ) (cs : List (ℕ × ℕ)) → below mid c ≡ false → prefix_len (below mid) (c ∷ cs) ≡ 0
prefix_miss mid c cs miss = rw miss refl

abbrev AreCut : ℕ → ℕ → ℕ → List (ℕ × ℕ) → ℕ → Type 0
AreCut first end mid cs p = AreChanges first (min mid end) (take p cs) × AreChanges mid end (drop p cs)

-- changes are cut at a page: those of earlier pages are the first
pub changes_cut : (first end mid : ℕ) (cs : List (ℕ × ℕ)) → first ≤ mid → AreChanges first end cs
    → AreChanges first (min mid end) (take (prefix_len (below mid) cs) cs) × AreChanges mid end (drop (prefix_len (below mid) cs) cs)
changes_cut first end mid [] early are = (tt, tt)
changes_cut first end mid ((n, a) ∷ cs) early are = elim (cases_lt n mid) [
  | inl before ↦
      (let rest = changes_cut (n + 1) end mid cs (omega (arith, before)) are.2 in
      let cut : AreCut first end mid ((n, a) ∷ cs) (suc (prefix_len (below mid) cs)) = ((are.0, omega (arith, before, are.1), rest.0), rest.1) in
      subst (AreCut first end mid ((n, a) ∷ cs)) (sym (prefix_hit mid (n, a) cs (lt-ltb n mid before))) cut)
  | inr past ↦
      (let cut : AreCut first end mid ((n, a) ∷ cs) 0 = (tt, (omega (arith, past), are.1, are.2)) in
      subst (AreCut first end mid ((n, a) ∷ cs)) (sym (prefix_miss mid (n, a) cs (le-ltb n mid (omega (arith, past))))) cut)
]

-- changes of two pieces one after the other
pub replaced_pieces : (first : ℕ) (xs ys : List ℕ) (here later : List (ℕ × ℕ)) (end last : ℕ) → AreChanges first end here → end ≤ first + length xs
    → AreChanges (first + length xs) last later
    → replaced_from first (xs ++ ys) (here ++ later) ≡ replaced_from first xs here ++ replaced_from (first + length xs) ys later
replaced_pieces first xs ys [] [] end last are within past = refl
replaced_pieces first xs ys [] ((n, a) ∷ later) end last are within past =
    let at : n - first - length xs ≡ n - (first + length xs) = omega arith in
    ap (λ (t : List ℕ). replaced_from first t later) (set-append_right xs ys (length xs) (n - first) a refl (omega (arith, past.0)))
    ∙ replaced_pieces first xs (slice_set ys (n - first - length xs) a) [] later end last tt within
    (changes_from (n + 1) (first + length xs) last later (omega (arith, past.0)) past.2)
    ∙ ap (λ (i : ℕ). xs ++ replaced_from (first + length xs) (slice_set ys i a) later) at
replaced_pieces first xs ys ((n, a) ∷ here) later end last are within past =
    let inside : n - first < length xs = omega (arith, are.0, are.1, within) in
    let size : length (slice_set xs (n - first) a) ≡ length xs = length-set xs (n - first) a in
    ap (λ (t : List ℕ). replaced_from first t (here ++ later)) (set-append_left xs ys (n - first) a inside)
    ∙ replaced_pieces first (slice_set xs (n - first) a) ys here later end last (changes_from (n + 1) first end here (omega (arith, are.0)) are.2)
    (omega (arith, within, size)) (rw size past)
    ∙ ap (λ (m : ℕ). replaced_from first (slice_set xs (n - first) a) here ++ replaced_from (first + m) ys later) size

-- changes past the end of all pages are none
pub no_changes : (first end : ℕ) (cs : List (ℕ × ℕ)) → end ≤ first → AreChanges first end cs → cs ≡ []
no_changes first end [] over are = refl
no_changes first end ((n, a) ∷ cs) over are = absurd (omega (arith, over, are.0, are.1))

-- of the first 252 pages of an edited list, and of those behind them
pub record CutPiece (first : ℕ) (xs : List ℕ) (cs : List (ℕ × ℕ)) (added : List ℕ) (p m : ℕ) : Type 0 where
  pub here : take 252 (replaced_from first xs cs ++ added) ≡ replaced_from first (take 252 xs) (take p cs) ++ take m added
  pub later : drop 252 (replaced_from first xs cs ++ added) ≡ replaced_from (first + 252) (drop 252 xs) (drop p cs) ++ drop m added

cut_full : (first last p : ℕ) (xs : List ℕ) (cs : List (ℕ × ℕ)) (added : List ℕ) → 252 ≤ length xs
    → AreChanges first (first + 252) (take p cs) → AreChanges (first + 252) last (drop p cs) → CutPiece first xs cs added p 0
cut_full first last p xs cs added full here later =
    let c = take 252 xs in
    let size : length c ≡ 252 = length-take 252 xs ∙ omega (arith, full) in
    let front = replaced_from first c (take p cs) in
    let back = replaced_from (first + 252) (drop 252 xs) (drop p cs) in
    let front_size : length front ≡ 252 = length-replaced first c (take p cs) ∙ size in
    let pieces : replaced_from first (c ++ drop 252 xs) (take p cs ++ drop p cs) ≡ front ++ replaced_from (first + length c) (drop 252 xs) (drop p cs)
    = replaced_pieces first c (drop 252 xs) (take p cs) (drop p cs) (first + 252) last here (omega (arith, size)) (rw size later) in
    let whole : replaced_from first xs cs ++ added ≡ front ++ (back ++ added)
    = ap (λ (t : List ℕ). replaced_from first t cs ++ added) (sym (take-append-drop 252 xs))
    ∙ ap (λ (t : List (ℕ × ℕ)). replaced_from first (c ++ drop 252 xs) t ++ added) (sym (take-append-drop p cs))
    ∙ ap (λ (t : List ℕ). t ++ added) pieces
    ∙ ap (λ (n : ℕ). (front ++ replaced_from (first + n) (drop 252 xs) (drop p cs)) ++ added) size
    ∙ append_assoc front back added in
    record {
      here = ap (take 252) whole ∙ take_at front (back ++ added) 252 front_size ∙ sym (append-nil front);
      later = ap (drop 252) whole ∙ drop_at front (back ++ added) 252 front_size;
    }

take_past : (xs ys : List ℕ) (n : ℕ) → take (length xs + n) (xs ++ ys) ≡ xs ++ take n ys
take_past [] ys n = ap (λ (k : ℕ). take k ys) (omega arith)
take_past (x ∷ xs) ys n =
    let more : suc (length xs) + n ≡ suc (length xs + n) = omega arith in
    ap (λ (k : ℕ). take k (x ∷ (xs ++ ys))) more ∙ ap (λ (t : List ℕ). x ∷ t) (take_past xs ys n)

drop_past : (xs ys : List ℕ) (n : ℕ) → drop (length xs + n) (xs ++ ys) ≡ drop n ys
drop_past [] ys n = ap (λ (k : ℕ). drop k ys) (omega arith)
drop_past (x ∷ xs) ys n =
    let more : suc (length xs) + n ≡ suc (length xs + n) = omega arith in
    ap (λ (k : ℕ). drop k (x ∷ (xs ++ ys))) more ∙ drop_past xs ys n

cut_part : (first p : ℕ) (xs : List ℕ) (cs : List (ℕ × ℕ)) (added : List ℕ) → length xs ≤ 252
    → drop p cs ≡ [] → CutPiece first xs cs added p (min (length added) (252 - length xs))
cut_part first p xs cs added part none =
    let all : take p cs ≡ cs = sym (append-nil (take p cs)) ∙ ap (λ (t : List (ℕ × ℕ)). take p cs ++ t) (sym none) ∙ take-append-drop p cs in
    let done = replaced_from first xs cs in
    let size : length done ≡ length xs = length-replaced first xs cs in
    let count : 252 ≡ length done + (252 - length xs) = omega (arith, size, part) in
    let room : min (252 - length xs) (length added) ≡ min (length added) (252 - length xs) = omega arith in
    record {
      here =
          ap (λ (n : ℕ). take n (done ++ added)) count ∙ take_past done added (252 - length xs)
          ∙ ap (λ (t : List ℕ). done ++ t) (sym (take_min (252 - length xs) added) ∙ ap (λ (n : ℕ). take n added) room)
          ∙ ap (λ (t : List ℕ). replaced_from first t cs ++ take (min (length added) (252 - length xs)) added) (sym (take_all 252 xs part))
          ∙ ap (λ (t : List (ℕ × ℕ)). replaced_from first (take 252 xs) t ++ take (min (length added) (252 - length xs)) added) (sym all);
      later =
          ap (λ (n : ℕ). drop n (done ++ added)) count ∙ drop_past done added (252 - length xs)
          ∙ sym (drop_min (252 - length xs) added) ∙ ap (λ (n : ℕ). drop n added) room
          ∙ ap (λ (t : List ℕ). t ++ drop (min (length added) (252 - length xs)) added) (sym nothing);
    }
  where
    nothing : replaced_from (first + 252) (drop 252 xs) (drop p cs) ≡ []
    nothing = ap (replaced_from (first + 252) (drop 252 xs)) none ∙ drop_all 252 xs part

-- one piece is done: its changes, and what is added where it isn't full
pub cut_piece : (first : ℕ) (xs : List ℕ) (cs : List (ℕ × ℕ)) (added : List ℕ) → AreChanges first (first + length xs) cs
    → CutPiece first xs cs added (prefix_len (below (first + 252)) cs) (min (length added) (252 - min 252 (length xs)))
cut_piece first xs cs added are =
    let cut = changes_cut first (first + length xs) (first + 252) cs (omega arith) are in
    let p = prefix_len (below (first + 252)) cs in
    elim (cases_lt (length xs) 252) [
      | inl part ↦
          (let none : drop p cs ≡ [] = no_changes (first + 252) (first + length xs) (drop p cs) (omega (arith, part)) cut.1 in
          let room : 252 - min 252 (length xs) ≡ 252 - length xs = omega (arith, part) in
          rw room (cut_part first p xs cs added (omega (arith, part)) none))
      | inr full ↦
          (let end : min (first + 252) (first + length xs) ≡ first + 252 = omega (arith, full) in
          let none : min (length added) (252 - min 252 (length xs)) ≡ 0 = omega (arith, full) in
          rw none (cut_full first (first + length xs) p xs cs added (omega (arith, full)) (rw end at cut.0) cut.1))
    ]

changes_end : (first end : ℕ) (cs : List (ℕ × ℕ)) → AreChanges first end cs → AreChanges first (first + (end - first)) cs
changes_end first end cs are = elim (cases_lt first end) [
  | inl some ↦ (let same : end ≡ first + (end - first) = omega (arith, some) in subst (λ (n : ℕ). AreChanges first n cs) same are)
  | inr none ↦ (let empty : cs ≡ [] = no_changes first end cs none are in rw empty tt)
]

-- a piece of the edited pages, and what is still to be edited behind it
pub record PieceAt (k pages : ℕ) (xs ys : List ℕ) (cs : List (ℕ × ℕ)) (added : List ℕ) (p m : ℕ) : Type 0 where
  pub here : piece k ys ≡ replaced_from (252 * k) (piece k xs) (take p cs) ++ take m added
  pub later : drop (252 * (k + 1)) ys ≡ replaced_from (252 * (k + 1)) (drop (252 * (k + 1)) xs) (drop p cs) ++ drop m added

pub piece_at : (k pages : ℕ) (xs ys : List ℕ) (cs : List (ℕ × ℕ)) (added : List ℕ) → length xs ≡ pages → AreChanges (252 * k) pages cs
    → drop (252 * k) ys ≡ replaced_from (252 * k) (drop (252 * k) xs) cs ++ added
    → PieceAt k pages xs ys cs added (prefix_len (below (252 * (k + 1))) cs) (min (length added) (252 - used_in pages k))
piece_at k pages xs ys cs added size are rest =
    let first = 252 * k in
    let left = drop first xs in
    let next : first + 252 ≡ 252 * (k + 1) = omega arith in
    let left_size : length left ≡ pages - first = length-drop first xs ∙ ap (λ (n : ℕ). n - first) size in
    let within : AreChanges first (first + length left) cs
    = subst (λ (n : ℕ). AreChanges first (first + n) cs) (sym left_size) (changes_end first pages cs are) in
    let room : 252 - min 252 (length left) ≡ 252 - used_in pages k = ap (λ (n : ℕ). 252 - min 252 n) left_size in
    let cut : CutPiece first left cs added (prefix_len (below (252 * (k + 1))) cs) (min (length added) (252 - used_in pages k))
    = subst (λ (n : ℕ). CutPiece first left cs added (prefix_len (below n) cs) (min (length added) (252 - used_in pages k))) next
    (subst (λ (n : ℕ). CutPiece first left cs added (prefix_len (below (first + 252)) cs) (min (length added) n)) room (cut_piece first left cs added within)) in
    let p = prefix_len (below (252 * (k + 1))) cs in
    let m = min (length added) (252 - used_in pages k) in
    let behind : (zs : List ℕ) → drop 252 (drop first zs) ≡ drop (252 * (k + 1)) zs
    = λ zs. drop-drop 252 first zs ∙ ap (λ (n : ℕ). drop n zs) next in
    record {
      here = ap (take 252) rest ∙ cut.here;
      later =
          sym (behind ys) ∙ ap (drop 252) rest ∙ cut.later
          ∙ ap (λ (n : ℕ). replaced_from n (drop 252 left) (drop p cs) ++ drop m added) next
          ∙ ap (λ (t : List ℕ). replaced_from (252 * (k + 1)) t (drop p cs) ++ drop m added) (behind xs);
    }

pub length-edited : (xs : List ℕ) (cs : List (ℕ × ℕ)) (added : List ℕ) → length (edited xs cs added) ≡ length xs + length added
length-edited xs cs added = length-append (replaced_from 0 xs cs) added ∙ ap (λ (n : ℕ). n + length added) (length-replaced 0 xs cs)

pub edited_start : (xs : List ℕ) (cs : List (ℕ × ℕ)) (added : List ℕ)
    → drop (252 * 0) (edited xs cs added) ≡ replaced_from (252 * 0) (drop (252 * 0) xs) cs ++ added
edited_start xs cs added =
    let none : 252 * 0 ≡ 0 = omega arith in
    rw none refl

pub prefix_few : (mid : ℕ) (cs : List (ℕ × ℕ)) → prefix_len (below mid) cs ≤ length cs
prefix_few mid [] = omega arith
prefix_few mid (c ∷ cs) = elim (cases_lt c.0 mid) [
  | inl before ↦ (let rest = prefix_few mid cs in omega (arith, rest, prefix_hit mid c cs (lt-ltb c.0 mid before)))
  | inr past ↦ omega (arith, prefix_miss mid c cs (le-ltb c.0 mid (omega (arith, past))))
]
