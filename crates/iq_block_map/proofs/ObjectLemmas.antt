-- The walk over an object's leaves, one leaf at a time.
use Rattle.std.specs.Prelude.{◌≡◌, ℕ, ◌+◌, ◌*◌, ◌-◌, ◌<◌, ◌≤◌, Bool, List, [], ◌++◌, length, drop, slice_index, Result, Ok, Err}
use Rattle.std.proofs.Common.{refl, sym, ap, ◌∙◌, arith, append_assoc, append-nil}
use Rattle.std.proofs.lemmas.List.{drop_more, drop_all}
use Rattle.iq_block_map.specs.Objects.{used_in, map_at, joined, front, listed}

pub joined-ok-err : (xs : List ℕ) (r : Result (List ℕ) ℕ) (b : ℕ) → r ≡ Err b → joined (Ok xs) r ≡ Err b
joined-ok-err xs r b is = ap (joined (Ok xs)) is

pub joined-nil : (r : Result (List ℕ) ℕ) → joined (Ok []) r ≡ r
joined-nil (Ok ys) = refl
joined-nil (Err b) = refl

pub joined_assoc : (xs ys : List ℕ) (r : Result (List ℕ) ℕ) → joined (Ok (xs ++ ys)) r ≡ joined (Ok xs) (joined (Ok ys) r)
joined_assoc xs ys (Ok zs) = ap Ok (append_assoc xs ys zs)
joined_assoc xs ys (Err b) = refl

-- the next leaf of the walk is right: its pages come, and the others are still to be walked
pub listed_more : (maps : Bool) (all : List (List ℕ)) (pages k : ℕ) (leaves done named : List ℕ) → k < length leaves
    → map_at all 1 (used_in pages k) (slice_index leaves k) ≡ Ok named
    → joined (Ok (done ++ (front maps (slice_index leaves k) ++ named))) (listed maps all (pages - 252 * (k + 1)) (drop (k + 1) leaves))
    ≡ joined (Ok done) (listed maps all (pages - 252 * k) (drop k leaves))
listed_more maps all pages k leaves done named within is =
    let leaf = slice_index leaves k in
    let rest = listed maps all (pages - 252 * (k + 1)) (drop (k + 1) leaves) in
    let here : listed maps all (pages - 252 * k) (drop k leaves) ≡ joined (Ok (front maps leaf ++ named)) rest
    = ap (listed maps all (pages - 252 * k)) (drop_more leaves k 0 within)
    ∙ ap (λ (r : Result (List ℕ) ℕ). joined (joined (Ok (front maps leaf)) r) (listed maps all (pages - 252 * k - 252) (drop (k + 1) leaves))) is
    ∙ ap (λ (n : ℕ). joined (Ok (front maps leaf ++ named)) (listed maps all n (drop (k + 1) leaves))) (omega arith) in
    joined_assoc done (front maps leaf ++ named) rest ∙ ap (joined (Ok done)) (sym here)

-- the next leaf isn't right: the walk ends there
pub listed_stops : (maps : Bool) (all : List (List ℕ)) (pages k b : ℕ) (leaves done : List ℕ) → k < length leaves
    → map_at all 1 (used_in pages k) (slice_index leaves k) ≡ Err b
    → joined (Ok done) (listed maps all (pages - 252 * k) (drop k leaves)) ≡ Err b
listed_stops maps all pages k b leaves done within is =
    let leaf = slice_index leaves k in
    joined-ok-err done (listed maps all (pages - 252 * k) (drop k leaves)) b
    (ap (listed maps all (pages - 252 * k)) (drop_more leaves k 0 within)
    ∙ ap (λ (r : Result (List ℕ) ℕ). joined (joined (Ok (front maps leaf)) r) (listed maps all (pages - 252 * k - 252) (drop (k + 1) leaves))) is)

-- all leaves are walked
pub listed_all : (maps : Bool) (all : List (List ℕ)) (pages k : ℕ) (leaves done : List ℕ) → length leaves ≤ k
    → joined (Ok done) (listed maps all pages (drop k leaves)) ≡ Ok done
listed_all maps all pages k leaves done over =
    ap (λ (ls : List ℕ). joined (Ok done) (listed maps all pages ls)) (drop_all k leaves over) ∙ ap Ok (append-nil done)
