-- Putting pieces behind those of an object, a page at a time.
use Rattle.std.proofs.Common.{◌≡◌, ◌<◌, ◌≤◌, ℕ, ◌+◌, ◌-◌, ◌*◌, ◌/◌, ◌%◌, min, max, inl, inr, List, [], ◌++◌, take, drop, append_assoc, append-nil, Option, Some, length, refl, sym, ap, ◌∙◌, arith}
use Rattle.std.specs.Option.{option_map}
use Rattle.std.proofs.Math.Nat.{mul-le-mul_left, zero-mod}
use Rattle.std.proofs.Math.Seq.{take-add}
use Rattle.std.proofs.lemmas.Bool.{cases_lt}
use Rattle.std.proofs.lemmas.List.{get_or_append_left, length-append, length-take, take_all, nil_from_length}
use Rattle.std.proofs.lemmas.Option.{get_or_from_slice_get}
use Rattle.iq_cells.specs.Pieces.{piece_in}
use Rattle.iq_pages.specs.Pages.{Pages, IsPageOf}
use Rattle.iq_pieces.specs.Counts.{per_page}
use Rattle.iq_pieces.specs.Objects.{piece_at, page_at, Holds, HoldsAnew, LoadsLast, AppendsBehind, AddsPage}

-- before the first page
pub behind_none : (w start n : ℕ) (last : List ℕ) (xs : List (List ℕ)) (told : Option Pages) → n ≡ 0 → AppendsBehind w start last (take n xs) told told
behind_none w start n last xs told none = λ pieces e begins h.
    let nothing : take n xs ≡ [] = ap (λ (k : ℕ). take k xs) none in
    rw (nothing, append-nil) h

-- behind the last page
pub behind_all : (w start n : ℕ) (last : List ℕ) (xs : List (List ℕ)) (told told' : Option Pages) → length xs ≤ n → AppendsBehind w start last (take n xs) told told' → AppendsBehind w start last xs told told'
behind_all w start n last xs told told' all p = rw take_all at p

module _ (w start p : ℕ) (xs : List (List ℕ)) (begins : per_page w * p < start + length xs) (ends : start < per_page w * p + per_page w) where
  -- where the page's first places are taken, it is the page behind which the first piece comes
  first_page : per_page w * p < start → start / per_page w ≤ p → p ≡ start / per_page w
  first_page less from =
      let some : 0 < per_page w = omega arith in
      elim (cases_lt (start / per_page w) p) [
        | inl past ↦ (let up : per_page w * (start / per_page w + 1) ≤ per_page w * p = mul-le-mul_left (per_page w) (omega arith) in absurd (omega arith))
        | inr there ↦ omega arith
      ]

  -- the pieces up to the end of the page
  joined : take (per_page w * p - start) xs ++ take (min (start + length xs) (per_page w * p + per_page w) - max start (per_page w * p)) (drop (max start (per_page w * p) - start) xs) ≡ take (per_page w * (p + 1) - start) xs
  joined =
      let n = min (start + length xs) (per_page w * p + per_page w) - max start (per_page w * p) in
      let d = per_page w * p - start in
      let from : max start (per_page w * p) - start ≡ d = omega arith in
      ap (λ (k : ℕ). take d xs ++ take n (drop k xs)) from ∙ sym (take-add d n xs)
      ∙ elim (cases_lt (start + length xs) (per_page w * p + per_page w)) [
        | inl short ↦ take_all (d + n) xs (omega arith) ∙ sym (take_all (per_page w * (p + 1) - start) xs (omega arith))
        | inr long ↦ (let same : d + n ≡ per_page w * (p + 1) - start = omega arith in ap (λ (k : ℕ). take k xs) same)
      ]

  -- one page more
  pub behind_next : (told between told' : Option Pages) (last page : List ℕ) → start / per_page w ≤ p → (p ≡ start / per_page w → page ≡ last) → AppendsBehind w start last (take (per_page w * p - start) xs) told between → AddsPage w p (max start (per_page w * p) - per_page w * p) page (take (min (start + length xs) (per_page w * p + per_page w) - max start (per_page w * p)) (drop (max start (per_page w * p) - start) xs)) between told' → AppendsBehind w start last (take (per_page w * (p + 1) - start) xs) told told'
  behind_next told between told' last page from is so_far adds = λ pieces e begins_as h.
      let some : 0 < per_page w = omega arith in
      let done = take (per_page w * p - start) xs in
      let size : length done ≡ per_page w * p - start = length-take (per_page w * p - start) xs ∙ (omega arith) in
      let long : length (pieces ++ done) ≡ per_page w * p + (max start (per_page w * p) - per_page w * p) = length-append pieces done ∙ (omega (arith, size)) in
      let starts : (j : ℕ) → j < max start (per_page w * p) - per_page w * p → piece_in w page j ≡ piece_at (per_page w * p + j) (pieces ++ done) = λ j less. (
      let at : p ≡ start / per_page w = first_page (omega arith) from in
      let up : per_page w * p ≡ per_page w * (start / per_page w) = ap (λ (k : ℕ). per_page w * k) at in
      let early : j < start % per_page w = omega arith in
      let within : per_page w * p + j < length pieces = omega arith in
      ap (λ (b : List ℕ). piece_in w b j) (is at) ∙ begins_as j early ∙ ap (λ (k : ℕ). piece_at (k + j) pieces) (sym up) ∙ sym (get_or_append_left pieces done [] (per_page w * p + j) within)) in
      let whole = adds (pieces ++ done) long starts (so_far pieces e begins_as h) in
      let same : (pieces ++ done) ++ take (min (start + length xs) (per_page w * p + per_page w) - max start (per_page w * p)) (drop (max start (per_page w * p) - start) xs) ≡ pieces ++ take (per_page w * (p + 1) - start) xs =
      append_assoc pieces done _ ∙ ap (λ (ys : List (List ℕ)). pieces ++ ys) joined in
      rw same at whole

-- a page that was read is the object's, so it begins as that does
pub loads_last : (w count : ℕ) (told : Option Pages) (page : List ℕ) → 0 < per_page w → IsPageOf told (count / per_page w) page → LoadsLast w count told page
loads_last w count told page some of = λ pieces e h j less.
    let loaded : page_at (count / per_page w) h.pages ≡ page = get_or_from_slice_get h.pages (count / per_page w) page [] (rw h.told_is at of) in
    let small : j < per_page w = omega arith in
    ap (λ (b : List ℕ). piece_in w b j) (sym loaded) ∙ h.holds.held (count / per_page w) j small (omega (arith, e))

-- where the pieces fill the last page, nothing of it is to be read
pub loads_none : (w count : ℕ) (told : Option Pages) (page : List ℕ) → count % per_page w ≡ 0 → LoadsLast w count told page
loads_none w count told page full = λ pieces e h j less. absurd (omega arith)

-- an object without pages holds no pieces
empty_holds : (w : ℕ) → 0 < per_page w → Holds w [] []
empty_holds w some = record {
  enough = omega arith;
  no_more = omega arith;
  held = λ p i h l. absurd (omega arith);
}

-- an object that was made anew holds what was put behind nothing
pub holds_anew : (w : ℕ) (last : List ℕ) (xs : List (List ℕ)) (told between told' : Option Pages) → 0 < per_page w → between ≡ option_map (λ (pages : Pages). []) told → AppendsBehind w 0 last xs between told' → HoldsAnew w xs told told'
holds_anew w last xs told between told' some is p = λ pages e.
    let anew : between ≡ Some [] = is ∙ ap (option_map (λ (ps : Pages). [])) e in
    p [] refl (λ j h. absurd (let none : 0 % per_page w ≡ 0 = zero-mod (per_page w) in omega arith)) (record { pages = []; told_is = anew; holds = empty_holds w some })

-- and nothing where nothing is put
pub nothing_behind : (w : ℕ) (last : List ℕ) (xs : List (List ℕ)) (told : Option Pages) → length xs ≡ 0 → AppendsBehind w 0 last xs told told
nothing_behind w last xs told none = λ pieces e begins h. rw (nil_from_length xs none, append-nil) h
