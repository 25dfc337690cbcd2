-- Taking in the pieces of an object, a page at a time.
use Rattle.std.proofs.Common.{◌≡◌, ◌<◌, ◌≤◌, ℕ, ◌+◌, ◌*◌, inl, inr, List, [], ◌++◌, Option, length, sym, ap, ◌∙◌, arith}
use Rattle.std.proofs.Math.Nat.{mul-le-mul_left}
use Rattle.std.proofs.lemmas.Bool.{cases_lt}
use Rattle.std.proofs.lemmas.List.{length-append, get_or_append_left, get_or-append-add}
use Rattle.std.proofs.lemmas.List.FromFn.{length-map-range_with_len, get_or-map-range_with_len}
use Rattle.iq_cells.specs.Pieces.{piece_in}
use Rattle.iq_pages.specs.Pages.{Pages}
use Rattle.iq_pieces.specs.Counts.{per_page}
use Rattle.iq_pieces.specs.Objects.{page_at, piece_at, pieces_in, AreFirst}
use Rattle.iq_pieces.specs.Reading.{TakesPage}

pub length-pieces_in : (w : ℕ) (page : List ℕ) (n : ℕ) → length (pieces_in w page n) ≡ n
unfolding pieces_in
length-pieces_in w page n = length-map-range_with_len (piece_in w page) 0 n

pub piece_at-pieces_in : (w : ℕ) (page : List ℕ) (n i : ℕ) → i < n → piece_at i (pieces_in w page n) ≡ piece_in w page i
unfolding pieces_in
piece_at-pieces_in w page n i h = get_or-map-range_with_len (piece_in w page) 0 n i i [] h (omega arith)

-- how many pieces there are then
pub taken_long : (told : Option Pages) (w p n : ℕ) (old new : List (List ℕ)) → TakesPage told w p n old new → length new ≡ length old + n
taken_long told w p n old new t = ap length t.more ∙ length-append old (pieces_in w t.page n) ∙ ap (λ k. length old + k) (length-pieces_in w t.page n)

-- a place behind p full pages and before the next is on page p
same_page : (per p q i n : ℕ) → i < per → n ≤ per → per * p ≤ per * q + i → per * q + i < per * p + n → q ≡ p
same_page per p q i n h l low high =
    elim (cases_lt q p) [
      | inl less ↦ (let up : per * (q + 1) ≤ per * p = mul-le-mul_left per (omega arith) in absurd (omega arith))
      | inr more ↦ elim (cases_lt p q) [
        | inl above ↦ (let up : per * (p + 1) ≤ per * q = mul-le-mul_left per (omega arith) in absurd (omega arith))
        | inr same ↦ omega arith
      ]
    ]

-- the next page
pub first_next : (told : Option Pages) (w p n : ℕ) (old new : List (List ℕ)) → n ≤ per_page w → length old ≡ per_page w * p → TakesPage told w p n old new → AreFirst told w old → AreFirst told w new
first_next told w p n old new fits long t first = λ pages is q i h b.
    let per = per_page w in
    let more = pieces_in w t.page n in
    let size : length new ≡ length old + n = taken_long told w p n old new t in
    sym (ap (piece_at (per * q + i)) t.more ∙ elim (cases_lt (per * q + i) (length old)) [
      | inl less ↦ get_or_append_left old more [] (per * q + i) less ∙ sym (first pages is q i h less)
      | inr behind ↦ (
          let same : q ≡ p = same_page per p q i n h fits (omega arith) (omega arith) in
          let up : per * q ≡ per * p = ap (λ k. per * k) same in
          let less : i < n = omega arith in
          let place : per * q + i ≡ length old + i = omega arith in
          ap (λ k. piece_at k (old ++ more)) place ∙ get_or-append-add old more i [] ∙ piece_at-pieces_in w t.page n i less
          ∙ ap (λ (b : List ℕ). piece_in w b i) (sym (ap (λ k. page_at k pages) same ∙ t.page_is pages is)))
    ])
