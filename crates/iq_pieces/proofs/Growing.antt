-- An object whose next page is filled holds more pieces.
use Rattle.std.proofs.Common.{◌≡◌, ◌<◌, ◌≤◌, ℕ, ◌+◌, ◌-◌, ◌*◌, min, max, inl, inr, List, [], ◌++◌, take, drop, Option, length, ap, sym, ◌∙◌, arith}
use Rattle.std.proofs.Math.Nat.{mul-le-mul_left}
use Rattle.std.proofs.lemmas.Bool.{cases_lt}
use Rattle.std.proofs.lemmas.List.{length-append, length-take, length-drop, get_or_append_left, get_or-append-add, get_or-take, get_or-drop}
use Rattle.iq_cells.specs.Pieces.{piece_in}
use Rattle.iq_pages.specs.Pages.{Pages}
use Rattle.iq_pieces.specs.Counts.{per_page}
use Rattle.iq_pieces.specs.Objects.{page_at, piece_at, Holds, put_page, SavesPage, AddsPage}
use Rattle.iq_pieces.proofs.PutPage.{put_here, put_before, put_length}

-- page p of an object is filled on: its first pieces stay, and more stand behind them
pub record Grows (w : ℕ) (pages : Pages) (pieces more : List (List ℕ)) (p first : ℕ) (page : List ℕ) : Type 0 where
  pub holds : Holds w pages pieces
  pub long : length pieces ≡ per_page w * p + first
  pub fits : first + length more ≤ per_page w
  pub some : 0 < length more
  pub before : (j : ℕ) → j < first → piece_in w page j ≡ piece_at (per_page w * p + j) pieces
  pub here : (k : ℕ) → k < length more → piece_in w page (first + k) ≡ piece_at k more

module _ (w : ℕ) (pages : Pages) (pieces more : List (List ℕ)) (p first : ℕ) (page : List ℕ) (gr : Grows w pages pieces more p first page) where
  -- the object reaches up to that page, and no further
  reaches : (p ≤ length pages) × (length pages ≤ p + 1)
  reaches = (
    elim (cases_lt (length pages) p) [
      | inl past ↦ (let up : per_page w * (length pages + 1) ≤ per_page w * p = mul-le-mul_left (per_page w) (omega arith) in absurd (omega (arith, gr.holds.enough, gr.long, gr.fits, gr.some)))
      | inr there ↦ there
    ],
    elim (cases_lt (p + 1) (length pages)) [
      | inl past ↦ (let up : per_page w * (p + 2) ≤ per_page w * length pages = mul-le-mul_left (per_page w) (omega arith) in absurd (omega (arith, gr.holds.no_more, gr.long, gr.fits, gr.some)))
      | inr there ↦ there
    ],
  )

  -- a piece of the old ones
  old_piece : (i : ℕ) → i < length pieces → piece_at i (pieces ++ more) ≡ piece_at i pieces
  old_piece i h = get_or_append_left pieces more [] i h

  -- a piece of an earlier page
  piece_below : (q i : ℕ) → i < per_page w → q < p → piece_in w (page_at q (put_page p page pages)) i ≡ piece_at (per_page w * q + i) (pieces ++ more)
  piece_below q i small below =
      let up : per_page w * (q + 1) ≤ per_page w * p = mul-le-mul_left (per_page w) (omega arith) in
      let less : per_page w * q + i < length pieces = omega (arith, gr.long) in
      let there : p ≤ length pages = reaches.0 in
      rw (old_piece (per_page w * q + i) less, put_before pages p q page there below) (gr.holds.held q i small less)

  -- a piece of the page itself
  piece_here : (i : ℕ) → i < first + length more → piece_in w page i ≡ piece_at (per_page w * p + i) (pieces ++ more)
  piece_here i h = elim (cases_lt i first) [
    | inl early ↦ (let less : per_page w * p + i < length pieces = omega (arith, gr.long) in rw (old_piece (per_page w * p + i) less) (gr.before i early))
    | inr late ↦ (
        let k : first + (i - first) ≡ i = omega arith in
        let place : length pieces + (i - first) ≡ per_page w * p + i = omega (arith, gr.long) in
        ap (piece_in w page) (sym k) ∙ gr.here (i - first) (omega arith) ∙ sym (get_or-append-add pieces more (i - first) []) ∙ ap (λ (n : ℕ). piece_at n (pieces ++ more)) place)
  ]

  -- each piece
  piece_grown : (q i : ℕ) → i < per_page w → per_page w * q + i < length (pieces ++ more) → piece_in w (page_at q (put_page p page pages)) i ≡ piece_at (per_page w * q + i) (pieces ++ more)
  piece_grown q i small less =
      elim (cases_lt q p) [
        | inl below ↦ piece_below q i small below
        | inr from ↦ elim (cases_lt p q) [
          | inl above ↦ (let up : per_page w * (p + 1) ≤ per_page w * q = mul-le-mul_left (per_page w) (omega arith) in absurd (omega (arith, gr.long, gr.fits, length-append pieces more)))
          | inr to ↦ (
              let same : q ≡ p = omega arith in
              let less_here : per_page w * p + i < length (pieces ++ more) = rw (← same) less in
              let there : p ≤ length pages = reaches.0 in
              rw (same, put_here pages p page there) (piece_here i (omega (arith, gr.long, length-append pieces more))))
        ]
      ]

  -- so the object holds them all
  pub grown : Holds w (put_page p page pages) (pieces ++ more)
  grown =
      let there : p ≤ length pages = reaches.0 in
      let count : length (put_page p page pages) ≡ p + 1 = put_length pages p page there ∙ (omega (arith, reaches.1)) in
      let up : per_page w * length (put_page p page pages) ≡ per_page w * p + per_page w = ap (λ (n : ℕ). per_page w * n) count ∙ (omega arith) in
      record {
        enough = omega (arith, length-append pieces more, gr.long, gr.fits);
        no_more = omega (arith, length-append pieces more, gr.long, gr.some);
        held = piece_grown;
      }

-- pieces that stand somewhere in a list
taken_at : (from n k : ℕ) (xs : List (List ℕ)) → k < n → piece_at k (take n (drop from xs)) ≡ piece_at (from + k) xs
taken_at from n k xs h = get_or-take n (drop from xs) k [] h ∙ get_or-drop from xs k []

-- a page that was filled on and saved adds the pieces
pub adds_page : (w p first from m : ℕ) (told told' : Option Pages) (loaded page : List ℕ) (xs : List (List ℕ)) → first + m ≤ per_page w → 0 < m → from + m ≤ length xs → ((j : ℕ) → j < first → piece_in w page j ≡ piece_in w loaded j) → ((k : ℕ) → k < m → piece_in w page (first + k) ≡ piece_at (from + k) xs) → SavesPage p page told told' → AddsPage w p first loaded (take m (drop from xs)) told told'
adds_page w p first from m told told' loaded page xs fits some within before here saves = λ pieces long begins h.
    let more = take m (drop from xs) in
    let size : length more ≡ m = length-take m (drop from xs) ∙ (omega (arith, length-drop from xs)) in
    let gr : Grows w h.pages pieces more p first page = record {
      holds = h.holds;
      long = long;
      fits = omega (arith, size);
      some = omega (arith, size);
      before = λ j less. before j less ∙ begins j less;
      here = λ k less. (let small : k < m = omega (arith, size) in here k small ∙ sym (taken_at from m k xs small));
    } in
    record {
      pages = put_page p page h.pages;
      told_is = saves h.pages h.told_is;
      holds = grown w h.pages pieces more p first page gr;
    }

-- the same of the pieces between the first of them and the page's end
pub adds_between : (w p start from to base : ℕ) (told told' : Option Pages) (loaded page : List ℕ) (xs : List (List ℕ)) → 0 < per_page w → base ≡ per_page w * p → from ≡ max start (per_page w * p) → to ≡ min (start + length xs) (per_page w * p + per_page w) → per_page w * p < start + length xs → start < per_page w * p + per_page w → 0 < length xs → ((j : ℕ) → j < from - base → piece_in w page j ≡ piece_in w loaded j) → ((k : ℕ) → k < to - from → piece_in w page (from - base + k) ≡ piece_at (from - start + k) xs) → SavesPage p page told told' → AddsPage w p (max start (per_page w * p) - per_page w * p) loaded (take (min (start + length xs) (per_page w * p + per_page w) - max start (per_page w * p)) (drop (max start (per_page w * p) - start) xs)) told told'
adds_between w p start from to base told told' loaded page xs room eb ef et begins ends some before here saves =
    let h = adds_page w p (from - base) (from - start) (to - from) told told' loaded page xs (omega arith) (omega arith) (omega arith) before here saves in
    rw (ef, et, eb) at h
