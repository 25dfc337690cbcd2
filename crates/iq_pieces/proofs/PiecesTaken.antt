-- Cells and codes that come from a page are the pieces of that page.
use Rattle.std.proofs.Common.{◌≡◌, ◌<◌, ◌≤◌, ℕ, zero, suc, ◌+◌, ◌*◌, ◌/◌, ◌%◌, List, [], ◌∷◌, ◌++◌, map, length, drop, slice_index, inl, inr, ◌^◌, refl, sym, ap, ◌∙◌, arith}
use Rattle.std.specs.Int.{byte_at, bytes_low_first}
use Rattle.std.proofs.Math.Nat.{div-one, div-div-eq-div-mul, pow-suc, mul-le-mul_right, div-mul-le_self}
use Rattle.std.proofs.lemmas.Bool.{cases_lt}
use Rattle.std.proofs.lemmas.List.{ext_get_or, get_or_past, get_or-map, get_or-take, get_or-drop, length-map, map-append, length-append, length-take, length-drop, get_or_append_left, get_or_at}
use Rattle.std.proofs.lemmas.List.FromFn.{length-map-range_with_len, get_or-map-range_with_len, map-range_with_len_more}
use Rattle.byteorder.specs.Endian.{little_from, little_number, little_bytes}
use Rattle.byteorder.specs.Numbers.{little_from-cons}
use Rattle.iq_base.specs.declared.values.Kind.{Kind}
use Rattle.iq_base.specs.declared.values.Value.TheVariants.{Null}
use Rattle.iq_base.specs.Cells.{width, cell}
use Rattle.iq_cells.specs.Pieces.{piece_in}
use Rattle.iq_cells.specs.Packed.{Column, with_more, values_in, AreCells}
use Rattle.iq_cells.specs.Codes.{code_in, codes_in, codes_per_page}
use Rattle.iq_cells.proofs.PackedLaws.{length-values_in, value_at-values_in}
use Rattle.iq_pieces.specs.Objects.{pieces_in}
use Rattle.iq_pieces.specs.Codes.{AreBelow}
use Rattle.iq_pieces.proofs.PagesTaken.{length-pieces_in, piece_at-pieces_in}

-- the cells of the values of a page's first cells are these
cells_back : (kind : Kind) (page : List ℕ) (n : ℕ) → AreCells kind page n → map (cell kind) (values_in kind page n) ≡ pieces_in (width kind) page n
cells_back kind page n cells =
    ext_get_or [] (map (cell kind) (values_in kind page n)) (pieces_in (width kind) page n)
    (length-map (values_in kind page n) (cell kind) ∙ length-values_in kind page n ∙ sym (length-pieces_in (width kind) page n))
    (λ i h.
    let long : length (map (cell kind) (values_in kind page n)) ≡ n = length-map (values_in kind page n) (cell kind) ∙ length-values_in kind page n in
    let less : i < n = omega arith in
    get_or-map (cell kind) (values_in kind page n) i Null [] (omega (arith, length-values_in kind page n))
    ∙ ap (cell kind) (value_at-values_in kind page n i less) ∙ (cells i less).bytes_are ∙ sym (piece_at-pieces_in (width kind) page n i less))

-- so a column that they come behind goes on with the pieces
pub cells_taken : (old new : Column) (page : List ℕ) (n : ℕ) → AreCells old.kind page n → new ≡ with_more old (values_in old.kind page n) → map (cell new.kind) new.values ≡ map (cell old.kind) old.values ++ pieces_in (width old.kind) page n
cells_taken old new page n cells is =
    ap (λ (c : Column). map (cell c.kind) c.values) is ∙ map-append (cell old.kind) old.values (values_in old.kind page n)
    ∙ ap (λ (ps : List (List ℕ)). map (cell old.kind) old.values ++ ps) (cells_back old.kind page n cells)

length-codes_in : (w : ℕ) (page : List ℕ) (n : ℕ) → length (codes_in w page n) ≡ n
unfolding codes_in
length-codes_in w page n = length-map-range_with_len (code_in w page) 0 n

code_at-codes_in : (w : ℕ) (page : List ℕ) (n i : ℕ) → i < n → slice_index (codes_in w page n) i ≡ code_in w page i
unfolding codes_in
code_at-codes_in w page n i h = get_or-map-range_with_len (code_in w page) 0 n i i 0 h (omega arith)

-- the codes of no pieces, and of one more
pub codes_none : (w : ℕ) (page : List ℕ) → codes_in w page 0 ≡ []
unfolding codes_in
codes_none w page = refl

pub codes_more : (w : ℕ) (page : List ℕ) (n : ℕ) → codes_in w page (n + 1) ≡ codes_in w page n ++ code_in w page n ∷ []
unfolding codes_in
codes_more w page n = map-range_with_len_more (code_in w page) 0 n n (omega arith)

-- a list of codes below a number with one more
pub below_push : (codes : List ℕ) (code below : ℕ) → AreBelow codes below → code < below → AreBelow (codes ++ code ∷ []) below
below_push codes code below are h = λ k l. elim (cases_lt k (length codes)) [
  | inl less ↦ (let e = get_or_append_left codes (code ∷ []) 0 k less in rw e (are k less))
  | inr more ↦ (let at : length codes ≡ k = omega (arith, length-append codes (code ∷ [])) in let e = get_or_at codes code [] 0 k at in rw e h)
]

-- a byte of a number, by its place
byte_at-pow : (k x : ℕ) → byte_at k x ≡ x / 256 ^ k % 256
byte_at-pow zero x = ap (λ (y : ℕ). y % 256) (sym (div-one x))
byte_at-pow (suc k) x = refl

-- the bytes of a number from place j on are those of what is left of it above the byte before
bytes_above : (k j x : ℕ) → bytes_low_first (suc j) k x ≡ bytes_low_first j k (x / 256)
bytes_above zero j x = refl
bytes_above (suc k) j x =
    let here : byte_at (suc j) x ≡ byte_at j (x / 256) =
    byte_at-pow (suc j) x ∙ ap (λ (p : ℕ). x / p % 256) (pow-suc 256 j ∙ (omega arith)) ∙ ap (λ (p : ℕ). p % 256) (sym (div-div-eq-div-mul x 256 (256 ^ j))) ∙ sym (byte_at-pow j (x / 256)) in
    ap (λ (b : ℕ). b ∷ bytes_low_first (suc (suc j)) k x) here ∙ ap (λ (bs : List ℕ). byte_at j (x / 256) ∷ bs) (bytes_above k (suc j) x)

-- the bytes of the number in bytes are these
bytes_back : (w : ℕ) (bytes : List ℕ) → length bytes ≡ w → ((k : ℕ) → slice_index bytes k < 256) → little_bytes w (little_number w bytes) ≡ bytes
bytes_back zero [] long fit = refl
bytes_back zero (b ∷ bs) long fit = absurd (omega arith)
bytes_back (suc w) [] long fit = absurd (omega arith)
bytes_back (suc w) (b ∷ bs) long fit =
    let small : b < 256 = fit 0 in
    let rest : little_from (suc zero) w (b ∷ bs) ≡ little_number w bs = little_from-cons 0 w b bs in
    let number : little_number (suc w) (b ∷ bs) ≡ b + 256 * little_number w bs = ap (λ (r : ℕ). b + 256 * r) rest in
    let low : byte_at 0 (b + 256 * little_number w bs) ≡ b = byte_at-pow 0 (b + 256 * little_number w bs) ∙ (omega arith) in
    let high : (b + 256 * little_number w bs) / 256 ≡ little_number w bs = omega arith in
    ap (little_bytes (suc w)) number
    ∙ ap (λ (x : ℕ). x ∷ bytes_low_first 1 w (b + 256 * little_number w bs)) low
    ∙ ap (λ (xs : List ℕ). b ∷ xs) (bytes_above w 0 (b + 256 * little_number w bs) ∙ ap (bytes_low_first 0 w) high ∙ bytes_back w bs (omega arith) (λ k. fit (suc k)))

-- a piece within the bytes
piece_fits : (w i n long : ℕ) → i < n → n ≤ long / w → i * w + w ≤ long
piece_fits w i n long h l =
    let up : (i + 1) * w ≤ long / w * w = mul-le-mul_right w (omega arith) in omega (arith, div-mul-le_self long w)

module _ (w : ℕ) (page : List ℕ) (n : ℕ) (whole : length page ≡ 1008) (fit : (k : ℕ) → slice_index page k < 256) (room : n ≤ codes_per_page w) where
  -- the bytes of a code of the page
  code_back : (i : ℕ) → i < n → little_bytes w (code_in w page i) ≡ piece_in w page i
  code_back i h =
      let within : i * w + w ≤ 1008 = piece_fits w i n 1008 h room in
      bytes_back w (piece_in w page i) (length-take w (drop (i * w) page) ∙ (omega (arith, length-drop (i * w) page)))
      (λ k. elim (cases_lt k w) [
        | inl less ↦ (let e = get_or-take w (drop (i * w) page) k 0 less ∙ get_or-drop (i * w) page k 0 in rw e (fit (i * w + k)))
        | inr past ↦ (let e = get_or_past (piece_in w page i) k 0 (omega (arith, length-take w (drop (i * w) page))) in rw e (omega arith))
      ])

  -- the bytes of the codes of the page's first pieces are these
  codes_back : map (little_bytes w) (codes_in w page n) ≡ pieces_in w page n
  codes_back =
      ext_get_or [] (map (little_bytes w) (codes_in w page n)) (pieces_in w page n)
      (length-map (codes_in w page n) (little_bytes w) ∙ length-codes_in w page n ∙ sym (length-pieces_in w page n))
      (λ i h.
      let long : length (map (little_bytes w) (codes_in w page n)) ≡ n = length-map (codes_in w page n) (little_bytes w) ∙ length-codes_in w page n in
      let less : i < n = omega arith in
      get_or-map (little_bytes w) (codes_in w page n) i 0 [] (omega (arith, length-codes_in w page n))
      ∙ ap (little_bytes w) (code_at-codes_in w page n i less) ∙ code_back i less ∙ sym (piece_at-pieces_in w page n i less))

  -- so a list that they come behind goes on with the pieces
  pub codes_taken : (old new : List ℕ) → new ≡ old ++ codes_in w page n → map (little_bytes w) new ≡ map (little_bytes w) old ++ pieces_in w page n
  codes_taken old new is =
      ap (map (little_bytes w)) is ∙ map-append (little_bytes w) old (codes_in w page n)
      ∙ ap (λ (ps : List (List ℕ)). map (little_bytes w) old ++ ps) codes_back
