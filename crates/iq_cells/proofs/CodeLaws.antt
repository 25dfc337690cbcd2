-- Codes in a page.
use Rattle.std.proofs.Common.{◌≡◌, ℕ, ◌+◌, ◌<◌, ◌^◌, List, [], ◌∷◌, ◌++◌, length, ap, ◌∙◌, refl, arith}
use Rattle.std.proofs.lemmas.List.FromFn.{map-range_with_len_more}
use Rattle.std.proofs.lemmas.List.{append_assoc, append-nil, length-append, nil_from_length}
use Rattle.byteorder.specs.Endian.{little_number, little_bytes}
use Rattle.byteorder.specs.Numbers.{little_number-reads_back, length-bytes_low_first}
use Rattle.iq_cells.specs.Pieces.{piece_in}
use Rattle.iq_cells.specs.Codes.{code_in, codes_in}

-- one code more
pub codes_in-more : (w : ℕ) (page : List ℕ) (n : ℕ) → codes_in w page (n + 1) ≡ codes_in w page n ++ code_in w page n ∷ []
unfolding codes_in
codes_in-more w page n = map-range_with_len_more (code_in w page) 0 n n (omega arith)

-- none
pub codes_in-none : (w : ℕ) (page : List ℕ) → codes_in w page 0 ≡ []
unfolding codes_in
codes_in-none w page = refl

-- a piece that holds the bytes of a code is that code
pub code_is : (w x code : ℕ) (page piece rest : List ℕ) (i : ℕ) → piece_in w page i ≡ piece → piece ≡ little_bytes w x ++ rest → x ≡ code → code < 256 ^ w → code_in w page i ≡ code
code_is w x code page piece rest i e is same h = ap (little_number w) (e ∙ is) ∙ ap (λ (y : ℕ). little_number w (little_bytes w y ++ rest)) same ∙ little_number-reads_back w code rest h

-- bytes that begin with those of a code, and are no more, are those
pub whole_bytes : (w x code : ℕ) (rest piece : List ℕ) → piece ≡ little_bytes w x ++ rest → x ≡ code → length piece ≡ w → piece ≡ little_bytes w code
whole_bytes w x code rest piece is same long =
    let none : length rest ≡ 0 = omega (arith, ap length is, length-append (little_bytes w x) rest, length-bytes_low_first 0 w x) in
    is ∙ ap (λ (r : List ℕ). little_bytes w x ++ r) (nil_from_length rest none) ∙ append-nil (little_bytes w x) ∙ ap (little_bytes w) same

-- the steps of a loop over the codes of a page
pub ruleset code_steps = (codes_in-more, codes_in-none, append_assoc, append-nil)
