-- The bytes of a page and the words that they make, bit by bit.
use Rattle.std.proofs.Common.{ℕ, zero, suc, ◌+◌, ◌-◌, ◌*◌, ◌/◌, ◌%◌, ◌^◌, ◌<◌, ◌≤◌, ◌≡◌, ◌==◌, List, ◌++◌, length, get_or, take, drop, replicate, w64, sym, ap, ap₂, ◌∙◌, inl, inr, arith, div-add-mod'}
use Rattle.std.proofs.lemmas.Nat.Bits.{bit_at_cat_low}
use Rattle.std.proofs.lemmas.Bool.{cases_lt}
use Rattle.std.proofs.lemmas.List.{get_or_past, get_or_append_left, get_or-append_right, get_or-take, length-take-le, length-replicate}
use Rattle.std.proofs.lemmas.Simd.{put_chunk_is, get_or-put_chunk_below, get_or-put_chunk_at}
use Rattle.std.specs.Int.{bit_at, to_le_bytes}
use Rattle.std.specs.Simd.Lanes.{put_chunk}
use Rattle.iq_bitmap.specs.Bits.{bit_of}
use Rattle.iq_bitmap.proofs.BitLists.{zero_word}
use Rattle.iq_bitmap.proofs.FirstBit.{moved}
use borrow.Rule.Slice.PartMut.{put_mid}

-- a write to a part of a slice
pub put_mid_is : (at k : ℕ) (xs new bytes : List ℕ) → new ≡ bytes → length bytes ≡ k → at + k ≤ length xs → put_mid at k xs new ≡ put_chunk at xs bytes
put_mid_is at k xs new bytes same long room =
    ap₂ (λ (ys : List ℕ) (n : ℕ). take at xs ++ (ys ++ drop n (drop at xs))) same (sym long)
    ∙ sym (put_chunk_is at xs bytes (omega arith))

-- a bit of the byte that stands p bits up in a number
byte_bit : (n p t : ℕ) → t < 8 → bit_at (n / 2 ^ p % 256) t ≡ bit_at n (p + t)
byte_bit n p t h =
    let q = n / 2 ^ p in
    sym (bit_at_cat_low (q / 256) 8 (q % 256) t h) ∙ ap (λ (x : ℕ). bit_at x t) (div-add-mod' q 256) ∙ moved n p t

-- a bit of one of a word's bytes
pub byte_of_word : (n j t : ℕ) → j < 8 → t < 8 → bit_at (get_or (to_le_bytes w64 n) j 0) t ≡ bit_at n (j * 8 + t)
byte_of_word n zero t _ h =
    let whole : n ≡ n / 1 = omega arith in
    ap (λ (x : ℕ). bit_at (x % 256) t) whole ∙ byte_bit n 0 t h
byte_of_word n (suc zero) t _ h = byte_bit n 8 t h
byte_of_word n (suc (suc zero)) t _ h = byte_bit n 16 t h
byte_of_word n (suc (suc (suc zero))) t _ h = byte_bit n 24 t h
byte_of_word n (suc (suc (suc (suc zero)))) t _ h = byte_bit n 32 t h
byte_of_word n (suc (suc (suc (suc (suc zero))))) t _ h = byte_bit n 40 t h
byte_of_word n (suc (suc (suc (suc (suc (suc zero)))))) t _ h = byte_bit n 48 t h
byte_of_word n (suc (suc (suc (suc (suc (suc (suc zero))))))) t _ h = byte_bit n 56 t h
byte_of_word n (suc (suc (suc (suc (suc (suc (suc (suc j)))))))) t far h = absurd (omega (arith, far))

-- byte b of the words from `at` on
pub byte_of : List ℕ → ℕ → ℕ → ℕ
byte_of words at b = get_or (to_le_bytes w64 (get_or words (at + b / 8) 0)) (b % 8) 0

-- the first bytes of a page are those of the words from `at` on
pub HasBytes : List ℕ → ℕ → List ℕ → ℕ → Type 0
HasBytes words at page n = (b : ℕ) → b < n → get_or page b 0 ≡ byte_of words at b

pub no_bytes : (words : List ℕ) (at : ℕ) (page : List ℕ) → HasBytes words at page 0
unfolding HasBytes
no_bytes words at page b h = absurd (omega arith)

-- one more word is stored
pub store_more : (words : List ℕ) (at : ℕ) (page new : List ℕ) (k : ℕ) → k * 8 + 8 ≤ length page → new ≡ put_chunk (k * 8) page (to_le_bytes w64 (get_or words (at + k) 0)) → HasBytes words at page (k * 8) → HasBytes words at new ((k + 1) * 8)
unfolding HasBytes byte_of
store_more words at page new k room is done b h = elim (cases_lt b (k * 8)) [
  | inl before ↦ ap (λ (p : List ℕ). get_or p b 0) is ∙ get_or-put_chunk_below (k * 8) page (to_le_bytes w64 (get_or words (at + k) 0)) b 0 before ∙ done b before
  | inr here ↦
      let d = b - k * 8 in
      let place : k * 8 + d ≡ b = omega arith in
      let word : at + k ≡ at + b / 8 = omega arith in
      let byte : d ≡ b % 8 = omega arith in
      ap (λ (p : List ℕ). get_or p b 0) is
      ∙ ap (λ (j : ℕ). get_or (put_chunk (k * 8) page (to_le_bytes w64 (get_or words (at + k) 0))) j 0) (sym place)
      ∙ get_or-put_chunk_at (k * 8) page (to_le_bytes w64 (get_or words (at + k) 0)) d 0 (omega arith) room
      ∙ ap₂ (λ (w j : ℕ). get_or (to_le_bytes w64 (get_or words w 0)) j 0) word byte
]

-- past the words each byte is zero
byte_of_past : (words : List ℕ) (at b : ℕ) → length words ≤ at + b / 8 → byte_of words at b ≡ 0
unfolding byte_of
byte_of_past words at b h = ap (λ (w : ℕ). get_or (to_le_bytes w64 w) (b % 8) 0) (get_or_past words (at + b / 8) 0 h) ∙ zero_word 8 (b % 8)

-- the rest of the page is zero, where there are no more words
pub store_rest : (words : List ℕ) (at : ℕ) (page zeros : List ℕ) (n front back : ℕ) → front + back ≡ n → front ≤ length page → zeros ≡ replicate back 0 → ((b : ℕ) → front ≤ b → b < n → length words ≤ at + b / 8) → HasBytes words at page front → HasBytes words at (put_mid front back page zeros) n
unfolding HasBytes
store_rest words at page zeros n front back whole room none past done b h =
    let start : length (take front page) ≡ front = length-take-le front page room in
    let rest = drop back (drop front page) in
    elim (cases_lt b front) [
      | inl before ↦ get_or_append_left (take front page) (zeros ++ rest) 0 b (omega (arith, start)) ∙ get_or-take front page b 0 before ∙ done b before
      | inr after ↦
          let within : b - front < length (replicate {A = ℕ} back 0) = omega (arith, length-replicate {A = ℕ} back 0) in
          get_or-append_right (take front page) (zeros ++ rest) front b 0 start after
          ∙ ap (λ (zs : List ℕ). get_or (zs ++ rest) (b - front) 0) none
          ∙ get_or_append_left (replicate back 0) rest 0 (b - front) within ∙ zero_word back (b - front)
          ∙ sym (byte_of_past words at b (past b after h))
    ]

-- a page with those bytes has the words' bits
pub bits_stored : (words : List ℕ) (at : ℕ) (page : List ℕ) (n i : ℕ) → HasBytes words at page n → i < n * 8 → bit_of 8 page i ≡ bit_of 64 words (at * 64 + i)
unfolding HasBytes byte_of
bits_stored words at page n i done h =
    let b = i / 8 in
    let word : at + b / 8 ≡ (at * 64 + i) / 64 = omega arith in
    let place : b % 8 * 8 + i % 8 ≡ (at * 64 + i) % 64 = omega arith in
    ap (λ (x : ℕ). bit_at x (i % 8) == 1) (done b (omega arith))
    ∙ ap (λ (x : ℕ). x == 1) (byte_of_word (get_or words (at + b / 8) 0) (b % 8) (i % 8) (omega arith) (omega arith))
    ∙ ap₂ (λ (w j : ℕ). bit_at (get_or words w 0) j == 1) word place
