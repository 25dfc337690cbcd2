-- A header reads as it was written.
use Rattle.std.specs.Prelude.{◌≡◌, ◌⊎◌, ℕ, ◌+◌, ◌^◌, ◌<◌, Bool, true, false, ◌||◌, List, ◌++◌, length, drop, nat_eq, suc, [], ◌∷◌}
use Rattle.std.specs.List.{flat_map, All}
use Rattle.std.proofs.Common.{refl, ap, ◌∙◌, inl, inr, arith, lit<, append_assoc, length-append, sym}
use Rattle.std.proofs.Math.Seq.{drop-append-add}
use Rattle.std.proofs.lemmas.Bool.{eq-eqb}
use Rattle.byteorder.specs.Endian.{little_number}
use Rattle.byteorder.specs.Numbers.{little_number-reads_back, length-bytes_low_first}
use Rattle.iq_block_store.specs.Frames.{number_at, numbers_at, bytes_of, mark, map_kind, has_header, header, framed, payload_of}

pub length-bytes_of : (x : ℕ) → length (bytes_of x) ≡ 4
unfolding bytes_of
length-bytes_of x = length-bytes_low_first 0 4 x

-- a number that was written is read
pub number_at-bytes_of : (x : ℕ) (rest : List ℕ) → x < 2 ^ 32 → number_at (bytes_of x ++ rest) 0 ≡ x
unfolding number_at bytes_of
number_at-bytes_of x rest fits = little_number-reads_back 4 x rest fits

-- a number behind some bytes
pub number_at-append : (front rest : List ℕ) (n i : ℕ) → length front ≡ n → number_at (front ++ rest) (n + i) ≡ number_at rest i
unfolding number_at
number_at-append front rest n i size = rw (← size) (ap (little_number 4) (drop-append-add front rest i))

mark_fits : mark < 2 ^ 32
unfolding mark
mark_fits = lit< tt

pub length-header : (kind at level : ℕ) → length (header kind at level) ≡ 16
length-header kind at level = omega (
  arith,
  length-append (bytes_of mark ++ bytes_of kind) (bytes_of at ++ bytes_of level),
  length-append (bytes_of mark) (bytes_of kind),
  length-append (bytes_of at) (bytes_of level),
  length-bytes_of mark,
  length-bytes_of kind,
  length-bytes_of at,
  length-bytes_of level,
)

-- the parts of a block in order
parts : (kind at level : ℕ) (payload : List ℕ) → framed kind at level payload ≡ bytes_of mark ++ (bytes_of kind ++ (bytes_of at ++ (bytes_of level ++ payload)))
parts kind at level payload =
    append_assoc (bytes_of mark ++ bytes_of kind) (bytes_of at ++ bytes_of level) payload
    ∙ append_assoc (bytes_of mark) (bytes_of kind) ((bytes_of at ++ bytes_of level) ++ payload)
    ∙ ap (λ (t : List ℕ). bytes_of mark ++ (bytes_of kind ++ t)) (append_assoc (bytes_of at) (bytes_of level) payload)

framed_mark : (kind at level : ℕ) (payload : List ℕ) → number_at (framed kind at level payload) 0 ≡ mark
framed_mark kind at level payload = ap (λ (t : List ℕ). number_at t 0) (parts kind at level payload) ∙ number_at-bytes_of mark _ mark_fits

framed_kind : (kind at level : ℕ) (payload : List ℕ) → kind < 2 ^ 32 → number_at (framed kind at level payload) 4 ≡ kind
framed_kind kind at level payload fits =
    ap (λ (t : List ℕ). number_at t 4) (parts kind at level payload)
    ∙ number_at-append (bytes_of mark) _ 4 0 (length-bytes_of mark)
    ∙ number_at-bytes_of kind _ fits

framed_at : (kind at level : ℕ) (payload : List ℕ) → at < 2 ^ 32 → number_at (framed kind at level payload) 8 ≡ at
framed_at kind at level payload fits =
    ap (λ (t : List ℕ). number_at t 8) (parts kind at level payload)
    ∙ number_at-append (bytes_of mark) _ 4 4 (length-bytes_of mark)
    ∙ number_at-append (bytes_of kind) _ 4 0 (length-bytes_of kind)
    ∙ number_at-bytes_of at _ fits

pub framed_level : (kind at level : ℕ) (payload : List ℕ) → level < 2 ^ 32 → number_at (framed kind at level payload) 12 ≡ level
framed_level kind at level payload fits =
    ap (λ (t : List ℕ). number_at t 12) (parts kind at level payload)
    ∙ number_at-append (bytes_of mark) _ 4 8 (length-bytes_of mark)
    ∙ number_at-append (bytes_of kind) _ 4 4 (length-bytes_of kind)
    ∙ number_at-append (bytes_of at) _ 4 0 (length-bytes_of at)
    ∙ number_at-bytes_of level _ fits

or_true : (a b : Bool) → b ≡ true → (a || b) ≡ true
or_true true b set = refl
or_true false b set = set

-- the level test passes for a map, and for a level of 0
level_passes : (kind level : ℕ) → (kind ≡ map_kind) ⊎ (level ≡ 0) → (nat_eq kind map_kind || nat_eq level 0) ≡ true
level_passes kind level (inl map) = rw (eq-eqb kind map_kind map) refl
level_passes kind level (inr zero_level) = or_true (nat_eq kind map_kind) (nat_eq level 0) (eq-eqb level 0 zero_level)

-- a block reads as it was written: its header is right
pub has_header-framed : (kind at level : ℕ) (payload : List ℕ) → kind < 2 ^ 32 → at < 2 ^ 32 → level < 2 ^ 32
    → (kind ≡ map_kind) ⊎ (level ≡ 0) → has_header kind at (framed kind at level payload) ≡ true
has_header-framed kind at level payload kind_fits at_fits level_fits level_is =
    rw (
      framed_mark kind at level payload,
      framed_kind kind at level payload kind_fits,
      framed_at kind at level payload at_fits,
      framed_level kind at level payload level_fits,
      eq-eqb mark mark refl,
      eq-eqb kind kind refl,
      eq-eqb at at refl,
    )
    (level_passes kind level level_is)

-- the numbers of the payload
pub number_at-framed : (kind at level : ℕ) (payload : List ℕ) (i : ℕ) → number_at (framed kind at level payload) (16 + i) ≡ number_at payload i
number_at-framed kind at level payload i = number_at-append (header kind at level) payload 16 i (length-header kind at level)

-- what was put in is behind the header
pub payload_of-framed : (kind at level : ℕ) (payload : List ℕ) → payload_of (framed kind at level payload) ≡ payload
unfolding payload_of
payload_of-framed kind at level payload =
    let size : 16 ≡ length (header kind at level) + 0 = omega (arith, length-header kind at level) in
    ap (λ (n : ℕ). drop n (framed kind at level payload)) size
    ∙ drop-append-add (header kind at level) payload 0

-- numbers that were written one after the other are read
pub numbers_back : (block front rest xs : List ℕ) (i : ℕ) → All (λ x. x < 2 ^ 32) xs → block ≡ front ++ (flat_map bytes_of xs ++ rest)
    → length front ≡ i → numbers_at block i (length xs) ≡ xs
numbers_back block front rest [] i fit is size = refl
numbers_back block front rest (x ∷ xs) i fit is size =
    let split : block ≡ front ++ (bytes_of x ++ (flat_map bytes_of xs ++ rest))
    = is ∙ ap (λ (t : List ℕ). front ++ t) (append_assoc (bytes_of x) (flat_map bytes_of xs) rest) in
    let fits : x < 2 ^ 32 = fit 0 0 (omega arith) in
    let rest_fit : All (λ x. x < 2 ^ 32) xs = λ k d within. fit (suc k) d (omega (arith, within)) in
    let head : number_at block i ≡ x
    = ap (λ (t : List ℕ). number_at t i) split ∙ ap (number_at (front ++ (bytes_of x ++ (flat_map bytes_of xs ++ rest)))) (omega arith)
    ∙ number_at-append front _ i 0 size ∙ number_at-bytes_of x _ fits in
    let longer : length (front ++ bytes_of x) ≡ i + 4 = omega (arith, size, length-append front (bytes_of x), length-bytes_of x) in
    let rest_is : block ≡ (front ++ bytes_of x) ++ (flat_map bytes_of xs ++ rest) = split ∙ sym (append_assoc front (bytes_of x) (flat_map bytes_of xs ++ rest)) in
    ap (λ (m : ℕ). m ∷ numbers_at block (i + 4) (length xs)) head
    ∙ ap (λ (ms : List ℕ). x ∷ ms) (numbers_back block (front ++ bytes_of x) rest xs (i + 4) rest_fit rest_is longer)
