-- Blocks counted, and blocks of which all have a property.
use Rattle.std.specs.Prelude.{◌≡◌, ℕ, suc, ◌+◌, ◌<◌, ◌≤◌, ◌==◌, Bool, true, false, List, [], ◌∷◌, ◌++◌, length, cond, nat_eq, slice_index, slice_set}
use Rattle.std.specs.List.{All}
use Rattle.std.proofs.Common.{refl, sym, ap, ◌∙◌, inl, inr, arith, append_assoc}
use Rattle.std.proofs.lemmas.List.Sums.{sum_by-cons, sum_by-append, sum_by-set}
use Rattle.std.proofs.lemmas.Bool.{cases_eq, eq-eqb, ne_eqb}
use Rattle.iq_block_map.specs.Takers.{taken_of}
use Rattle.iq_block_map.specs.Laws.{times}
use Rattle.iq_block_map.proofs.FrameLaws.{all_cons}
use Rattle.iq_block_map.proofs.PutLemmas.{taken_front}
use Rattle.iq_objects.specs.Open.{Held, written, Moves}

pub times-cons : (b x : ℕ) (xs : List ℕ) → times b (x ∷ xs) ≡ cond (x == b) 1 0 + times b xs
times-cons b x xs = sum_by-cons (λ y. cond (y == b) 1 0) x xs

pub times-append : (b : ℕ) (xs ys : List ℕ) → times b (xs ++ ys) ≡ times b xs + times b ys
times-append b xs ys = sum_by-append (λ y. cond (y == b) 1 0) xs ys

pub times-set : (b : ℕ) (xs : List ℕ) (i y : ℕ) → i < length xs
    → times b (slice_set xs i y) + cond (slice_index xs i == b) 1 0 ≡ times b xs + cond (y == b) 1 0
times-set b xs i y within = sum_by-set (λ y. cond (y == b) 1 0) xs i y 0 within

-- zeros among blocks stand for none
pub times_written : (b : ℕ) (xs : List ℕ) → 1 ≤ b → times b (written xs) ≡ times b xs
times_written b [] some = refl
times_written b (x ∷ xs) some = elim (cases_eq x 0) [
  | inl none ↦
      (let here : nat_eq x 0 ≡ true = eq-eqb x 0 none in
      let other : (x == b) ≡ false = ne_eqb x b (λ is. cc_no b x some none is) in
      let rest = times_written b xs some in
      rw here (omega (arith, rest, times-cons b x xs, ap {B = ℕ} (λ (t : Bool). cond t 1 0) other)))
  | inr block ↦
      (let here : nat_eq x 0 ≡ false = ne_eqb x 0 block in
      let rest = times_written b xs some in
      rw here (omega (arith, rest, times-cons b x xs, times-cons b x (written xs))))
]
  where
    cc_no : (b x : ℕ) → 1 ≤ b → x ≡ 0 → x ≡ b → ⊥
    cc_no b x some none is = omega (arith, some, none, is)

pub all_written : (P : ℕ → Type 0) (xs : List ℕ) → All P xs → All P (written xs)
all_written P [] each = each
all_written P (x ∷ xs) each = elim (cases_eq x 0) [
  | inl none ↦ (let here : nat_eq x 0 ≡ true = eq-eqb x 0 none in rw here (all_written P xs (λ k d within. each (suc k) d (omega (arith, within)))))
  | inr block ↦
      (let here : nat_eq x 0 ≡ false = ne_eqb x 0 block in
      rw here (all_cons P x (written xs) (each 0 0 (omega arith)) (all_written P xs (λ k d within. each (suc k) d (omega (arith, within))))))
]

-- nothing was taken, and the blocks are the same
pub moves_none : (left : List ℕ) (o : Held) → Moves left left o o
moves_none left o b some =
    let none : taken_of left left ≡ [] = taken_front left [] left refl in
    omega (arith, ap (times b) none)

-- one change after another
pub moves_then : (before mid after : List ℕ) (old between new : Held) → before ≡ taken_of before mid ++ mid → mid ≡ taken_of mid after ++ after
    → Moves before mid old between → Moves mid after between new → Moves before after old new
moves_then before mid after old between new one two first second b some =
    let xs = taken_of before mid in
    let ys = taken_of mid after in
    let split : before ≡ (xs ++ ys) ++ after = one ∙ ap (λ (t : List ℕ). xs ++ t) two ∙ sym (append_assoc xs ys after) in
    let both : taken_of before after ≡ xs ++ ys = taken_front before (xs ++ ys) after split in
    omega (arith, first b some, second b some, ap (times b) both, times-append b xs ys)
