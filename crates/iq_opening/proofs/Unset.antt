-- Free blocks put into a list one after the other.
use Rattle.std.specs.Prelude.{◌≡◌, ℕ, suc, ◌+◌, ◌<◌, ◌≤◌, Bool, true, false, List, [], ◌∷◌, ◌++◌, length, drop, slice_index_or, nat_lt, nat_eq}
use Rattle.std.specs.List.{All}
use Rattle.std.proofs.Common.{refl, sym, ap, ◌∙◌, arith, add-one, append_assoc, append-nil}
use Rattle.std.proofs.Math.Seq.{drop-cons}
use Rattle.std.proofs.lemmas.List.{drop_all}
use Rattle.std.proofs.lemmas.Bool.Decides.{nat_tests}
use Rattle.iq_free_list.specs.FreeList.{put}
use Rattle.iq_block_map.proofs.FrameLaws.{all_both, all_cons}
use Rattle.iq_opening.specs.Free.{unset_from}

-- a block behind all others is put at the end
pub put_last : (block : ℕ) (xs : List ℕ) → All (λ b. b < block) xs → put block xs ≡ xs ++ block ∷ []
put_last block [] below = refl
put_last block (x ∷ xs) below =
    let first : x < block = below 0 0 (omega arith) in
    let not_less : nat_lt block x ≡ false = grind (arith, nat_tests) in
    let not_same : nat_eq block x ≡ false = grind (arith, nat_tests) in
    let rest = put_last block xs (λ k d within. below (suc k) d (omega (arith, within))) in
    rw (not_less, not_same) (ap (λ (ys : List ℕ). x ∷ ys) rest)

pub below_more : (block : ℕ) (xs : List ℕ) → All (λ b. b < block) xs → All (λ b. b < block + 1) xs
below_more block xs below k d within = omega (arith, below k d within)

pub below_last : (block : ℕ) (xs ys : List ℕ) → All (λ b. b < block) xs → ys ≡ put block xs → All (λ b. b < block + 1) ys
below_last block xs ys below is =
    rw (is, put_last block xs below)
    (all_both (λ b. b < block + 1) xs (block ∷ []) (below_more block xs below)
    (all_cons (λ b. b < block + 1) block [] (omega arith) (λ k d within. absurd (omega (arith, within)))))

pub unset_set : (bits : List Bool) (i : ℕ) → i < length bits → slice_index_or bits i false ≡ true
    → unset_from i (drop i bits) ≡ unset_from (i + 1) (drop (i + 1) bits)
unset_set bits i within set =
    ap (unset_from i) (drop-cons bits i false within)
    ∙ (ap (λ (b : Bool). unset_from i (b ∷ drop (suc i) bits)) set ∙ ap (λ (n : ℕ). unset_from (i + 1) (drop n bits)) (sym (add-one i)))

pub unset_free : (bits : List Bool) (i : ℕ) → i < length bits → slice_index_or bits i false ≡ false
    → unset_from i (drop i bits) ≡ i ∷ unset_from (i + 1) (drop (i + 1) bits)
unset_free bits i within clear =
    ap (unset_from i) (drop-cons bits i false within)
    ∙ (ap (λ (b : Bool). unset_from i (b ∷ drop (suc i) bits)) clear ∙ ap (λ (n : ℕ). i ∷ unset_from (i + 1) (drop n bits)) (sym (add-one i)))

pub free_on : (bits : List Bool) (i : ℕ) (old new whole : List ℕ) → i < length bits → slice_index_or bits i false ≡ false
    → All (λ b. b < i) old → new ≡ put i old → old ++ unset_from i (drop i bits) ≡ whole
    → new ++ unset_from (i + 1) (drop (i + 1) bits) ≡ whole
free_on bits i old new whole within clear below is so_far =
    ap (λ (xs : List ℕ). xs ++ unset_from (i + 1) (drop (i + 1) bits)) (is ∙ put_last i old below)
    ∙ (append_assoc old (i ∷ []) (unset_from (i + 1) (drop (i + 1) bits))
    ∙ (ap (λ (xs : List ℕ). old ++ xs) (sym (unset_free bits i within clear)) ∙ so_far))

pub free_end : (bits : List Bool) (i : ℕ) (old whole : List ℕ) → length bits ≤ i → old ++ unset_from i (drop i bits) ≡ whole → old ≡ whole
free_end bits i old whole past so_far =
    sym (append-nil old) ∙ (ap (λ (bs : List Bool). old ++ unset_from i bs) (sym (drop_all i bits past)) ∙ so_far)
