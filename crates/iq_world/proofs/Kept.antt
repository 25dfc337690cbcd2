-- What commits reach where one more is kept, and where the first ones aren't.
use Rattle.std.proofs.Common.{◌≡◌, ℕ, suc, zero, ◌+◌, ◌-◌, ◌==◌, ◌<◌, ◌≤◌, Bool, true, false, cond, nat_le, List, [], ◌∷◌, ◌++◌, map, refl, sym, ap, ◌∙◌, ⊎_elim, arith}
use Rattle.std.specs.List.{filter, range_with_len}
use Rattle.std.proofs.lemmas.Bool.{ne_eqb, eq-eqb, cases_lt}
use Rattle.std.proofs.lemmas.Bool.{le-leb, lt-leb}
use Rattle.iq_world.specs.declared.worlds.Reach.{Reach}
use Rattle.iq_world.specs.World.{times, holds}
use Rattle.iq_world.specs.Space.{reach_of, dropped, dropped_after}
use Rattle.iq_world.proofs.Drops.{dropped_next}
use Rattle.iq_world.proofs.Times.{times-append, held_times, times-without_unheld}

-- a commit that isn't the last reaches what it reached without that
pub reach_of-other : (rs : List Reach) (r : Reach) (c : ℕ) → (r.commit ≡ c → ⊥) → reach_of (rs ++ r ∷ []) c ≡ reach_of rs c
reach_of-other [] r c ne = ap (λ (t : Bool). cond t r.blocks []) (ne_eqb r.commit c ne)
reach_of-other (x ∷ rs) r c ne = ap (λ (bs : List ℕ). cond (x.commit == c) x.blocks bs) (reach_of-other rs r c ne)

-- the last reaches its blocks, where the others are those from b to the one before it
pub reach_of-last : (rs : List Reach) (r : Reach) (b n : ℕ) → map (λ (x : Reach). x.commit) rs ≡ range_with_len b n → r.commit ≡ b + n → reach_of (rs ++ r ∷ []) (b + n) ≡ r.blocks
reach_of-last [] r b n e h = ap (λ (t : Bool). cond t r.blocks []) (eq-eqb r.commit (b + n) h)
reach_of-last (x ∷ rs) r b zero e h = cc
reach_of-last (x ∷ rs) r b (suc n) e h =
    let first : x.commit ≡ b = cc in
    let rest : map (λ (y : Reach). y.commit) rs ≡ range_with_len (b + 1) n = cc in
    let there : b + 1 + n ≡ b + suc n = omega arith in
    let ne : x.commit ≡ b + suc n → ⊥ = λ k. omega arith in
    ap (λ (t : Bool). cond t x.blocks (reach_of (rs ++ r ∷ []) (b + suc n))) (ne_eqb x.commit (b + suc n) ne)
    ∙ ap (reach_of (rs ++ r ∷ [])) (sym there) ∙ reach_of-last rs r (b + 1) n rest (h ∙ sym there)

-- a commit that is kept reaches what it reached
pub reach_of-kept : (rs : List Reach) (h c : ℕ) → h ≤ c → reach_of (filter (λ (r : Reach). nat_le h r.commit) rs) c ≡ reach_of rs c
reach_of-kept [] h c le = refl
reach_of-kept (x ∷ rs) h c le =
    let rest = reach_of-kept rs h c le in
    ⊎_elim
    (λ (k : x.commit < h).
    let ne : x.commit ≡ c → ⊥ = λ e. omega arith in
    rw (lt-leb h x.commit k, ne_eqb x.commit c ne) rest)
    (λ (k : h ≤ x.commit). rw (le-leb h x.commit k) (ap (λ (bs : List ℕ). cond (x.commit == c) x.blocks bs) rest))
    (cases_lt x.commit h)

-- lists that agree on what commits reach agree on what they drop
pub dropped_after-agree : (rs ss : List Reach) (c n : ℕ) → ((k : ℕ) → c ≤ k → k ≤ c + n → reach_of rs k ≡ reach_of ss k) → dropped_after rs c n ≡ dropped_after ss c n
dropped_after-agree rs ss c zero h = refl
dropped_after-agree rs ss c (suc n) h =
    let here : reach_of rs c ≡ reach_of ss c = h c (omega arith) (omega arith) in
    let next : reach_of rs (c + 1) ≡ reach_of ss (c + 1) = h (c + 1) (omega arith) (omega arith) in
    let one = dropped_next rs c in
    let other = dropped_next ss c in
    let rest : dropped_after rs (c + 1) n ≡ dropped_after ss (c + 1) n = dropped_after-agree rs ss (c + 1) n (λ k a b. h k (omega arith) (omega arith)) in
    cc

-- what a commit reaches, a later one reaches or it was dropped between
pub kept_or_dropped : (b : ℕ) (rs : List Reach) (c n : ℕ) → 0 < times b (reach_of rs c) → 0 < times b (reach_of rs (c + n)) + times b (dropped_after rs c n)
kept_or_dropped b rs c zero h =
    let same : c + 0 ≡ c = omega arith in rw same (omega arith)
kept_or_dropped b rs c (suc n) h =
    let more = times-append b (dropped rs (c + 1)) (dropped_after rs (c + 1) n) in
    let there : c + suc n ≡ c + 1 + n = omega arith in
    let P : Bool → Type 0 = λ t. holds (reach_of rs (c + 1)) b ≡ t → 0 < times b (reach_of rs (c + suc n)) + times b (dropped rs (c + 1) ++ dropped_after rs (c + 1) n) in
    (elim (holds (reach_of rs (c + 1)) b) as P [
      | true ↦ λ e. omega (arith, more, kept_or_dropped b rs (c + 1) n (held_times b _ e), ap (λ (k : ℕ). times b (reach_of rs k)) there)
      | false ↦ λ e. omega (arith, more, ap (times b) (dropped_next rs c), times-without_unheld b (reach_of rs c) _ e)
    ]) refl

-- the numbers of the kept commits
pub numbers-more : (b n : ℕ) → range_with_len b (suc n) ≡ range_with_len b n ++ (b + n) ∷ []
numbers-more b zero = let same : b ≡ b + 0 = omega arith in ap (λ (k : ℕ). k ∷ []) same
numbers-more b (suc n) =
    let there : b + 1 + n ≡ b + suc n = omega arith in
    ap (λ (xs : List ℕ). b ∷ xs) (numbers-more (b + 1) n ∙ ap (λ (k : ℕ). range_with_len (b + 1) n ++ k ∷ []) there)

commits-all : (rs : List Reach) (h b n : ℕ) → map (λ (r : Reach). r.commit) rs ≡ range_with_len b n → h ≤ b → map (λ (r : Reach). r.commit) (filter (λ (r : Reach). nat_le h r.commit) rs) ≡ range_with_len b n
commits-all [] h b n e l = e
commits-all (x ∷ rs) h b zero e l = cc
commits-all (x ∷ rs) h b (suc n) e l =
    let first : x.commit ≡ b = cc in
    let rest : map (λ (y : Reach). y.commit) rs ≡ range_with_len (b + 1) n = cc in
    let above : h ≤ x.commit = omega arith in
    let others = commits-all rs h (b + 1) n rest (omega arith) in
    rw (le-leb h x.commit above) (cc)

pub commits-kept : (rs : List Reach) (h b n : ℕ) → map (λ (r : Reach). r.commit) rs ≡ range_with_len b n → b ≤ h → h ≤ b + n → map (λ (r : Reach). r.commit) (filter (λ (r : Reach). nat_le h r.commit) rs) ≡ range_with_len h (b + n - h)
commits-kept [] h b zero e l m = let none : 0 ≡ b + 0 - h = omega arith in ap (range_with_len h) none
commits-kept [] h b (suc n) e l m = cc
commits-kept (x ∷ rs) h b zero e l m = cc
commits-kept (x ∷ rs) h b (suc n) e l m =
    let first : x.commit ≡ b = cc in
    let rest : map (λ (y : Reach). y.commit) rs ≡ range_with_len (b + 1) n = cc in
    ⊎_elim
    (λ (k : b < h).
    let there : b + 1 + n - h ≡ b + suc n - h = omega arith in
    let below : x.commit < h = omega arith in
    rw (lt-leb h x.commit below) (commits-kept rs h (b + 1) n rest (omega arith) (omega arith) ∙ ap (range_with_len h) there))
    (λ (k : h ≤ b).
    let same : h ≡ b = omega arith in
    let all : suc n ≡ b + suc n - h = omega arith in
    commits-all (x ∷ rs) h b (suc n) e k ∙ ap (λ (c : ℕ). range_with_len c (suc n)) (sym same) ∙ ap (range_with_len h) all)
    (cases_lt b h)
