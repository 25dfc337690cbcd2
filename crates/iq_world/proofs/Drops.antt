-- Laws of what commits drop.
use Rattle.std.proofs.Common.{◌≡◌, ℕ, zero, suc, ◌+◌, ◌-◌, List, ◌++◌, sym, ap, ◌∙◌, append_assoc, append-nil, arith}
use Rattle.iq_world.specs.declared.worlds.Reach.{Reach}
use Rattle.iq_world.specs.World.{without}
use Rattle.iq_world.specs.Space.{reach_of, dropped, dropped_after}

-- what the commit after c dropped
pub dropped_next : (rs : List Reach) (c : ℕ) → dropped rs (c + 1) ≡ without (reach_of rs c) (reach_of rs (c + 1))
dropped_next rs c =
    let before : c + 1 - 1 ≡ c = omega arith in
    ap (λ (k : ℕ). without (reach_of rs k) (reach_of rs (c + 1))) before

-- what is dropped at m and then n commits is what is dropped at all of them
pub dropped_after-add : (rs : List Reach) (c m n : ℕ) → dropped_after rs c (m + n) ≡ dropped_after rs c m ++ dropped_after rs (c + m) n
dropped_after-add rs c zero n =
    let none : 0 + n ≡ n = omega arith in
    let here : c ≡ c + 0 = omega arith in
    ap (dropped_after rs c) none ∙ ap (λ (k : ℕ). dropped_after rs k n) here
dropped_after-add rs c (suc m) n =
    let next : suc m + n ≡ suc (m + n) = omega arith in
    let there : c + 1 + m ≡ c + suc m = omega arith in
    ap (dropped_after rs c) next ∙ ap (λ (xs : List ℕ). dropped rs (c + 1) ++ xs) (dropped_after-add rs (c + 1) m n)
    ∙ sym (append_assoc (dropped rs (c + 1)) (dropped_after rs (c + 1) m) (dropped_after rs (c + 1 + m) n))
    ∙ ap (λ (k : ℕ). (dropped rs (c + 1) ++ dropped_after rs (c + 1) m) ++ dropped_after rs k n) there

-- the same for one commit more
pub dropped_after-more : (rs : List Reach) (c k : ℕ) → dropped_after rs c (suc k) ≡ dropped_after rs c k ++ dropped rs (c + k + 1)
dropped_after-more rs c k =
    let one : suc k ≡ k + 1 = omega arith in
    ap (dropped_after rs c) one ∙ dropped_after-add rs c k 1 ∙ ap (λ (xs : List ℕ). dropped_after rs c k ++ xs) (append-nil _)
