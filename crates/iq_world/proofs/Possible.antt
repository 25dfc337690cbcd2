-- What the tests of a possible step say.
use Rattle.std.proofs.Common.{◌≡◌, ℕ, ◌+◌, ◌==◌, ◌<◌, ◌≤◌, Bool, true, false, cond, not, ◌&&◌, List, [], ◌∷◌, length, refl, ap, arith}
use Rattle.std.specs.List.{count_by, position_or_len}
use Rattle.std.proofs.lemmas.List.Sums.{sum_by-cons, passes_at_first}
use Rattle.std.proofs.lemmas.Bool.{ltb-true, ltb-false, eqb-true, and_parts, not-true}
use Rattle.iq_world.specs.declared.worlds.World.{World}
use Rattle.iq_world.specs.declared.worlds.WorldRun.{WorldRun}
use Rattle.iq_world.specs.World.{node_at, is_included, is_secondary, run_place, is_running, run_of, no_run}

-- both parts of a test pass
pub both : {a b : Bool} → (a && b) ≡ true → (a ≡ true) × (b ≡ true)
both {a} {b} h = and_parts a b h

pub not_true : {a : Bool} → not a ≡ true → a ≡ false
not_true {a} h = not-true a h

-- a node that isn't excluded
pub included_is : (w : World) (n : ℕ) → is_included w n ≡ true → (n < length w.nodes) × ((node_at w n).excluded ≡ false)
included_is w n h = let t = both h in (ltb-true n (length w.nodes) t.0, not_true t.1)

-- a secondary that isn't excluded
pub secondary_is : (w : World) (n : ℕ) → is_secondary w n ≡ true → (0 < n) × (n < length w.nodes) × ((node_at w n).excluded ≡ false)
secondary_is w n h = let t = both h in let i = included_is w n t.1 in (ltb-true 0 n t.0, i.0, i.1)

-- a session that runs has its run at its place
pub running_is : (w : World) (s : ℕ) → is_running w s ≡ true → run_place w s < length w.runs
running_is w s h = ltb-true (run_place w s) (length w.runs) h

-- where the first place that passes is past the end, none passes
pub none_counts : {X : Type 0} (p : X → Bool) (xs : List X) → length xs ≤ position_or_len p xs → count_by p xs ≡ 0
none_counts p [] h = refl
none_counts p (x ∷ xs) h =
    let P : Bool → Type 0 = λ t. p x ≡ t → length (x ∷ xs) ≤ cond (not t) (1 + position_or_len p xs) 0 → count_by p (x ∷ xs) ≡ 0 in
    (elim (p x) as P [
      | true ↦ λ e k. absurd (omega arith)
      | false ↦ λ e k. omega (arith, sum_by-cons (λ y. cond (p y) 1 0) x xs, ap (λ (t : Bool). let n : ℕ = cond t 1 0 in n) e, none_counts p xs (omega arith))
    ]) refl h

-- a session that doesn't run has no run
pub not_running_is : (w : World) (s : ℕ) → is_running w s ≡ false → count_by (λ (r : WorldRun). r.session == s) w.runs ≡ 0
not_running_is w s h = none_counts (λ (r : WorldRun). r.session == s) w.runs (ltb-false (run_place w s) (length w.runs) h)

-- the run at a session's place is of that session
pub run_session : (w : World) (s : ℕ) → run_place w s < length w.runs → ((run_of w s).session == s) ≡ true
run_session w s h = passes_at_first (λ (r : WorldRun). r.session == s) w.runs no_run h

-- a list without items
pub empty_is : (xs : List ℕ) → (length xs == 0) ≡ true → xs ≡ []
empty_is [] h = refl
empty_is (x ∷ xs) h = absurd (let n = eqb-true (length (x ∷ xs)) 0 h in omega arith)
