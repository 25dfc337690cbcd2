-- Sessions and report numbers stay single, and what holds of runs stays.
use Rattle.std.proofs.Common.{◌≡◌, ℕ, suc, ◌+◌, ◌==◌, ◌<◌, ◌≤◌, Bool, false, cond, not, List, [], ◌∷◌, ◌++◌, length, take, drop, refl, ap, arith}
use Rattle.std.specs.List.{All, count_by, filter, remove}
use Rattle.std.proofs.lemmas.List.Sums.{sum_by-cons, sum_by-set, sum_by-remove, sum_by_push}
use Rattle.std.proofs.lemmas.List.Filters.{sum_by-filter_both}
use Rattle.std.proofs.lemmas.List.Elements.{All-append, All-take, All-drop, All-head, All-tail}
use Rattle.iq_world.specs.declared.worlds.World.{World}
use Rattle.iq_world.specs.declared.worlds.WorldRun.{WorldRun}
use Rattle.iq_world.specs.World.{run_place, run_of, no_run}
use Rattle.iq_world.specs.Steps.{with_private}
use Rattle.iq_world.proofs.Times.{as_one}

-- what holds of every element holds without one
pub All-remove : {X : Type 0} (P : X → Type 0) (xs : List X) (i : ℕ) → All P xs → All P (remove xs i)
All-remove P xs i h = All-append P (take i xs) (drop (suc i) xs) (All-take P i xs h) (All-drop P (suc i) xs h)

-- counts of what passes a test
pub count-push : {X : Type 0} (p : X → Bool) (xs : List X) (x : X) → count_by p (xs ++ x ∷ []) ≡ count_by p xs + as_one (p x)
count-push p xs x = sum_by_push (λ y. cond (p y) 1 0) xs x

pub count-remove : {X : Type 0} (p : X → Bool) (xs : List X) (i : ℕ) (d : X) → i < length xs → count_by p (remove xs i) ≤ count_by p xs
count-remove p xs i d h = omega (arith, sum_by-remove (λ y. cond (p y) 1 0) xs i d h)

pub count-filter : {X : Type 0} (p q : X → Bool) (xs : List X) → count_by p (filter q xs) ≤ count_by p xs
count-filter {X} p q xs = omega (arith, sum_by-filter_both q (λ (x : X). not (q x)) (λ _. refl) (λ y. cond (p y) 1 0) xs)

pub count-none : {X : Type 0} (p : X → Bool) (xs : List X) → All (λ x. p x ≡ false) xs → count_by p xs ≡ 0
count-none p [] h = refl
count-none {X} p (x ∷ xs) h =
    omega (arith, sum_by-cons (λ y. cond (p y) 1 0) x xs, ap as_one (All-head (λ (y : X). p y ≡ false) x xs h), count-none p xs (All-tail (λ (y : X). p y ≡ false) x xs h))

-- a session has as many runs with other private blocks
pub count-with_private : (w : World) (s t : ℕ) (xs : List ℕ) → run_place w s < length w.runs → count_by (λ (r : WorldRun). r.session == t) (with_private s xs w).runs ≡ count_by (λ (r : WorldRun). r.session == t) w.runs
count-with_private w s t xs h =
    omega (arith, sum_by-set (λ (r : WorldRun). cond (r.session == t) 1 0) w.runs (run_place w s) (record (run_of w s) { private = xs }) no_run h)
