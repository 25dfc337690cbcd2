-- How often a number stands in lists that are made of others.
use Rattle.std.proofs.Common.{◌≡◌, ℕ, ◌+◌, ◌==◌, ◌<◌, ◌≤◌, Bool, true, false, cond, not, nat_lt, List, [], ◌∷◌, ◌++◌, length, take, drop, get_or, refl, sym, ap, ◌∙◌, ⊎_elim, arith}
use Rattle.std.specs.List.{flat_map, sum_by, position_or_len}
use Rattle.std.proofs.lemmas.List.Sums.{sum_by-cons, sum_by-append, sum_by-take-drop, sum_by-insert, sum_by-remove, prefix_len-le-length, passes_at_first}
use Rattle.std.proofs.lemmas.List.Edits.{length-insert}
use Rattle.std.proofs.lemmas.Bool.{eqb-true, false≢true}
use Rattle.std.proofs.lemmas.Bool.Decides.{eqb_tells}
use Rattle.iq_world.specs.World.{times, holds, without, put, put_all}
use Rattle.iq_world.specs.Steps.{less}

-- 1 where a test passes
abbrev pub as_one : Bool → ℕ
as_one t = cond t 1 0

pub as_one_le : (t : Bool) → as_one t ≤ 1
as_one_le true = omega arith
as_one_le false = omega arith

-- how often a number stands in the list of one
abbrev pub one : ℕ → ℕ → ℕ
one b x = as_one (x == b)

pub times-cons : (b x : ℕ) (xs : List ℕ) → times b (x ∷ xs) ≡ one b x + times b xs
times-cons b x xs = sum_by-cons (one b) x xs

pub times-append : (b : ℕ) (xs ys : List ℕ) → times b (xs ++ ys) ≡ times b xs + times b ys
times-append b xs ys = sum_by-append (one b) xs ys

pub times-take-drop : (b n : ℕ) (xs : List ℕ) → times b (take n xs) + times b (drop n xs) ≡ times b xs
times-take-drop b n xs = sum_by-take-drop (one b) xs n

pub times-flat_map : {X : Type 0} (f : X → List ℕ) (b : ℕ) (xs : List X) → times b (flat_map f xs) ≡ sum_by (λ x. times b (f x)) xs
times-flat_map f b [] = refl
times-flat_map f b (x ∷ xs) =
    times-append b (f x) (flat_map f xs) ∙ ap (λ (n : ℕ). times b (f x) + n) (times-flat_map f b xs)
    ∙ sym (sum_by-cons (λ y. times b (f y)) x xs)

-- a number that was put, and many
pub times-put : (b : ℕ) (xs : List ℕ) (y : ℕ) → times b (put xs y) ≡ times b xs + one b y
times-put b xs y = sum_by-insert (one b) xs (position_or_len (λ x. nat_lt y x) xs) y

pub times-put_all : (b : ℕ) (xs ys : List ℕ) → times b (put_all xs ys) ≡ times b xs + times b ys
times-put_all b xs [] = omega arith
times-put_all b xs (y ∷ ys) =
    omega (arith, times-put_all b (put xs y) ys, times-put b xs y, times-cons b y ys)

-- how long a list is with more numbers
pub length-put_all : (xs ys : List ℕ) → length (put_all xs ys) ≡ length xs + length ys
length-put_all xs [] = omega arith
length-put_all xs (y ∷ ys) =
    let at = position_or_len (λ x. nat_lt y x) xs in
    omega (arith, length-put_all (put xs y) ys, length-insert xs at y (prefix_len-le-length (λ x. not (nat_lt y x)) xs))

-- what is held stands at least once, and what isn't never
pub held_times : (b : ℕ) (xs : List ℕ) → holds xs b ≡ true → 0 < times b xs
held_times b [] h = absurd (false≢true h)
held_times b (x ∷ xs) h =
    ⊎_elim
    (λ e. omega (arith, times-cons b x xs, ap as_one e.0))
    (λ e. omega (arith, times-cons b x xs, held_times b xs (rw e.0 at h)))
    (eqb_tells x b)

pub unheld_times : (b : ℕ) (xs : List ℕ) → holds xs b ≡ false → times b xs ≡ 0
unheld_times b [] h = refl
unheld_times b (x ∷ xs) h =
    ⊎_elim
    (λ e. absurd (false≢true (sym (rw e.0 at h))))
    (λ e. omega (arith, times-cons b x xs, ap as_one e.0, unheld_times b xs (rw e.0 at h)))
    (eqb_tells x b)

-- of a number that the other list holds nothing is left
pub times-without_held : (b : ℕ) (xs ys : List ℕ) → holds ys b ≡ true → times b (without xs ys) ≡ 0
times-without_held b [] ys h = refl
times-without_held b (x ∷ xs) ys h =
    let rest = times-without_held b xs ys h in
    ⊎_elim
    (λ e. rw (e.1, h) rest)
    (λ e.
    elim (holds ys x) as (λ (t : Bool). times b (cond (not t) (x ∷ without xs ys) (without xs ys)) ≡ 0) [
      | true ↦ rest
      | false ↦ omega (arith, times-cons b x (without xs ys), ap as_one e.0, rest)
    ])
    (eqb_tells x b)

-- of one that it doesn't hold everything
pub times-without_unheld : (b : ℕ) (xs ys : List ℕ) → holds ys b ≡ false → times b (without xs ys) ≡ times b xs
times-without_unheld b [] ys h = refl
times-without_unheld b (x ∷ xs) ys h =
    let rest = times-without_unheld b xs ys h in
    ⊎_elim
    (λ e. rw (e.1, h) (omega (arith, times-cons b b (without xs ys), times-cons b b xs, rest)))
    (λ e.
    elim (holds ys x) as (λ (t : Bool). times b (cond (not t) (x ∷ without xs ys) (without xs ys)) ≡ times b (x ∷ xs)) [
      | true ↦ omega (arith, times-cons b x xs, ap as_one e.0, rest)
      | false ↦ omega (arith, times-cons b x (without xs ys), times-cons b x xs, rest)
    ])
    (eqb_tells x b)

-- the place of what is held is one of the list
pub held_place : (b : ℕ) (xs : List ℕ) → holds xs b ≡ true → position_or_len (λ x. x == b) xs < length xs
held_place b [] h = absurd (false≢true h)
held_place b (x ∷ xs) h =
    ⊎_elim
    (λ e. rw e.0 (omega arith))
    (λ e. rw e.0 (omega (arith, held_place b xs (rw e.0 at h))))
    (eqb_tells x b)

-- a list without the first of a number that it holds
pub times-less : (b c : ℕ) (xs : List ℕ) → holds xs b ≡ true → times c (less xs b) + one c b ≡ times c xs
times-less b c xs h =
    let at = position_or_len (λ x. x == b) xs in
    let within : at < length xs = held_place b xs h in
    let here : get_or xs at 0 ≡ b = eqb-true (get_or xs at 0) b (passes_at_first (λ x. x == b) xs 0 within) in
    ap (λ (y : ℕ). times c (less xs b) + one c y) (sym here) ∙ sum_by-remove (one c) xs at 0 within
