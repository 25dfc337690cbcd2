-- A list that holds the first numbers once each has as many.
use Rattle.std.proofs.Common.{◌≡◌, ℕ, zero, suc, ◌+◌, ◌==◌, ◌<◌, ◌≤◌, Bool, true, false, nat_lt, List, [], ◌∷◌, ◌++◌, length, take, drop, refl, sym, ap, ◌∙◌, ⊎_elim, arith}
use Rattle.std.specs.List.{position_or_len}
use Rattle.std.proofs.lemmas.List.{length-append, length-take, length-drop}
use Rattle.std.proofs.lemmas.Bool.{eq-eqb, ne_eqb, lt-ltb, le-ltb, cases_eq, cases_lt}
use Rattle.iq_world.specs.declared.worlds.World.{World}
use Rattle.iq_world.specs.World.{times, holds, latest_of}
use Rattle.iq_world.specs.Space.{roots, reach_of, waiting, all_reserved, all_private, places}
use Rattle.iq_world.specs.Steps.{less}
use Rattle.iq_world.specs.Sound.{IsSound}
use Rattle.iq_world.specs.Laws.{FillsTheStore}
use Rattle.iq_world.proofs.Times.{as_one, times-cons, times-append, times-less, held_place, unheld_times}

-- what stands in a list is held by it
pub stands_held : (b : ℕ) (xs : List ℕ) → 0 < times b xs → holds xs b ≡ true
stands_held b xs h =
    let P : Bool → Type 0 = λ t. holds xs b ≡ t → holds xs b ≡ true in
    (elim (holds xs b) as P [ true ↦ λ e. e | false ↦ λ e. absurd (let z = unheld_times b xs e in omega arith) ]) refl

length-less : (b : ℕ) (xs : List ℕ) → holds xs b ≡ true → length (less xs b) + 1 ≡ length xs
length-less b xs h =
    let at = position_or_len (λ x. x == b) xs in
    let within = held_place b xs h in
    omega (arith, length-append (take at xs) (drop (suc at) xs), length-take at xs, length-drop (suc at) xs)

-- a list that holds each number below n once and no other has n items
pub length-filled : (n : ℕ) (xs : List ℕ) → ((b : ℕ) → times b xs ≡ as_one (nat_lt b n)) → length xs ≡ n
length-filled zero [] h = refl
length-filled zero (x ∷ xs) h =
    absurd (let here = ap as_one (eq-eqb x x refl) in let none = h x in let out = ap as_one (le-ltb x 0 (omega arith)) in omega (arith, times-cons x x xs))
length-filled (suc n) xs h =
    let last : times n xs ≡ 1 = h n ∙ ap as_one (lt-ltb n (suc n) (omega arith)) in
    let held = stands_held n xs (omega arith) in
    let rest : (b : ℕ) → times b (less xs n) ≡ as_one (nat_lt b n) =
    λ b.
    let all = h b in
    let parts = times-less n b xs held in
    ⊎_elim
    (λ (e : b ≡ n).
    let one_here = ap as_one (eq-eqb n b (sym e)) in
    let inside = ap as_one (lt-ltb b (suc n) (omega arith)) in
    let outside = ap as_one (le-ltb b n (omega arith)) in omega arith)
    (λ (ne : b ≡ n → ⊥).
    let none_here = ap as_one (ne_eqb n b (λ e. ne (sym e))) in
    ⊎_elim
    (λ (k : b < n).
    let inside = ap as_one (lt-ltb b (suc n) (omega arith)) in
    let here = ap as_one (lt-ltb b n k) in omega arith)
    (λ (k : n ≤ b).
    let over : suc n ≤ b = omega arith in
    let outside = ap as_one (le-ltb b (suc n) over) in
    let there = ap as_one (le-ltb b n k) in omega arith)
    (cases_lt b n))
    (cases_eq b n) in
    let shorter = length-filled n (less xs n) rest in
    omega (arith, length-less n xs held)

pub fills : (w : World) → IsSound w → FillsTheStore w
fills w g =
    let a = w.free in
    let b = all_reserved w in
    let c = all_private w in
    let d = reach_of w.reach (latest_of w) in
    let e = waiting w in
    let all = roots ++ (a ++ (b ++ (c ++ (d ++ e)))) in
    let whole : (x : ℕ) → times x all ≡ as_one (nat_lt x w.count) =
    λ x.
    let once = g.places x in
    let sum : times x all ≡ places w x =
    omega (
      arith,
      times-append x roots (a ++ (b ++ (c ++ (d ++ e)))),
      times-append x a (b ++ (c ++ (d ++ e))),
      times-append x b (c ++ (d ++ e)),
      times-append x c (d ++ e),
      times-append x d e,
    ) in
    sum ∙ once in
    let size = length-filled w.count all whole in
    omega (
      arith,
      length-append roots (a ++ (b ++ (c ++ (d ++ e)))),
      length-append a (b ++ (c ++ (d ++ e))),
      length-append b (c ++ (d ++ e)),
      length-append c (d ++ e),
      length-append d e,
    )
