-- A step is possible exactly where its plain facts hold.
use Rattle.std.proofs.Common.{◌≡◌, ℕ, ◌+◌, ◌==◌, ◌<◌, ◌≤◌, Bool, true, false, not, ◌&&◌, ◌||◌, List, [], ◌∷◌, length, refl, sym, ap, ⊎_elim, arith}
use Rattle.std.specs.List.{All, list_all}
use Rattle.std.proofs.lemmas.List.Elements.{All-nil, All-cons, All-head, All-tail}
use Rattle.std.proofs.lemmas.Bool.{eq-eqb, ne_eqb, eqb-true, ltb-true, lt-ltb, le-leb, leb-true, false≢true}
use Rattle.iq_world.specs.declared.worlds.World.{World}
use Rattle.iq_world.specs.declared.worlds.WorldStep.{WorldStep}
use Rattle.iq_world.specs.declared.worlds.WorldStep.TheVariants.{Begin, Reserve, Take, Back, Commit, End, Sync, Apply, Send, Lose, TakeReport, Own, Restart, Exclude, Include}
use Rattle.iq_world.specs.World.{times, holds, node_at, is_included, is_secondary, latest_of, run_place, run_of, report_place}
use Rattle.iq_world.specs.Space.{reach_of}
use Rattle.iq_world.specs.Steps.{home, possible, are_distinct, are_from}
use Rattle.iq_world.specs.Plain.{last_u32, last_u64, IsIncluded, IsSecondary, CanStep}
use Rattle.iq_world.proofs.Times.{as_one, times-cons, held_times, unheld_times}
use Rattle.iq_world.proofs.Possible.{both, not_true, included_is, secondary_is, empty_is}
use Rattle.iq_world.proofs.Sizes.{stands_held}
use Rattle.iq_world.proofs.Rising.{zero_or_more}
use Rattle.iq_world.proofs.Committing.{all_held, either}

two : {a b : Bool} → a ≡ true → b ≡ true → (a && b) ≡ true
two h k = rw (h, k) refl

first_of_two : (a b : Bool) → a ≡ true → (a || b) ≡ true
first_of_two a b h = rw h refl

second_of_two : (a b : Bool) → b ≡ true → (a || b) ≡ true
second_of_two a b h = elim a as (λ (t : Bool). (t || b) ≡ true) [ true ↦ refl | false ↦ h ]

-- what holds of each number that stands in a list holds of its elements
standing_all : (P : ℕ → Type 0) (xs : List ℕ) → ((b : ℕ) → 0 < times b xs → P b) → All P xs
standing_all P [] h = All-nil P
standing_all P (x ∷ xs) h =
    All-cons P x xs
    (h x (let one = ap as_one (eq-eqb x x refl) in omega (arith, times-cons x x xs)))
    (standing_all P xs (λ b k. h b (omega (arith, times-cons b x xs))))

all_pass : (p : ℕ → Bool) (xs : List ℕ) → All (λ x. p x ≡ true) xs → list_all p xs ≡ true
all_pass p [] h = refl
all_pass p (x ∷ xs) h =
    two (All-head (λ y. p y ≡ true) x xs h) (all_pass p xs (All-tail (λ y. p y ≡ true) x xs h))

-- no number stands twice, and each is from one of two lists
distinct_once : (xs : List ℕ) → are_distinct xs ≡ true → (b : ℕ) → times b xs ≤ 1
distinct_once xs h b =
    let P : Bool → Type 0 = λ t. holds xs b ≡ t → times b xs ≤ 1 in
    (elim (holds xs b) as P [
      | true ↦ λ e. (let one = eqb-true (times b xs) 1 (all_held (λ x. times x xs == 1) xs b h e) in omega arith)
      | false ↦ λ e. (let none = unheld_times b xs e in omega arith)
    ]) refl

once_distinct : (xs : List ℕ) → ((b : ℕ) → times b xs ≤ 1) → are_distinct xs ≡ true
once_distinct xs once =
    all_pass (λ x. times x xs == 1) xs
    (standing_all (λ x. (times x xs == 1) ≡ true) xs (λ b k. eq-eqb (times b xs) 1 (let most = once b in omega arith)))

from_times : (xs ys zs : List ℕ) → are_from xs ys zs ≡ true → (b : ℕ) → 0 < times b xs → 0 < times b ys + times b zs
from_times xs ys zs h b some =
    ⊎_elim (λ e. (let k = held_times b ys e in omega arith)) (λ e. (let k = held_times b zs e in omega arith))
    (either (all_held (λ x. holds ys x || holds zs x) xs b h (stands_held b xs some)))

times_from : (xs ys zs : List ℕ) → ((b : ℕ) → 0 < times b xs → 0 < times b ys + times b zs) → are_from xs ys zs ≡ true
times_from xs ys zs h =
    all_pass (λ x. holds ys x || holds zs x) xs
    (standing_all (λ x. (holds ys x || holds zs x) ≡ true) xs
    (λ b k.
    let some = h b k in
    ⊎_elim (λ (none : times b ys ≡ 0). second_of_two (holds ys b) (holds zs b) (stands_held b zs (omega arith)))
    (λ (here : 0 < times b ys). first_of_two (holds ys b) (holds zs b) (stands_held b ys here)) (zero_or_more (times b ys))))

-- a list with items
some_is : (xs : List ℕ) → (length xs == 0) ≡ false → 0 < length xs
some_is [] h = absurd (false≢true (sym h))
some_is (x ∷ xs) h = omega arith

-- nodes
included_can : (w : World) (n : ℕ) → is_included w n ≡ true → IsIncluded w n
included_can w n h = let t = included_is w n h in record { known = t.0; included = t.1 }

can_included : (w : World) (n : ℕ) → IsIncluded w n → is_included w n ≡ true
can_included w n h = two (lt-ltb n (length w.nodes) h.known) (ap not h.included)

secondary_can : (w : World) (n : ℕ) → is_secondary w n ≡ true → IsSecondary w n
secondary_can w n h = let t = secondary_is w n h in record { beside = t.0; known = t.1; included = t.2 }

can_secondary : (w : World) (n : ℕ) → IsSecondary w n → is_secondary w n ≡ true
can_secondary w n h = two (lt-ltb 0 n h.beside) (two (lt-ltb n (length w.nodes) h.known) (ap not h.included))

pub possible_plain : (w : World) (step : WorldStep) → possible w step ≡ true → CanStep w step
unfolding possible
possible_plain w (Begin s n) h = let t = both h in (not_true t.0, included_can w n t.1)
possible_plain w (Reserve n) h =
    let t = both h in
    let u = both t.0 in
    record { secondary = secondary_can w n u.0; empty = empty_is (node_at w n).reserved u.1; some = some_is w.free (not_true t.1) }
possible_plain w (Take s b) h = let t = both h in (ltb-true (run_place w s) (length w.runs) t.0, held_times b (home w (run_of w s).node) t.1)
possible_plain w (Back s kept) h = let t = both h in (ltb-true (run_place w s) (length w.runs) t.0, leb-true kept (length (run_of w s).private) t.1)
possible_plain w (Commit s blocks) h =
    let t = both h in
    let u = both t.0 in
    let v = both u.0 in
    record {
      running = ltb-true (run_place w s) (length w.runs) v.0;
      room = ltb-true (latest_of w) last_u64 v.1;
      once = distinct_once blocks u.1;
      from = from_times blocks (reach_of w.reach (latest_of w)) (run_of w s).private t.1;
    }
possible_plain w (End s) h = ltb-true (run_place w s) (length w.runs) h
possible_plain w (Sync n) h = included_can w n h
possible_plain w (Apply n) h = let t = both h in (included_can w n t.0, ltb-true (node_at w n).position (latest_of w) t.1)
possible_plain w (Send n) h = let t = both h in (secondary_can w n t.0, ltb-true w.next last_u32 t.1)
possible_plain w (Lose k) h = ltb-true (report_place w k) (length w.bag) h
possible_plain w (TakeReport k) h = ltb-true (report_place w k) (length w.bag) h
possible_plain w Own h = tt
possible_plain w (Restart n) h = let t = both h in (secondary_can w n t.0, ltb-true (node_at w n).incarnation last_u32 t.1)
possible_plain w (Exclude n) h = let t = both h in (secondary_can w n t.0, ltb-true (node_at w n).incarnation last_u32 t.1)
possible_plain w (Include n) h = let t = both h in (ltb-true n (length w.nodes) t.0, t.1)

pub plain_possible : (w : World) (step : WorldStep) → CanStep w step → possible w step ≡ true
unfolding possible
plain_possible w (Begin s n) h = two (ap not h.0) (can_included w n h.1)
plain_possible w (Reserve n) h =
    two (two (can_secondary w n h.secondary) (eq-eqb (length (node_at w n).reserved) 0 (ap (λ (xs : List ℕ). length xs) h.empty)))
    (ap not (ne_eqb (length w.free) 0 (λ e. (let s = h.some in omega arith))))
plain_possible w (Take s b) h = two (lt-ltb (run_place w s) (length w.runs) h.0) (stands_held b (home w (run_of w s).node) h.1)
plain_possible w (Back s kept) h = two (lt-ltb (run_place w s) (length w.runs) h.0) (le-leb kept (length (run_of w s).private) h.1)
plain_possible w (Commit s blocks) h =
    two
    (two (two (lt-ltb (run_place w s) (length w.runs) h.running) (lt-ltb (latest_of w) last_u64 h.room)) (once_distinct blocks h.once))
    (times_from blocks (reach_of w.reach (latest_of w)) (run_of w s).private h.from)
plain_possible w (End s) h = lt-ltb (run_place w s) (length w.runs) h
plain_possible w (Sync n) h = can_included w n h
plain_possible w (Apply n) h = two (can_included w n h.0) (lt-ltb (node_at w n).position (latest_of w) h.1)
plain_possible w (Send n) h = two (can_secondary w n h.0) (lt-ltb w.next last_u32 h.1)
plain_possible w (Lose k) h = lt-ltb (report_place w k) (length w.bag) h
plain_possible w (TakeReport k) h = lt-ltb (report_place w k) (length w.bag) h
plain_possible w Own h = refl
plain_possible w (Restart n) h = two (can_secondary w n h.0) (lt-ltb (node_at w n).incarnation last_u32 h.1)
plain_possible w (Exclude n) h = two (can_secondary w n h.0) (lt-ltb (node_at w n).incarnation last_u32 h.1)
plain_possible w (Include n) h = two (lt-ltb n (length w.nodes) h.0) h.1
