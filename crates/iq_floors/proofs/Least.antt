-- The least of a number and a list is the greatest that none of them is below.
use Rattle.std.proofs.Common.{◌≡◌, ℕ, ◌+◌, ◌<◌, ◌≤◌, min, List, [], ◌∷◌, length, get_or, drop, sym, ap, ◌∙◌, arith}
use Rattle.std.specs.List.{All}
use Rattle.std.proofs.lemmas.List.{at_drop_more}
use Rattle.std.proofs.lemmas.List.Elements.{All-nil, All-cons, All-head, All-tail}
use Rattle.iq_floors.specs.Floors.{least, IsLeast}

-- a lesser first number
pub least-min : (p n : ℕ) (ns : List ℕ) → least (min p n) ns ≡ min n (least p ns)
least-min p n [] = omega arith
least-min p n (m ∷ ns) = ap (min m) (least-min p n ns) ∙ omega arith

pub least_first : (p : ℕ) (ns : List ℕ) → least p ns ≤ p
least_first p [] = omega arith
least_first p (n ∷ ns) = omega (arith, least_first p ns)

weaker : (x y : ℕ) (ns : List ℕ) → x ≤ y → All (λ n. y ≤ n) ns → All (λ n. x ≤ n) ns
weaker x y ns h all k d l = let low = all k d l in omega arith

pub least_each : (p : ℕ) (ns : List ℕ) → All (λ n. least p ns ≤ n) ns
least_each p [] = All-nil _
least_each p (n ∷ ns) =
    All-cons (λ x. min n (least p ns) ≤ x) n ns (omega arith) (weaker (min n (least p ns)) (least p ns) ns (omega arith) (least_each p ns))

pub least_above : (p x : ℕ) (ns : List ℕ) → x ≤ p → All (λ n. x ≤ n) ns → x ≤ least p ns
least_above p x [] h all = h
least_above p x (n ∷ ns) h all =
    let first = All-head (λ m. x ≤ m) n ns all in
    let rest = least_above p x ns h (All-tail (λ m. x ≤ m) n ns all) in omega arith

pub is_least : (p : ℕ) (ns : List ℕ) → IsLeast (least p ns) p ns
is_least p ns =
    record { below_first = least_first p ns; below_each = least_each p ns; greatest = λ x h all. least_above p x ns h all }

-- one step along the list
pub least_next : (p i : ℕ) (ns : List ℕ) → i < length ns → least (min p (get_or ns i 0)) (drop (i + 1) ns) ≡ least p (drop i ns)
least_next p i ns h = least-min p (get_or ns i 0) (drop (i + 1) ns) ∙ sym (at_drop_more (least p) ns i 0 h)
