-- A floor is the greatest number that is at most the position and the snapshots; the horizon likewise.
use Rattle.std.proofs.Common.{◌≡◌, ℕ, ◌==◌, ◌≤◌, Bool, true, false, cond, not, min, List, [], ◌∷◌, map, refl, sym, ap, ◌∙◌}
use Rattle.std.specs.List.{fold, filter, All}
use Rattle.std.proofs.lemmas.List.Elements.{All-nil, All-cons, All-head, All-tail, All-map, All-filter, All-weaker, filter_passes}
use Rattle.std.proofs.lemmas.Bool.{eq-eqb, eqb-true, false≢true}
use Rattle.iq_floors.specs.Floors.{least, floor, horizon}
use Rattle.iq_floors.proofs.Least.{least-min, least_first, least_each, least_above}
use Rattle.iq_world.specs.declared.worlds.WorldNode.{WorldNode}
use Rattle.iq_world.specs.declared.worlds.WorldRun.{WorldRun}
use Rattle.iq_world.specs.World.{runs_on}
use Rattle.iq_world.specs.Floors.{snapshots_on, is_counted, taken_floors}
use Rattle.iq_world.proofs.Possible.{not_true}

-- how a walk over the runs, and one over the nodes, go on
abbrev pub lower : ℕ → ℕ → WorldRun → ℕ
lower n low r = cond (r.node == n) (min low r.snapshot) low

abbrev pub lower_taken : ℕ → WorldNode → ℕ
lower_taken low n = cond n.excluded low (min low n.taken)

-- such a walk ends at the floor, and at the horizon
pub floor_is : (n p : ℕ) (rs : List WorldRun) → fold (lower n) p rs ≡ floor p (snapshots_on n rs)
floor_is n p [] = refl
floor_is n p (r ∷ rs) =
    elim (r.node == n) as (λ (t : Bool). fold (lower n) (cond t (min p r.snapshot) p) rs ≡ least p (map (λ (x : WorldRun). x.snapshot) (cond t (r ∷ filter (runs_on n) rs) (filter (runs_on n) rs)))) [
      | true ↦ floor_is n (min p r.snapshot) rs ∙ least-min p r.snapshot (snapshots_on n rs)
      | false ↦ floor_is n p rs
    ]

pub horizon_is : (p : ℕ) (ns : List WorldNode) → fold lower_taken p ns ≡ horizon p (taken_floors ns)
horizon_is p [] = refl
horizon_is p (n ∷ ns) =
    elim n.excluded as (λ (t : Bool). fold lower_taken (cond t p (min p n.taken)) ns ≡ least p (map (λ (x : WorldNode). x.taken) (cond (not t) (n ∷ filter is_counted ns) (filter is_counted ns)))) [
      | true ↦ horizon_is p ns
      | false ↦ horizon_is (min p n.taken) ns ∙ least-min p n.taken (taken_floors ns)
    ]

-- what holds of a number of every element that passes a test holds of each such element
counted_all : {X : Type 0} (P : ℕ → Type 0) (f : X → ℕ) (t : X → Bool) (xs : List X) → All P (map f (filter t xs)) → All (λ x. t x ≡ true → P (f x)) xs
counted_all P f t [] all = All-nil _
counted_all {X} P f t (x ∷ xs) all =
    let Q : Bool → Type 0 = λ b. t x ≡ b → All P (map f (cond b (x ∷ filter t xs) (filter t xs))) → All (λ (y : X). t y ≡ true → P (f y)) (x ∷ xs) in
    (elim (t x) as Q [
      | true ↦
          λ e h.
          All-cons (λ (y : X). t y ≡ true → P (f y)) x xs (λ _. All-head P (f x) (map f (filter t xs)) h)
          (counted_all P f t xs (All-tail P (f x) (map f (filter t xs)) h))
      | false ↦ λ e h. All-cons (λ (y : X). t y ≡ true → P (f y)) x xs (λ k. absurd (false≢true (sym e ∙ k))) (counted_all P f t xs h)
    ]) refl all

pub low_le : (n p : ℕ) (rs : List WorldRun) → floor p (snapshots_on n rs) ≤ p
low_le n p rs = least_first p (snapshots_on n rs)

pub low_below : (n p : ℕ) (rs : List WorldRun) → All (λ (r : WorldRun). r.node ≡ n → floor p (snapshots_on n rs) ≤ r.snapshot) rs
low_below n p rs =
    let low = floor p (snapshots_on n rs) in
    All-weaker (λ (r : WorldRun). runs_on n r ≡ true → low ≤ r.snapshot) (λ (r : WorldRun). r.node ≡ n → low ≤ r.snapshot)
    (λ r h e. h (eq-eqb r.node n e)) rs
    (counted_all (λ x. low ≤ x) (λ (r : WorldRun). r.snapshot) (runs_on n) rs (least_each p (snapshots_on n rs)))

pub low_above : (n p x : ℕ) (rs : List WorldRun) → x ≤ p → All (λ (r : WorldRun). r.node ≡ n → x ≤ r.snapshot) rs → x ≤ floor p (snapshots_on n rs)
low_above n p x rs h all =
    least_above p x (snapshots_on n rs) h
    (All-map (λ k. x ≤ k) (λ (r : WorldRun). r.snapshot) (filter (runs_on n) rs)
    (λ k d l.
    All-filter (runs_on n) (λ (r : WorldRun). r.node ≡ n → x ≤ r.snapshot) rs all k d l
    (eqb-true _ n (filter_passes (runs_on n) rs k d l))))

-- the same of the horizon
pub horizon_le : (p : ℕ) (ns : List WorldNode) → horizon p (taken_floors ns) ≤ p
horizon_le p ns = least_first p (taken_floors ns)

pub horizon_below : (p : ℕ) (ns : List WorldNode) → All (λ (n : WorldNode). n.excluded ≡ false → horizon p (taken_floors ns) ≤ n.taken) ns
horizon_below p ns =
    let low = horizon p (taken_floors ns) in
    All-weaker (λ (n : WorldNode). is_counted n ≡ true → low ≤ n.taken) (λ (n : WorldNode). n.excluded ≡ false → low ≤ n.taken)
    (λ n h e. h (ap not e)) ns
    (counted_all (λ x. low ≤ x) (λ (n : WorldNode). n.taken) is_counted ns (least_each p (taken_floors ns)))

pub horizon_above : (p x : ℕ) (ns : List WorldNode) → x ≤ p → All (λ (n : WorldNode). n.excluded ≡ false → x ≤ n.taken) ns → x ≤ horizon p (taken_floors ns)
horizon_above p x ns h all =
    least_above p x (taken_floors ns) h
    (All-map (λ k. x ≤ k) (λ (n : WorldNode). n.taken) (filter is_counted ns)
    (λ k d l.
    All-filter is_counted (λ (n : WorldNode). n.excluded ≡ false → x ≤ n.taken) ns all k d l
    (not_true (filter_passes is_counted ns k d l))))
