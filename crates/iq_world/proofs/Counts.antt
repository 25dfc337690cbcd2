-- How the counts of a block change with the parts of a world.
use Rattle.std.proofs.Common.{◌≡◌, ℕ, ◌+◌, ◌==◌, ◌<◌, Bool, true, false, cond, not, List, [], ◌++◌, length, get_or, set, refl, sym, ap, subst, ⊎_elim, arith}
use Rattle.std.specs.List.{filter, flat_map}
use Rattle.std.proofs.lemmas.List.Sums.{sum_by-set, sum_by-remove}
use Rattle.std.proofs.lemmas.List.Filters.{sum_by-filter_both}
use Rattle.std.proofs.lemmas.List.{get_or-set_same, get_or-set_other, length-set}
use Rattle.std.proofs.lemmas.Bool.{eqb-false, cases_eq}
use Rattle.iq_world.specs.declared.worlds.World.{World}
use Rattle.iq_world.specs.declared.worlds.WorldNode.{WorldNode}
use Rattle.iq_world.specs.declared.worlds.WorldRun.{WorldRun}
use Rattle.iq_world.specs.World.{times, holds, put_all, node_at, no_node, run_place, run_of, no_run, runs_on}
use Rattle.iq_world.specs.Space.{all_reserved, all_private, times_free, times_loose}
use Rattle.iq_world.specs.Steps.{with_node, freed, home, sent_home, less, left_home, with_private, without_run, cleared}
use Rattle.iq_world.proofs.Times.{one, times-append, times-flat_map, times-put_all, times-less}

-- the node at a place after one was changed
pub node_here : (w : World) (n : ℕ) (v : WorldNode) → n < length w.nodes → node_at (with_node n v w) n ≡ v
node_here w n v h = get_or-set_same w.nodes n v no_node h

pub node_there : (w : World) (n i : ℕ) (v : WorldNode) → (i ≡ n → ⊥) → node_at (with_node n v w) i ≡ node_at w i
node_there w n i v ne = get_or-set_other w.nodes n i v no_node ne

-- a property of every place follows from the changed place and the others
pub node_each : (P : ℕ → WorldNode → Type 0) (w : World) (n : ℕ) (v : WorldNode) → n < length w.nodes → P n v → (i : ℕ) → ((i ≡ n → ⊥) → P i (node_at w i)) → P i (node_at (with_node n v w) i)
node_each P w n v h here i there =
    ⊎_elim
    (λ (e : i ≡ n). subst (λ (k : ℕ). P k (node_at (with_node n v w) k)) (sym e) (subst (P n) (sym (node_here w n v h)) here))
    (λ (ne : i ≡ n → ⊥). subst (P i) (sym (node_there w n i v ne)) (there ne))
    (cases_eq i n)

-- how often a block is in reservations after a node was changed
pub reserved-with_node : (b : ℕ) (w : World) (n : ℕ) (v : WorldNode) → n < length w.nodes → times b (all_reserved (with_node n v w)) + times b (node_at w n).reserved ≡ times b (all_reserved w) + times b v.reserved
reserved-with_node b w n v h =
    let f : WorldNode → ℕ = λ x. times b x.reserved in
    let whole = times-flat_map (λ (x : WorldNode). x.reserved) b in
    omega (arith, whole (set w.nodes n v), whole w.nodes, sum_by-set f w.nodes n v no_node h)

-- how often a block is private after a run was changed, ended, or those of a node were
pub private-with_private : (b : ℕ) (w : World) (s : ℕ) (xs : List ℕ) → run_place w s < length w.runs → times b (all_private (with_private s xs w)) + times b (run_of w s).private ≡ times b (all_private w) + times b xs
private-with_private b w s xs h =
    let f : WorldRun → ℕ = λ x. times b x.private in
    let whole = times-flat_map (λ (x : WorldRun). x.private) b in
    omega (arith, whole (with_private s xs w).runs, whole w.runs, sum_by-set f w.runs (run_place w s) (record (run_of w s) { private = xs }) no_run h)

pub private-without_run : (b : ℕ) (w : World) (s : ℕ) → run_place w s < length w.runs → times b (all_private (without_run s w)) + times b (run_of w s).private ≡ times b (all_private w)
private-without_run b w s h =
    let f : WorldRun → ℕ = λ x. times b x.private in
    let whole = times-flat_map (λ (x : WorldRun). x.private) b in
    omega (arith, whole (without_run s w).runs, whole w.runs, sum_by-remove f w.runs (run_place w s) no_run h)

-- what goes home of a node becomes free
pub free-freed : (b : ℕ) (w : World) (xs : List ℕ) → times_free (freed xs w) b ≡ times_free w b + times b xs
free-freed b w xs = omega (arith, times-put_all b w.free xs)

pub free-sent_home : (b : ℕ) (w : World) (n : ℕ) (xs : List ℕ) → n < length w.nodes → times_free (sent_home n xs w) b ≡ times_free w b + times b xs
free-sent_home b w n xs h =
    let node = record (node_at w n) { reserved = put_all (node_at w n).reserved xs } in
    let P : Bool → Type 0 = λ t. times b (cond t (put_all w.free xs) w.free) + times b (flat_map (λ (x : WorldNode). x.reserved) (cond t w.nodes (set w.nodes n node))) ≡ times_free w b + times b xs in
    elim (n == 0) as P [
      | true ↦ free-freed b w xs
      | false ↦ omega (arith, reserved-with_node b w n node h, times-put_all b (node_at w n).reserved xs)
    ]

-- what leaves home isn't free
pub free-left_home : (c : ℕ) (w : World) (n b : ℕ) → n < length w.nodes → holds (home w n) b ≡ true → times_free (left_home n b w) c + one c b ≡ times_free w c
free-left_home c w n b h at =
    let node = record (node_at w n) { reserved = less (node_at w n).reserved b } in
    let P : Bool → Type 0 = λ t. holds (cond t w.free (node_at w n).reserved) b ≡ true → times c (cond t (less w.free b) w.free) + times c (flat_map (λ (x : WorldNode). x.reserved) (cond t w.nodes (set w.nodes n node))) + one c b ≡ times_free w c in
    (elim (n == 0) as P [
      | true ↦ λ k. omega (arith, times-less b c w.free k)
      | false ↦ λ k. omega (arith, reserved-with_node c w n node h, times-less b c (node_at w n).reserved k)
    ]) at

-- a property of every node where one has another reservation, or none has
pub home_each : (P : ℕ → WorldNode → Type 0) (w : World) (n : ℕ) (xs : List ℕ) → n < length w.nodes → ((n ≡ 0 → ⊥) → P n (record (node_at w n) { reserved = xs })) → (i : ℕ) → P i (node_at w i) → P i (get_or (cond (n == 0) w.nodes (set w.nodes n (record (node_at w n) { reserved = xs }))) i no_node)
home_each P w n xs h here i there =
    let Q : Bool → Type 0 = λ t. (n == 0) ≡ t → P i (get_or (cond t w.nodes (set w.nodes n (record (node_at w n) { reserved = xs }))) i no_node) in
    (elim (n == 0) as Q [
      | true ↦ λ _. there
      | false ↦ λ e. node_each P w n (record (node_at w n) { reserved = xs }) h (here (eqb-false n 0 e)) i (λ _. there)
    ]) refl

pub home_length : (w : World) (n : ℕ) (v : WorldNode) → length (cond (n == 0) w.nodes (set w.nodes n v)) ≡ length w.nodes
home_length w n v =
    elim (n == 0) as (λ (t : Bool). length (cond t w.nodes (set w.nodes n v)) ≡ length w.nodes) [ true ↦ refl | false ↦ length-set w.nodes n v ]

-- a node's runs and the others are all runs
pub private-parted : (b n : ℕ) (rs : List WorldRun) → times b (flat_map (λ (r : WorldRun). r.private) (filter (runs_on n) rs)) + times b (flat_map (λ (r : WorldRun). r.private) (filter (λ (r : WorldRun). not (runs_on n r)) rs)) ≡ times b (flat_map (λ (r : WorldRun). r.private) rs)
private-parted b n rs =
    let whole = times-flat_map (λ (x : WorldRun). x.private) b in
    omega (
      arith,
      whole (filter (runs_on n) rs),
      whole (filter (λ (r : WorldRun). not (runs_on n r)) rs),
      whole rs,
      sum_by-filter_both (runs_on n) (λ (r : WorldRun). not (runs_on n r)) (λ _. refl) (λ (r : WorldRun). times b r.private) rs,
    )

-- the blocks of a node that is cleared and has no reservation then are free
pub loose-cleared : (b : ℕ) (w : World) (n : ℕ) (v : WorldNode) → n < length w.nodes → v.reserved ≡ [] → times_loose (with_node n v (cleared n w)) b ≡ times_loose w b
loose-cleared b w n v h e =
    let mine = filter (runs_on n) w.runs in
    let none : times b v.reserved ≡ 0 = ap (times b) e in
    omega (
      arith,
      times-put_all b w.free ((node_at w n).reserved ++ flat_map (λ (r : WorldRun). r.private) mine),
      times-append b (node_at w n).reserved (flat_map (λ (r : WorldRun). r.private) mine),
      reserved-with_node b (cleared n w) n v h,
      private-parted b n w.runs,
    )

-- a node at another position, or with another taken floor, has the same reservation
pub free-with_node : (b : ℕ) (w : World) (n : ℕ) (v : WorldNode) → n < length w.nodes → v.reserved ≡ (node_at w n).reserved → times_free (with_node n v w) b ≡ times_free w b
free-with_node b w n v h e =
    let same : times b v.reserved ≡ times b (node_at w n).reserved = ap (times b) e in
    omega (arith, reserved-with_node b w n v h)
