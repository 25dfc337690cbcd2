-- The steps that move blocks among the free list, reservations and runs keep a world sound.
use Rattle.std.proofs.Common.{◌≡◌, ℕ, ◌==◌, ◌<◌, ◌≤◌, Bool, true, false, cond, List, [], ◌∷◌, ◌++◌, length, get_or, set, take, drop, refl, sym, ap, ◌∙◌, subst, ⊎_elim, inl, arith}
use Rattle.std.specs.List.{All, count_by}
use Rattle.std.proofs.lemmas.Bool.{eqb-false}
use Rattle.std.proofs.lemmas.List.Sums.{sum_by_push}
use Rattle.std.proofs.lemmas.List.Elements.{All-push, All-set, All-get_or}
use Rattle.std.proofs.lemmas.Bool.Decides.{eqb_tells}
use Rattle.iq_world.specs.declared.worlds.World.{World}
use Rattle.iq_world.specs.declared.worlds.WorldNode.{WorldNode}
use Rattle.iq_world.specs.declared.worlds.WorldRun.{WorldRun}
use Rattle.iq_world.specs.declared.worlds.WorldStep.TheVariants.{Begin, Reserve, Take, Back}
use Rattle.iq_world.specs.World.{times, put_all, node_at, no_node, latest_of, run_place, is_running, run_of, no_run}
use Rattle.iq_world.specs.Floors.{floor_of}
use Rattle.iq_world.specs.Steps.{possible, sent_home, left_home, less, with_private, without_run, begun, reserving, taking, backed, ended_with}
use Rattle.iq_world.specs.Space.{times_loose}
use Rattle.iq_world.specs.Sound.{RunFits, IsSound}
use Rattle.iq_world.proofs.Times.{as_one, times-cons, times-append, times-flat_map, times-put_all, times-take-drop}
use Rattle.iq_world.proofs.Lows.{low_le}
use Rattle.iq_world.proofs.Possible.{both, not_true, included_is, secondary_is, running_is, not_running_is, empty_is}
use Rattle.iq_world.proofs.Counts.{reserved-with_node, private-with_private, private-without_run, free-sent_home, free-left_home, home_each, home_length}
use Rattle.iq_world.proofs.Runs.{All-remove, count-push, count-remove, count-with_private}
use Rattle.iq_world.proofs.Rising.{runs_low, rises_reserved, runs_refit, beside, NodesRise, nodes_still, nodes_set, good_moves, good_one, Good}

pub good_begin : (w : World) (s n : ℕ) → possible w (Begin s n) ≡ true → IsSound w → Good w (begun w s n)
unfolding possible
good_begin w s n can g =
    let v = begun w s n in
    let tests = both can in
    let idle = not_running_is w s (not_true tests.0) in
    let at = included_is w n tests.1 in
    let run : WorldRun = record { session = s; node = n; snapshot = (node_at w n).position; private = [] } in
    good_moves w w.free w.nodes (w.runs ++ run ∷ [])
    (record {
      rise = nodes_still w (w.runs ++ run ∷ []) g;
      fits =
          All-push (RunFits v) w.runs run (runs_refit w v w.runs refl (λ i h. (omega arith, λ e. e)) g.floors.runs)
          (record { known = at.0; not_excluded = at.1; seen = omega arith });
      lows = All-push (λ (r : WorldRun). floor_of w r.node ≤ r.snapshot) w.runs run (runs_low w) (low_le n (node_at w n).position w.runs);
      sessions =
          λ t.
          let more = count-push (λ (r : WorldRun). r.session == t) w.runs run in
          ⊎_elim
          (λ (e : (((s == t) ≡ true) × (s ≡ t))).
          let none = subst (λ (k : ℕ). count_by (λ (r : WorldRun). r.session == k) w.runs ≡ 0) e.1 idle in
          let here = ap as_one e.0 in omega arith)
          (λ (e : (((s == t) ≡ false) × ((s ≡ t) → ⊥))).
          let here = ap as_one e.0 in let few = g.form.sessions t in omega arith)
          (eqb_tells s t);
      loose =
          λ b.
          let whole = times-flat_map (λ (r : WorldRun). r.private) b in
          omega (arith, whole v.runs, whole w.runs, sum_by_push (λ (r : WorldRun). times b r.private) w.runs run);
    })
    g

-- what is known of a session that runs
pub record Runs (w : World) (s : ℕ) : Type 0 where
  pub place : run_place w s < length w.runs
  pub fits : RunFits w (run_of w s)
  pub low : floor_of w (run_of w s).node ≤ (run_of w s).snapshot

pub runs_at : (w : World) (s : ℕ) → is_running w s ≡ true → IsSound w → Runs w s
runs_at w s h g =
    let at = running_is w s h in
    record {
      place = at;
      fits = All-get_or (RunFits w) w.runs (run_place w s) no_run at g.floors.runs;
      low = All-get_or (λ (r : WorldRun). floor_of w r.node ≤ r.snapshot) w.runs (run_place w s) no_run at (runs_low w);
    }

-- the nodes where the node of a transaction has another reservation, or none has since that is the coordinator
abbrev homed : World → ℕ → List ℕ → List WorldNode
homed w n xs = cond (n == 0) w.nodes (set w.nodes n (record (node_at w n) { reserved = xs }))

homed_rise : (w : World) (rs : List WorldRun) (n : ℕ) (xs : List ℕ) → n < length w.nodes → (node_at w n).excluded ≡ false → IsSound w → NodesRise w rs (homed w n xs)
homed_rise w rs n xs h e g =
    let x = record (node_at w n) { reserved = xs } in
    let Q : Bool → Type 0 = λ t. (n == 0) ≡ t → NodesRise w rs (cond t w.nodes (set w.nodes n x)) in
    (elim (n == 0) as Q [
      | true ↦ λ _. nodes_still w rs g
      | false ↦
          λ k.
          nodes_set w rs n x h (λ z. absurd (eqb-false n 0 k z))
          (inl (rises_reserved w (latest_of w) n xs (omega arith) e (g.floors.nodes n h))) g
    ]) refl

-- runs fit where only reservations differ
homed_fits : (w v : World) (n : ℕ) (xs : List ℕ) (rs : List WorldRun) → v.nodes ≡ homed w n xs → n < length w.nodes → All (RunFits w) rs → All (RunFits v) rs
homed_fits w v n xs rs same h all =
    runs_refit w v rs (ap length same ∙ home_length w n (record (node_at w n) { reserved = xs }))
    (λ i l.
    let P : ℕ → WorldNode → Type 0 = λ i x. ((node_at w i).position ≤ x.position) × ((node_at w i).excluded ≡ false → x.excluded ≡ false) in
    subst (λ (ns : List WorldNode). P i (get_or ns i no_node)) (sym same)
    (home_each P w n xs h (λ _. (omega arith, λ e. e)) i (omega arith, λ e. e)))
    all

-- a step of a transaction, by which blocks go between it and home
record AtHome (w : World) (free xs : List ℕ) (n : ℕ) (runs : List WorldRun) : Type 0 where
  known : n < length w.nodes
  included : (node_at w n).excluded ≡ false
  fit : All (RunFits w) runs
  lows : All (λ (r : WorldRun). floor_of w r.node ≤ r.snapshot) runs
  sessions : (s : ℕ) → count_by (λ (r : WorldRun). r.session == s) runs ≤ 1
  loose : (b : ℕ) → times_loose (beside w free (homed w n xs) runs w.bag w.next) b ≡ times_loose w b

good_home : (w : World) (free xs : List ℕ) (n : ℕ) (runs : List WorldRun) → AtHome w free xs n runs → IsSound w → Good w (beside w free (homed w n xs) runs w.bag w.next)
good_home w free xs n runs k g =
    good_moves w free (homed w n xs) runs
    (record {
      rise = homed_rise w runs n xs k.known k.included g;
      fits = homed_fits w (beside w free (homed w n xs) runs w.bag w.next) n xs runs refl k.known k.fit;
      lows = k.lows;
      sessions = k.sessions;
      loose = k.loose;
    })
    g

pub good_reserve : (w : World) (n : ℕ) → possible w (Reserve n) ≡ true → IsSound w → Good w (reserving w n)
unfolding possible
good_reserve w n can g =
    let tests = both can in
    let more = both tests.0 in
    let at = secondary_is w n more.0 in
    let free = put_all [] w.free in
    let node = record (node_at w n) { reserved = take 32 free } in
    good_one w (drop 32 free) n node
    (record {
      known = at.1;
      zero = λ e. absurd (let p = at.0 in omega arith);
      goes = inl (rises_reserved w (latest_of w) n (take 32 free) (omega arith) at.2 (g.floors.nodes n at.1));
      position = omega arith;
      stays = λ e. e;
      loose =
          λ b.
          let none : times b (node_at w n).reserved ≡ 0 = ap (times b) (empty_is (node_at w n).reserved more.1) in
          omega (arith, reserved-with_node b w n node at.1, times-put_all b [] w.free, times-take-drop b 32 free);
    })
    g

-- a run with other private blocks fits as it did
same_fits : (w : World) (s : ℕ) (private : List ℕ) → Runs w s → RunFits w (record (run_of w s) { private = private })
same_fits w s private r = record { known = r.fits.known; not_excluded = r.fits.not_excluded; seen = r.fits.seen }

-- a step by which a session has other private blocks, which go between it and home
good_private : (w : World) (s : ℕ) (free xs private : List ℕ) → Runs w s → ((b : ℕ) → times_loose (beside w free (homed w (run_of w s).node xs) (with_private s private w).runs w.bag w.next) b ≡ times_loose w b) → IsSound w → Good w (beside w free (homed w (run_of w s).node xs) (with_private s private w).runs w.bag w.next)
good_private w s free xs private r loose g =
    let run = record (run_of w s) { private = private } in
    good_home w free xs (run_of w s).node (with_private s private w).runs
    (record {
      known = r.fits.known;
      included = r.fits.not_excluded;
      fit = All-set (RunFits w) w.runs (run_place w s) run (same_fits w s private r) g.floors.runs;
      lows = All-set (λ (r : WorldRun). floor_of w r.node ≤ r.snapshot) w.runs (run_place w s) run r.low (runs_low w);
      sessions = λ t. (let same = count-with_private w s t private r.place in let few = g.form.sessions t in omega arith);
      loose = loose;
    })
    g

pub good_take : (w : World) (s b : ℕ) → possible w (Take s b) ≡ true → IsSound w → Good w (taking w s b)
unfolding possible
good_take w s b can g =
    let tests = both can in
    let r = runs_at w s tests.0 g in
    let n = (run_of w s).node in
    let private = (run_of w s).private ++ b ∷ [] in
    good_private w s (left_home n b w).free (less (node_at w n).reserved b) private r
    (λ c.
    omega (
      arith,
      free-left_home c w n b r.fits.known tests.1,
      private-with_private c w s private r.place,
      times-append c (run_of w s).private (b ∷ []),
      times-cons c b [],
    ))
    g

pub good_back : (w : World) (s kept : ℕ) → possible w (Back s kept) ≡ true → IsSound w → Good w (backed w s kept)
unfolding possible
good_back w s kept can g =
    let tests = both can in
    let r = runs_at w s tests.0 g in
    let n = (run_of w s).node in
    let private = take kept (run_of w s).private in
    let back = drop kept (run_of w s).private in
    good_private w s (sent_home n back w).free (put_all (node_at w n).reserved back) private r
    (λ c.
    omega (
      arith,
      free-sent_home c (with_private s private w) n back r.fits.known,
      private-with_private c w s private r.place,
      times-take-drop c kept (run_of w s).private,
    ))
    g

pub good_end : (w : World) (s : ℕ) → is_running w s ≡ true → IsSound w → Good w (ended_with w s (run_of w s).private)
good_end w s can g =
    let r = runs_at w s can g in
    let n = (run_of w s).node in
    let private = (run_of w s).private in
    good_home w (sent_home n private w).free (put_all (node_at w n).reserved private) n (without_run s w).runs
    (record {
      known = r.fits.known;
      included = r.fits.not_excluded;
      fit = All-remove (RunFits w) w.runs (run_place w s) g.floors.runs;
      lows = All-remove (λ (r : WorldRun). floor_of w r.node ≤ r.snapshot) w.runs (run_place w s) (runs_low w);
      sessions =
          λ t.
          let fewer = count-remove (λ (r : WorldRun). r.session == t) w.runs (run_place w s) no_run r.place in
          let few = g.form.sessions t in omega arith;
      loose = λ c. omega (arith, free-sent_home c (without_run s w) n private r.fits.known, private-without_run c w s r.place);
    })
    g
