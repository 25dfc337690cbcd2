-- The commits that every node is known to be past are those up to the horizon.
use Rattle.std.proofs.Common.{◌≡◌, ℕ, zero, suc, ◌+◌, ◌<◌, ◌≤◌, false, length, drop, get_or, ap, ◌∙◌, sym, subst, arith}
use Rattle.std.proofs.lemmas.List.{get_or-drop, length-drop}
use Rattle.std.proofs.lemmas.List.Elements.{All-weaker, All-from_get_or}
use Rattle.iq_world.specs.declared.worlds.World.{World}
use Rattle.iq_world.specs.declared.worlds.WorldNode.{WorldNode}
use Rattle.iq_world.specs.declared.worlds.WorldRun.{WorldRun}
use Rattle.iq_world.specs.World.{node_at, no_node}
use Rattle.iq_world.specs.Floors.{floor_of, horizon_of, IsPast}
use Rattle.iq_world.proofs.Lows.{low_le, low_below, low_above, horizon_le, horizon_below, horizon_above}

-- the secondaries are the nodes but the first
drop_at : (w : World) (i : ℕ) → get_or (drop 1 w.nodes) i no_node ≡ node_at w (suc i)
drop_at w i =
    let at : 1 + i ≡ suc i = omega arith in get_or-drop 1 w.nodes i no_node ∙ ap (node_at w) at

-- the horizon is at most the taken floor of every secondary that isn't excluded
pub horizon_taken : (w : World) (n : ℕ) → 0 < n → n < length w.nodes → (node_at w n).excluded ≡ false → horizon_of w ≤ (node_at w n).taken
horizon_taken w zero some h e = absurd (omega arith)
horizon_taken w (suc i) some h e =
    let within : i < length (drop 1 w.nodes) = omega (arith, length-drop 1 w.nodes) in
    let low = horizon_below (floor_of w 0) (drop 1 w.nodes) i no_node within (ap (λ (n : WorldNode). n.excluded) (drop_at w i) ∙ e) in
    let taken = ap (λ (n : WorldNode). n.taken) (drop_at w i) in omega arith

pub past_of : (w : World) (c : ℕ) → c ≤ horizon_of w → IsPast w c
past_of w c h =
    let own = horizon_le (floor_of w 0) (drop 1 w.nodes) in
    let low = low_le 0 (node_at w 0).position w.runs in
    record {
      coordinator = omega arith;
      runs =
          All-weaker (λ (r : WorldRun). r.node ≡ 0 → floor_of w 0 ≤ r.snapshot) (λ (r : WorldRun). r.node ≡ 0 → c ≤ r.snapshot)
          (λ r k e. (let s = k e in omega arith)) w.runs (low_below 0 (node_at w 0).position w.runs);
      reports = λ n some k e. (let t = horizon_taken w n some k e in omega arith);
    }

pub past_is : (w : World) (c : ℕ) → IsPast w c → c ≤ horizon_of w
past_is w c p =
    let Q : WorldNode → Type 0 = λ n. n.excluded ≡ false → c ≤ n.taken in
    horizon_above (floor_of w 0) c (drop 1 w.nodes) (low_above 0 (node_at w 0).position c w.runs p.coordinator p.runs)
    (All-from_get_or Q (drop 1 w.nodes) no_node
    (λ i l.
    let there : suc i < length w.nodes = omega (arith, length-drop 1 w.nodes) in
    subst Q (sym (drop_at w i)) (λ e. p.reports (suc i) (omega arith) there e)))
