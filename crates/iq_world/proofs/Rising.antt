-- A step that lets no floor fall keeps the floors, and one that moves blocks beside the commits keeps a world sound.
use Rattle.std.proofs.Common.{◌≡◌, ℕ, zero, suc, ◌+◌, ◌-◌, ◌==◌, ◌<◌, ◌≤◌, ◌⊎◌, true, false, nat_lt, List, [], ◌++◌, length, map, drop, get_or, set, refl, sym, ap, ◌∙◌, subst, ⊎_elim, inl, inr, arith}
use Rattle.std.specs.List.{All, count_by, filter, range_with_len}
use Rattle.std.proofs.lemmas.List.{length-set}
use Rattle.std.proofs.lemmas.List.Elements.{All-weaker, All-cons, All-append, All-map, All-filter, All-from_get_or, filter_passes}
use Rattle.iq_world.specs.declared.worlds.World.{World}
use Rattle.iq_world.specs.declared.worlds.WorldNode.{WorldNode}
use Rattle.iq_world.specs.declared.worlds.WorldRun.{WorldRun}
use Rattle.iq_world.specs.declared.worlds.Report.{Report}
use Rattle.iq_world.specs.declared.worlds.Reach.{Reach}
use Rattle.iq_world.specs.World.{times, node_at, no_node, latest_of}
use Rattle.iq_world.specs.Floors.{floor_of, horizon_of, is_counted, live}
use Rattle.iq_world.specs.Space.{roots, reach_of, dropped_after, times_free, times_loose, times_bound, places}
use Rattle.iq_world.specs.Sound.{ReportFits, KeepsVersions, RunFits, NodeFits, Floors, IsSound}
use Rattle.iq_world.specs.Laws.{IsUnreached, NeverFalls, KeepsReach}
use Rattle.iq_world.proofs.Lows.{low_le, low_below, low_above, horizon_le}
use Rattle.iq_world.proofs.Past.{past_of, past_is}
use Rattle.iq_world.proofs.Counts.{node_each}
use Rattle.iq_world.proofs.Kept.{kept_or_dropped}
use Rattle.iq_world.proofs.Drops.{dropped_after-add}
use Rattle.iq_world.proofs.Times.{as_one_le, times-append}
use Rattle.iq_world.proofs.Possible.{not_true}
use Rattle.std.proofs.lemmas.Bool.{false≢true}

-- no run is below its node's floor
pub runs_low : (w : World) → All (λ (r : WorldRun). floor_of w r.node ≤ r.snapshot) w.runs
runs_low w k d h =
    let n = (get_or w.runs k d).node in low_below n (node_at w n).position w.runs k d h refl

-- what a world's node may be after a step by which no floor falls: top is the latest commit then
pub record NodeRises (w : World) (top i : ℕ) (x : WorldNode) : Type 0 where
  pub position : (node_at w i).position ≤ x.position
  pub made : x.position ≤ top
  pub raised : (node_at w i).taken ≤ x.taken
  pub taken : x.taken ≤ floor_of w i
  pub included : x.excluded ≡ false → (node_at w i).excluded ≡ false
  pub idle : x.excluded ≡ true → x.reserved ≡ []

-- or it is new at the latest commit, without runs
pub record IsFresh (top i : ℕ) (rs : List WorldRun) (x : WorldNode) : Type 0 where
  pub position : x.position ≡ top
  pub taken : x.taken ≡ top
  pub excluded : x.excluded ≡ false
  pub off : All (λ (r : WorldRun). r.node ≡ i → ⊥) rs

abbrev pub NodeGoes : World → ℕ → List WorldRun → ℕ → WorldNode → Type 0
NodeGoes w top rs i x = NodeRises w top i x ⊎ IsFresh top i rs x

-- a node as it is, and with another reservation
pub rises_still : (w : World) (top i : ℕ) → latest_of w ≤ top → NodeFits w i → NodeRises w top i (node_at w i)
rises_still w top i h f =
    record { position = omega arith; made = (let m = f.made in omega arith); raised = omega arith; taken = f.taken; included = λ e. e; idle = f.idle }

pub rises_reserved : (w : World) (top i : ℕ) (xs : List ℕ) → latest_of w ≤ top → (node_at w i).excluded ≡ false → NodeFits w i → NodeRises w top i (record (node_at w i) { reserved = xs })
rises_reserved w top i xs h e f =
    record {
      position = omega arith;
      made = (let m = f.made in omega arith);
      raised = omega arith;
      taken = f.taken;
      included = λ e. e;
      idle = λ t. absurd (false≢true (sym e ∙ t));
    }

pub record Rises (w v : World) : Type 0 where
  pub nodes : length v.nodes ≡ length w.nodes
  pub base : v.base ≡ w.base
  pub top : latest_of w ≤ latest_of v
  pub node : (i : ℕ) → i < length w.nodes → NodeGoes w (latest_of v) v.runs i (node_at v i)
  pub runs : All (RunFits v) v.runs
  pub lows : All (λ (r : WorldRun). floor_of w r.node ≤ r.snapshot) v.runs
  pub reports : All (λ (p : Report). (p.node < length w.nodes) × (p.floor ≤ floor_of w p.node)) v.bag

-- a node is at no earlier commit, and its taken floor isn't less
pub record Climbs (w v : World) (i : ℕ) : Type 0 where
  pub position : (node_at w i).position ≤ (node_at v i).position
  pub taken : (node_at w i).taken ≤ (node_at v i).taken

climbs : (w v : World) → Rises w v → Floors w → (i : ℕ) → i < length w.nodes → Climbs w v i
climbs w v r f i h =
    let fits = f.nodes i h in
    let top = r.top in
    let low = low_le i (node_at w i).position w.runs in
    let own = fits.taken in
    let made = fits.made in
    ⊎_elim
    (λ (up : NodeRises w (latest_of v) i (node_at v i)). record { position = up.position; taken = up.raised })
    (λ (new : IsFresh (latest_of v) i v.runs (node_at v i)).
    let p = new.position in
    let t = new.taken in record { position = omega arith; taken = omega arith })
    (r.node i h)

pub floor_rise : (w v : World) (i : ℕ) → (node_at w i).position ≤ (node_at v i).position → All (λ (r : WorldRun). floor_of w r.node ≤ r.snapshot) v.runs → floor_of w i ≤ floor_of v i
floor_rise w v i h lows =
    low_above i (node_at v i).position (floor_of w i) v.runs (omega (arith, low_le i (node_at w i).position w.runs))
    (All-weaker (λ (r : WorldRun). floor_of w r.node ≤ r.snapshot) (λ (r : WorldRun). r.node ≡ i → floor_of w i ≤ r.snapshot) (λ r l e. subst (λ (k : ℕ). floor_of w k ≤ r.snapshot) e l) v.runs lows)

pub floors_rise : (w v : World) → Rises w v → IsSound w → Floors v
floors_rise w v r s =
    let f = s.floors in
    let rise : (i : ℕ) → i < length w.nodes → floor_of w i ≤ floor_of v i = λ i h. floor_rise w v i (climbs w v r f i h).position r.lows in
    record {
      runs = r.runs;
      nodes =
          λ n h.
          let hw : n < length w.nodes = subst (λ (k : ℕ). n < k) r.nodes h in
          let up = rise n hw in
          ⊎_elim
          (λ (g : NodeRises w (latest_of v) n (node_at v n)).
          record {
            made = g.made;
            taken = (let t = g.taken in omega arith);
            base = λ e. (let b = (f.nodes n hw).base (g.included e) in let s = r.base in omega arith);
            idle = g.idle;
          })
          (λ (g : IsFresh (latest_of v) n v.runs (node_at v n)).
          let at = g.position in
          let own = g.taken in
          let low : latest_of v ≤ floor_of v n =
          low_above n (node_at v n).position (latest_of v) v.runs (omega arith)
          (All-weaker (λ (r : WorldRun). r.node ≡ n → ⊥) (λ (r : WorldRun). r.node ≡ n → latest_of v ≤ r.snapshot) (λ r ne q. absurd (ne q)) v.runs g.off) in
          let top = r.top in
          let base = r.base in
          record {
            made = omega arith;
            taken = omega arith;
            base = λ _. (let b = s.form.base_made in omega arith);
            idle = λ q. absurd (false≢true (sym g.excluded ∙ q));
          })
          (r.node n hw);
      reports =
          All-weaker (λ (p : Report). (p.node < length w.nodes) × (p.floor ≤ floor_of w p.node)) (λ (p : Report). p.floor ≤ floor_of v p.node)
          (λ p h. (let up = rise p.node h.0 in omega arith)) v.bag r.reports;
    }

-- runs still fit where no node falls back or is excluded
pub runs_refit : (w v : World) (rs : List WorldRun) → length v.nodes ≡ length w.nodes → ((i : ℕ) → i < length w.nodes → ((node_at w i).position ≤ (node_at v i).position) × ((node_at w i).excluded ≡ false → (node_at v i).excluded ≡ false)) → All (RunFits w) rs → All (RunFits v) rs
runs_refit w v rs same up all =
    All-weaker (RunFits w) (RunFits v)
    (λ r f.
    let u = up r.node f.known in
    record { known = subst (λ (k : ℕ). r.node < k) (sym same) f.known; not_excluded = u.1 f.not_excluded; seen = (let a = u.0 in let b = f.seen in omega arith) })
    rs all

-- the versions are kept in every world
pub versions_hold : (w : World) → KeepsVersions w
versions_hold w b c low high h =
    let there : c + (latest_of w - c) ≡ latest_of w = omega arith in
    subst (λ (k : ℕ). 0 < times b (reach_of w.reach k) + times b (dropped_after w.reach c (latest_of w - c))) there
    (kept_or_dropped b w.reach c (latest_of w - c) h)

-- the reports of a world are of its nodes and not above their floors
pub bag_low : (w : World) → IsSound w → All (λ (p : Report). (p.node < length w.nodes) × (p.floor ≤ floor_of w p.node)) w.bag
bag_low w s k d h = ((s.form.reports k d h).known, s.floors.reports k d h)

-- nothing falls where floors rise
pub never_falls : (w v : World) → Rises w v → IsSound w → NeverFalls w v
never_falls w v r s =
    let up = λ (i : ℕ) (h : i < length w.nodes). climbs w v r s.floors i h in
    let old = past_of w (horizon_of w) (omega arith) in
    let low = horizon_le (floor_of w 0) (drop 1 w.nodes) in
    let top = r.top in
    let base = r.base in
    record {
      nodes = r.nodes;
      latest = r.top;
      floor = λ i h. floor_rise w v i (up i h).position r.lows;
      taken = λ i h. (up i h).taken;
      horizon =
          past_is v (horizon_of w)
          (record {
            coordinator = (let c = old.coordinator in omega arith);
            runs =
                All-weaker (λ (r : WorldRun). floor_of w r.node ≤ r.snapshot) (λ (r : WorldRun). r.node ≡ 0 → horizon_of w ≤ r.snapshot)
                (λ r l e. (let at : floor_of w 0 ≤ r.snapshot = subst (λ (k : ℕ). floor_of w k ≤ r.snapshot) e l in omega arith)) v.runs r.lows;
            reports =
                λ n some k e.
                let h : n < length w.nodes = subst (λ (m : ℕ). n < m) r.nodes k in
                ⊎_elim
                (λ (g : NodeRises w (latest_of v) n (node_at v n)). (let t = old.reports n some h (g.included e) in let u = g.raised in omega arith))
                (λ (g : IsFresh (latest_of v) n v.runs (node_at v n)). (let t = g.taken in let c = old.coordinator in omega arith))
                (r.node n h);
          });
      base = omega arith;
    }

-- what a step keeps: the world is sound after it, what was free before is free or private, and nothing falls
pub record Good (w v : World) : Type 0 where
  pub sound : IsSound v
  pub held : (b : ℕ) → times_free w b ≤ times_loose v b
  pub rises : NeverFalls w v
  pub reach : KeepsReach w v

-- what node 0 is where top is the latest commit
pub record IsZero (top : ℕ) (x : WorldNode) : Type 0 where
  pub position : x.position ≡ top
  pub taken : x.taken ≡ 0
  pub reserved : x.reserved ≡ []
  pub excluded : x.excluded ≡ false

pub zero_of : (w : World) → IsSound w → IsZero (latest_of w) (node_at w 0)
zero_of w s = record { position = refl; taken = s.form.no_taken; reserved = s.form.no_reserved; excluded = s.form.not_excluded }

-- a world with other free blocks, nodes, runs and reports, and the same commits
abbrev pub beside : World → List ℕ → List WorldNode → List WorldRun → List Report → ℕ → World
beside w free nodes runs bag next = record w { free = free; nodes = nodes; runs = runs; bag = bag; next = next }

-- nodes that may take the place of a world's: by them no floor falls, and the coordinator stays what it is
pub record NodesRise (w : World) (rs : List WorldRun) (ns : List WorldNode) : Type 0 where
  pub same : length ns ≡ length w.nodes
  pub zero : IsZero (latest_of w) (get_or ns 0 no_node)
  pub each : (i : ℕ) → i < length w.nodes → NodeGoes w (latest_of w) rs i (get_or ns i no_node)

-- the nodes as they are, and with one in another's place
pub nodes_still : (w : World) (rs : List WorldRun) → IsSound w → NodesRise w rs w.nodes
nodes_still w rs g =
    record { same = refl; zero = zero_of w g; each = λ i h. inl (rises_still w (latest_of w) i (omega arith) (g.floors.nodes i h)) }

pub nodes_set : (w : World) (rs : List WorldRun) (n : ℕ) (x : WorldNode) → n < length w.nodes → (n ≡ 0 → IsZero (latest_of w) x) → NodeGoes w (latest_of w) rs n x → IsSound w → NodesRise w rs (set w.nodes n x)
nodes_set w rs n x h first goes g =
    record {
      same = length-set w.nodes n x;
      zero = node_each (λ i y. i ≡ 0 → IsZero (latest_of w) y) w n x h first 0 (λ _ _. zero_of w g) refl;
      each =
          λ i l.
          node_each (NodeGoes w (latest_of w) rs) w n x h goes i
          (λ _. inl (rises_still w (latest_of w) i (omega arith) (g.floors.nodes i l)));
    }

-- a step beside the commits: it makes none, and only moves blocks that are free or private
pub record Beside (w : World) (free : List ℕ) (nodes : List WorldNode) (runs : List WorldRun) (bag : List Report) (next : ℕ) : Type 0 where
  pub rise : NodesRise w runs nodes
  pub fits : All (RunFits (beside w free nodes runs bag next)) runs
  pub lows : All (λ (r : WorldRun). floor_of w r.node ≤ r.snapshot) runs
  pub sessions : (s : ℕ) → count_by (λ (r : WorldRun). r.session == s) runs ≤ 1
  pub numbers : (k : ℕ) → count_by (λ (p : Report). p.number == k) bag ≤ 1
  pub reports : All (ReportFits (beside w free nodes runs bag next)) bag
  pub below : All (λ (p : Report). (p.node < length w.nodes) × (p.floor ≤ floor_of w p.node)) bag
  pub loose : (b : ℕ) → times_loose (beside w free nodes runs bag next) b ≡ times_loose w b

-- what commits reach and drop, by the kept reaches, the base and the latest commit
abbrev pub bound_by : ℕ → List Reach → ℕ → ℕ → ℕ
bound_by b rs base latest = times b (reach_of rs latest) + times b (dropped_after rs base (latest - base))

pub good_beside : (w : World) (free : List ℕ) (nodes : List WorldNode) (runs : List WorldRun) (bag : List Report) (next : ℕ) → Beside w free nodes runs bag next → IsSound w → Good w (beside w free nodes runs bag next)
good_beside w free nodes runs bag next k s =
    let v = beside w free nodes runs bag next in
    let at = k.rise.zero.position in
    let rises : Rises w v =
    record {
      nodes = k.rise.same;
      base = refl;
      top = omega arith;
      node = λ i h. subst (λ (top : ℕ). NodeGoes w top runs i (get_or nodes i no_node)) (sym at) (k.rise.each i h);
      runs = k.fits;
      lows = k.lows;
      reports = k.below;
    } in
    record {
      sound =
          record {
            form =
                record {
                  coordinator = subst (λ (m : ℕ). 0 < m) (sym k.rise.same) s.form.coordinator;
                  no_taken = k.rise.zero.taken;
                  no_reserved = k.rise.zero.reserved;
                  not_excluded = k.rise.zero.excluded;
                  base_made = (let c = s.form.base_made in omega arith);
                  commits = s.form.commits ∙ ap (λ (l : ℕ). range_with_len w.base (l - w.base + 1)) (sym at);
                  sessions = k.sessions;
                  numbers = k.numbers;
                  reports = k.reports;
                };
            places =
                λ b.
                ap (λ (n : ℕ). times b roots + n + times_bound v b) (k.loose b)
                ∙ ap (λ (c : ℕ). times b roots + times_loose w b + bound_by b w.reach w.base c) at ∙ s.places b;
            versions = versions_hold v;
            floors = floors_rise w v rises s;
          };
      held = λ b. (let l = k.loose b in omega arith);
      rises = never_falls w v rises s;
      reach = λ c low kept made. refl;
    }

-- nothing changes
pub good_same : (w : World) → IsSound w → Good w w
good_same w s =
    record {
      sound = s;
      held = λ b. omega arith;
      rises = record { nodes = refl; latest = omega arith; floor = λ i h. omega arith; taken = λ i h. omega arith; horizon = omega arith; base = omega arith };
      reach = λ c low kept made. refl;
    }

pub zero_or_more : (n : ℕ) → (n ≡ 0) ⊎ (0 < n)
zero_or_more zero = inl refl
zero_or_more (suc n) = inr (omega arith)

-- what is a root block, free or private no kept commit reaches
pub kept_apart : (w : World) (b c : ℕ) → IsSound w → 0 < times b roots + times_loose w b → w.base ≤ c → c ≤ latest_of w → times b (reach_of w.reach c) ≡ 0
kept_apart w b c s h low high =
    let once : places w b ≤ 1 = subst (λ (n : ℕ). n ≤ 1) (sym (s.places b)) (as_one_le (nat_lt b w.count)) in
    let parts : dropped_after w.reach w.base (latest_of w - w.base) ≡ dropped_after w.reach w.base (c - w.base) ++ dropped_after w.reach c (latest_of w - c) =
    (let sum : latest_of w - w.base ≡ c - w.base + (latest_of w - c) = omega arith in
    let at : w.base + (c - w.base) ≡ c = omega arith in
    ap (dropped_after w.reach w.base) sum ∙ dropped_after-add w.reach w.base (c - w.base) (latest_of w - c)
    ∙ ap (λ (k : ℕ). dropped_after w.reach w.base (c - w.base) ++ dropped_after w.reach k (latest_of w - c)) at) in
    let more = ap (times b) parts ∙ times-append b (dropped_after w.reach w.base (c - w.base)) (dropped_after w.reach c (latest_of w - c)) in
    ⊎_elim (λ (z : times b (reach_of w.reach c) ≡ 0). z)
    (λ (p : 0 < times b (reach_of w.reach c)). absurd (let k = s.versions b c low high p in omega arith)) (zero_or_more (times b (reach_of w.reach c)))

-- what holds of every kept commit holds of every live snapshot
pub live_kept : (P : ℕ → Type 0) (w : World) → IsSound w → ((c : ℕ) → w.base ≤ c → c ≤ latest_of w → P c) → All P (live w)
live_kept P w s kept =
    let own = s.floors.nodes in
    let made = s.form.base_made in
    let nodes : All (λ (n : WorldNode). n.excluded ≡ false → P n.position) w.nodes =
    All-from_get_or (λ (n : WorldNode). n.excluded ≡ false → P n.position) w.nodes no_node
    (λ i l e.
    let f = own i l in
    let a = f.base e in
    let m = f.made in
    let z = low_le i (node_at w i).position w.runs in
    kept (node_at w i).position (omega arith) (omega arith)) in
    All-cons P (latest_of w) _ (kept (latest_of w) (omega arith) (omega arith))
    (All-append P (map (λ (n : WorldNode). n.position) (filter is_counted w.nodes)) (map (λ (r : WorldRun). r.snapshot) w.runs)
    (All-map P (λ (n : WorldNode). n.position) (filter is_counted w.nodes)
    (λ k d l.
    All-filter is_counted (λ (n : WorldNode). n.excluded ≡ false → P n.position) w.nodes nodes k d l
    (not_true (filter_passes is_counted w.nodes k d l))))
    (All-map P (λ (r : WorldRun). r.snapshot) w.runs
    (λ k d l.
    let r = get_or w.runs k d in
    let fits = s.floors.runs k d l in
    let f = own r.node fits.known in
    let a = f.base fits.not_excluded in
    let m = f.made in
    let seen = fits.seen in
    let low = runs_low w k d l in
    kept r.snapshot (omega arith) (omega arith))))

pub spared : (w : World) (b : ℕ) → IsSound w → 0 < times b roots + times_loose w b → IsUnreached w b
spared w b s h = live_kept (λ c. times b (reach_of w.reach c) ≡ 0) w s (λ c low high. kept_apart w b c s h low high)

-- reports still fit where no node is lost and the next number doesn't fall
pub reports_refit : (w v : World) (ps : List Report) → length v.nodes ≡ length w.nodes → w.next ≤ v.next → All (ReportFits w) ps → All (ReportFits v) ps
reports_refit w v ps same up all =
    All-weaker (ReportFits w) (ReportFits v)
    (λ p f. record { secondary = f.secondary; known = subst (λ (k : ℕ). p.node < k) (sym same) f.known; given = (let g = f.given in omega arith) }) ps all

-- a step beside the commits and the reports
pub record Moves (w : World) (free : List ℕ) (nodes : List WorldNode) (runs : List WorldRun) : Type 0 where
  pub rise : NodesRise w runs nodes
  pub fits : All (RunFits (beside w free nodes runs w.bag w.next)) runs
  pub lows : All (λ (r : WorldRun). floor_of w r.node ≤ r.snapshot) runs
  pub sessions : (s : ℕ) → count_by (λ (r : WorldRun). r.session == s) runs ≤ 1
  pub loose : (b : ℕ) → times_loose (beside w free nodes runs w.bag w.next) b ≡ times_loose w b

pub good_moves : (w : World) (free : List ℕ) (nodes : List WorldNode) (runs : List WorldRun) → Moves w free nodes runs → IsSound w → Good w (beside w free nodes runs w.bag w.next)
good_moves w free nodes runs m s =
    good_beside w free nodes runs w.bag w.next
    (record {
      rise = m.rise;
      fits = m.fits;
      lows = m.lows;
      sessions = m.sessions;
      numbers = s.form.numbers;
      reports = reports_refit w (beside w free nodes runs w.bag w.next) w.bag m.rise.same (omega arith) s.form.reports;
      below = bag_low w s;
      loose = m.loose;
    })
    s

-- a step beside the commits by which one node changes and another list of free blocks stands: no floor falls by the node, the
-- coordinator stays what it is, and none is excluded
pub record OneNode (w : World) (free : List ℕ) (n : ℕ) (x : WorldNode) : Type 0 where
  pub known : n < length w.nodes
  pub zero : n ≡ 0 → IsZero (latest_of w) x
  pub goes : NodeGoes w (latest_of w) w.runs n x
  pub position : (node_at w n).position ≤ x.position
  pub stays : (node_at w n).excluded ≡ false → x.excluded ≡ false
  pub loose : (b : ℕ) → times_loose (beside w free (set w.nodes n x) w.runs w.bag w.next) b ≡ times_loose w b

pub good_one : (w : World) (free : List ℕ) (n : ℕ) (x : WorldNode) → OneNode w free n x → IsSound w → Good w (beside w free (set w.nodes n x) w.runs w.bag w.next)
good_one w free n x m s =
    good_moves w free (set w.nodes n x) w.runs
    (record {
      rise = nodes_set w w.runs n x m.known m.zero m.goes s;
      fits =
          runs_refit w (beside w free (set w.nodes n x) w.runs w.bag w.next) w.runs (length-set w.nodes n x)
          (λ i l.
          node_each (λ i y. ((node_at w i).position ≤ y.position) × ((node_at w i).excluded ≡ false → y.excluded ≡ false)) w n x m.known
          (m.position, m.stays) i (λ _. (omega arith, λ e. e)))
          s.floors.runs;
      lows = runs_low w;
      sessions = s.form.sessions;
      loose = m.loose;
    })
    s

-- a step beside the commits by which only reports change
pub record Bagged (w : World) (bag : List Report) (next : ℕ) : Type 0 where
  pub numbers : (k : ℕ) → count_by (λ (p : Report). p.number == k) bag ≤ 1
  pub reports : All (ReportFits (beside w w.free w.nodes w.runs bag next)) bag
  pub below : All (λ (p : Report). (p.node < length w.nodes) × (p.floor ≤ floor_of w p.node)) bag

pub good_bagged : (w : World) (bag : List Report) (next : ℕ) → Bagged w bag next → IsSound w → Good w (beside w w.free w.nodes w.runs bag next)
good_bagged w bag next m s =
    good_beside w w.free w.nodes w.runs bag next
    (record {
      rise = nodes_still w w.runs s;
      fits = runs_refit w (beside w w.free w.nodes w.runs bag next) w.runs refl (λ i h. (omega arith, λ e. e)) s.floors.runs;
      lows = runs_low w;
      sessions = s.form.sessions;
      numbers = m.numbers;
      reports = m.reports;
      below = m.below;
      loose = λ b. refl;
    })
    s
