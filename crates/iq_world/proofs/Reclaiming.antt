-- Freeing what was dropped up to the horizon keeps a world sound, and frees exactly that.
use Rattle.std.proofs.Common.{◌≡◌, ℕ, zero, suc, ◌+◌, ◌-◌, ◌<◌, ◌≤◌, true, false, nat_le, max, ◌++◌, length, drop, refl, ap, ◌∙◌, arith}
use Rattle.std.specs.List.{filter, range_with_len}
use Rattle.iq_world.specs.declared.worlds.World.{World}
use Rattle.iq_world.specs.declared.worlds.Reach.{Reach}
use Rattle.iq_world.specs.declared.worlds.WorldStep.TheVariants.{TakeReport}
use Rattle.iq_world.specs.World.{times, node_at, latest_of, report_of}
use Rattle.iq_world.specs.Floors.{floor_of, horizon_of}
use Rattle.iq_world.specs.Space.{roots, dropped_after, waiting, times_free, times_loose, times_bound}
use Rattle.iq_world.specs.Steps.{possible, with_taken, reclaimed_to, reclaimed, report_taken}
use Rattle.iq_world.specs.Sound.{NodeFits, IsSound}
use Rattle.iq_world.specs.Laws.{Reclaims, NeverFalls, KeepsReach}
use Rattle.iq_world.proofs.Counts.{free-with_node}
use Rattle.iq_world.proofs.Times.{times-append, times-put_all, length-put_all}
use Rattle.iq_world.proofs.Lows.{low_le, horizon_le}
use Rattle.iq_world.proofs.Past.{horizon_taken}
use Rattle.iq_world.proofs.Kept.{reach_of-kept, dropped_after-agree, commits-kept}
use Rattle.iq_world.proofs.Drops.{dropped_after-add}
use Rattle.iq_world.proofs.Moving.{sent_is, good_taken}
use Rattle.iq_world.proofs.Rising.{runs_refit, reports_refit, versions_hold, Good}

-- the horizon is at most the floor of every node that isn't excluded
horizon_low : (w : World) (i : ℕ) → i < length w.nodes → (node_at w i).excluded ≡ false → NodeFits w i → horizon_of w ≤ floor_of w i
horizon_low w zero h e f = horizon_le (floor_of w 0) (drop 1 w.nodes)
horizon_low w (suc i) h e f =
    let low = horizon_taken w (suc i) (omega arith) h e in
    let own = f.taken in omega arith

-- what waits is what was dropped up to a commit and what was dropped after it
waits_parted : (w : World) (c : ℕ) → w.base ≤ c → c ≤ latest_of w → waiting w ≡ dropped_after w.reach w.base (c - w.base) ++ dropped_after w.reach c (latest_of w - c)
waits_parted w c low high =
    let sum : latest_of w - w.base ≡ c - w.base + (latest_of w - c) = omega arith in
    let at : w.base + (c - w.base) ≡ c = omega arith in
    ap (dropped_after w.reach w.base) sum ∙ dropped_after-add w.reach w.base (c - w.base) (latest_of w - c)
    ∙ ap (λ (k : ℕ). dropped_after w.reach w.base (c - w.base) ++ dropped_after w.reach k (latest_of w - c)) at

pub sound_reclaimed_to : (w : World) (c : ℕ) → w.base ≤ c → c ≤ latest_of w → ((i : ℕ) → i < length w.nodes → (node_at w i).excluded ≡ false → c ≤ floor_of w i) → IsSound w → IsSound (reclaimed_to c w)
sound_reclaimed_to w c low high floors g =
    let v = reclaimed_to c w in
    let kept = filter (λ (r : Reach). nat_le c r.commit) w.reach in
    record {
      form =
          record {
            coordinator = g.form.coordinator;
            no_taken = g.form.no_taken;
            no_reserved = g.form.no_reserved;
            not_excluded = g.form.not_excluded;
            base_made = high;
            commits =
                (let few : w.base + (latest_of w - w.base + 1) - c ≡ latest_of w - c + 1 = omega arith in
                commits-kept w.reach c w.base (latest_of w - w.base + 1) g.form.commits low (omega arith) ∙ ap (range_with_len c) few);
            sessions = g.form.sessions;
            numbers = g.form.numbers;
            reports = reports_refit w v w.bag refl (omega arith) g.form.reports;
          };
      places =
          λ b.
          let whole = g.places b in
          let waits = ap (times b) (waits_parted w c low high) in
          let parts = times-append b (dropped_after w.reach w.base (c - w.base)) (dropped_after w.reach c (latest_of w - c)) in
          let free = times-put_all b w.free (dropped_after w.reach w.base (c - w.base)) in
          let last = ap (times b) (reach_of-kept w.reach c (latest_of w) high) in
          let rest = ap (times b) (dropped_after-agree kept w.reach c (latest_of w - c) (λ k l m. reach_of-kept w.reach c k l)) in
          let moved : times b roots + times_loose v b + times_bound v b ≡ times b roots + times_loose w b + times_bound w b = omega arith in
          moved ∙ whole;
      versions = versions_hold v;
      floors =
          record {
            runs = runs_refit w v w.runs refl (λ i h. (omega arith, λ e. e)) g.floors.runs;
            nodes =
                λ n h.
                let f = g.floors.nodes n h in
                record { made = f.made; taken = f.taken; base = λ e. floors n h e; idle = f.idle };
            reports = g.floors.reports;
          };
    }

-- the new base of a reclaiming step
new_base : (w : World) → IsSound w → (max w.base (horizon_of w) ≤ latest_of w) × ((i : ℕ) → i < length w.nodes → (node_at w i).excluded ≡ false → max w.base (horizon_of w) ≤ floor_of w i)
new_base w g =
    let made = g.form.base_made in
    let own = horizon_le (floor_of w 0) (drop 1 w.nodes) in
    let low = low_le 0 (node_at w 0).position w.runs in (
      omega arith,
      λ i h e.
          let f = g.floors.nodes i h in
          let base = f.base e in
          let horizon = horizon_low w i h e f in omega arith,
    )

pub sound_reclaimed : (w : World) → IsSound w → IsSound (reclaimed w)
sound_reclaimed w g =
    let c = max w.base (horizon_of w) in
    let new = new_base w g in sound_reclaimed_to w c (omega arith) new.0 new.1 g

-- what it frees
pub reclaims : (w : World) → Reclaims w (reclaimed w)
reclaims w =
    record {
      base = refl;
      free = λ b. times-put_all b w.free (dropped_after w.reach w.base (max w.base (horizon_of w) - w.base));
      count = length-put_all w.free (dropped_after w.reach w.base (max w.base (horizon_of w) - w.base));
      reach = refl;
      reserved = refl;
      private = refl;
    }

-- nothing falls by it, and what both worlds keep is as it was
rises_reclaimed : (w : World) → NeverFalls w (reclaimed w)
rises_reclaimed w =
    record { nodes = refl; latest = omega arith; floor = λ i h. omega arith; taken = λ i h. omega arith; horizon = omega arith; base = omega arith }

reach_reclaimed : (w : World) → KeepsReach w (reclaimed w)
reach_reclaimed w c low kept made = reach_of-kept w.reach (max w.base (horizon_of w)) c kept

held_reclaimed : (w : World) (b : ℕ) → times_free w b ≤ times_loose (reclaimed w) b
held_reclaimed w b = omega (arith, times-put_all b w.free (dropped_after w.reach w.base (max w.base (horizon_of w) - w.base)))

pub good_own : (w : World) → IsSound w → Good w (reclaimed w)
good_own w g =
    record { sound = sound_reclaimed w g; held = held_reclaimed w; rises = rises_reclaimed w; reach = reach_reclaimed w }

pub good_report_taken : (w : World) (k : ℕ) → possible w (TakeReport k) ≡ true → IsSound w → Good w (report_taken w k)
good_report_taken w k can g =
    let p = report_of w k in
    let sent = sent_is w k can g in
    let up = good_taken w p.node p.floor sent.0.secondary sent.0.known sent.1 g in
    let u = with_taken p.node p.floor w in
    let free = λ (b : ℕ). free-with_node b w p.node (record (node_at w p.node) { taken = max (node_at w p.node).taken p.floor }) sent.0.known refl in
    let rises = up.rises in
    let latest = rises.latest in
    let horizon = rises.horizon in
    record {
      sound = sound_reclaimed u up.sound;
      held = λ b. (let same = free b in let held = held_reclaimed u b in omega arith);
      rises = record { nodes = rises.nodes; latest = rises.latest; floor = rises.floor; taken = rises.taken; horizon = rises.horizon; base = omega arith };
      reach = λ c low kept made. reach_of-kept w.reach (max w.base (horizon_of u)) c kept;
    }
