-- The steps that move, restart, exclude and include nodes, and those of reports, keep a world sound.
use Rattle.std.proofs.Common.{◌≡◌, ℕ, ◌+◌, ◌==◌, ◌<◌, ◌≤◌, true, false, not, max, [], length, get_or, refl, sym, ap, ◌∙◌, subst, ⊎_elim, inl, inr, arith}
use Rattle.std.specs.List.{All, count_by, filter}
use Rattle.std.proofs.lemmas.List.{length-set}
use Rattle.std.proofs.lemmas.List.Elements.{All-push, All-filter, All-weaker, All-get_or, filter_passes}
use Rattle.std.proofs.lemmas.Bool.{eqb-false, ltb-true, ne_eqb, false≢true}
use Rattle.std.proofs.lemmas.Bool.Decides.{eqb_tells}
use Rattle.iq_world.specs.declared.worlds.World.{World}
use Rattle.iq_world.specs.declared.worlds.WorldNode.{WorldNode}
use Rattle.iq_world.specs.declared.worlds.WorldRun.{WorldRun}
use Rattle.iq_world.specs.declared.worlds.Report.{Report}
use Rattle.iq_world.specs.declared.worlds.WorldStep.TheVariants.{Sync, Apply, Send, Lose, TakeReport, Restart, Exclude, Include}
use Rattle.iq_world.specs.World.{node_at, latest_of, report_place, report_of, no_report, runs_on}
use Rattle.iq_world.specs.Floors.{floor_of}
use Rattle.iq_world.specs.Steps.{possible, with_node, moved, with_taken, cleared, synced, applied, report_sent, report_lost, node_restarted, node_excluded, node_included}
use Rattle.iq_world.specs.Sound.{ReportFits, RunFits, IsSound}
use Rattle.iq_world.proofs.Times.{as_one}
use Rattle.iq_world.proofs.Possible.{both, not_true, included_is, secondary_is}
use Rattle.iq_world.proofs.Counts.{node_there, free-with_node, loose-cleared}
use Rattle.iq_world.proofs.Runs.{All-remove, count-push, count-remove, count-filter, count-none}
use Rattle.iq_world.proofs.Rising.{runs_low, bag_low, reports_refit, IsZero, zero_of, nodes_set, good_moves, good_one, good_bagged, Good}

zero_at : (w : World) (n : ℕ) → IsSound w → n ≡ 0 → IsZero (latest_of w) (node_at w n)
zero_at w n g e = subst (λ (k : ℕ). IsZero (latest_of w) (node_at w k)) (sym e) (zero_of w g)

good_moved : (w : World) (n c : ℕ) → n < length w.nodes → (node_at w n).excluded ≡ false → (node_at w n).position ≤ c → c ≤ latest_of w → (n ≡ 0 → c ≡ latest_of w) → IsSound w → Good w (moved n c w)
good_moved w n c h e up made first g =
    good_one w w.free n (record (node_at w n) { position = c })
    (record {
      known = h;
      zero = λ z. (let o = zero_at w n g z in record { position = first z; taken = o.taken; reserved = o.reserved; excluded = o.excluded });
      goes =
          inl
          (record {
            position = up;
            made = made;
            raised = omega arith;
            taken = (g.floors.nodes n h).taken;
            included = λ e. e;
            idle = (g.floors.nodes n h).idle;
          });
      position = up;
      stays = λ k. k;
      loose = λ b. (let same = free-with_node b w n (record (node_at w n) { position = c }) h refl in omega arith);
    })
    g

pub good_sync : (w : World) (n : ℕ) → possible w (Sync n) ≡ true → IsSound w → Good w (synced w n)
unfolding possible
good_sync w n can g =
    let at = included_is w n can in
    good_moved w n (latest_of w) at.0 at.1 (g.floors.nodes n at.0).made (omega arith) (λ _. refl) g

pub good_apply : (w : World) (n : ℕ) → possible w (Apply n) ≡ true → IsSound w → Good w (applied w n)
unfolding possible
good_apply w n can g =
    let tests = both can in
    let at = included_is w n tests.0 in
    let below : (node_at w n).position < latest_of w = ltb-true (node_at w n).position (latest_of w) tests.1 in
    good_moved w n ((node_at w n).position + 1) at.0 at.1 (omega arith) (omega arith)
    (λ z. absurd (let o = (zero_at w n g z).position in omega arith)) g

-- a report in the bag is of a secondary of the world, and not above its floor
pub sent_is : (w : World) (k : ℕ) → possible w (TakeReport k) ≡ true → IsSound w → ReportFits w (report_of w k) × ((report_of w k).floor ≤ floor_of w (report_of w k).node)
unfolding possible
sent_is w k can g =
    let at = ltb-true (report_place w k) (length w.bag) can in (
      All-get_or (ReportFits w) w.bag (report_place w k) no_report at g.form.reports,
      All-get_or (λ (p : Report). p.floor ≤ floor_of w p.node) w.bag (report_place w k) no_report at g.floors.reports,
    )

pub good_taken : (w : World) (n f : ℕ) → 0 < n → n < length w.nodes → f ≤ floor_of w n → IsSound w → Good w (with_taken n f w)
good_taken w n f p h low g =
    let x = record (node_at w n) { taken = max (node_at w n).taken f } in
    let own = (g.floors.nodes n h).taken in
    good_one w w.free n x
    (record {
      known = h;
      zero = λ z. absurd (omega arith);
      goes =
          inl
          (record {
            position = omega arith;
            made = (g.floors.nodes n h).made;
            raised = omega arith;
            taken = omega arith;
            included = λ e. e;
            idle = (g.floors.nodes n h).idle;
          });
      position = omega arith;
      stays = λ e. e;
      loose = λ b. (let same = free-with_node b w n x h refl in omega arith);
    })
    g

-- the runs beside a node fit where nothing but that node changed, and it isn't excluded later or has no run
beside_fit : (w : World) (n : ℕ) (x : WorldNode) → IsSound w → All (RunFits (with_node n x (cleared n w))) (filter (λ (r : WorldRun). not (runs_on n r)) w.runs)
beside_fit w n x g k d l =
    let others = λ (r : WorldRun). not (runs_on n r) in
    let r = get_or (filter others w.runs) k d in
    let fits = All-filter others (RunFits w) w.runs g.floors.runs k d l in
    let off : r.node ≡ n → ⊥ = eqb-false r.node n (not_true (filter_passes others w.runs k d l)) in
    let same : node_at (with_node n x (cleared n w)) r.node ≡ node_at w r.node = node_there (cleared n w) n r.node x off in
    record {
      known = subst (λ (m : ℕ). r.node < m) (sym (length-set w.nodes n x)) fits.known;
      not_excluded = ap (λ (y : WorldNode). y.excluded) same ∙ fits.not_excluded;
      seen = subst (λ (y : WorldNode). r.snapshot ≤ y.position) (sym same) fits.seen;
    }

good_cleared : (w : World) (n : ℕ) (x : WorldNode) → 0 < n → n < length w.nodes → (node_at w n).position ≤ x.position → x.position ≤ latest_of w → x.taken ≡ (node_at w n).taken → (x.excluded ≡ false → (node_at w n).excluded ≡ false) → x.reserved ≡ [] → IsSound w → Good w (with_node n x (cleared n w))
good_cleared w n x p h up made taken included none g =
    let others = λ (r : WorldRun). not (runs_on n r) in
    let runs = filter others w.runs in
    good_moves w (cleared n w).free (with_node n x w).nodes runs
    (record {
      rise =
          nodes_set w runs n x h (λ z. absurd (omega arith))
          (inl
          (record {
            position = up;
            made = made;
            raised = omega arith;
            taken = (let t = (g.floors.nodes n h).taken in omega arith);
            included = included;
            idle = λ _. none;
          }))
          g;
      fits = beside_fit w n x g;
      lows = All-filter others (λ (r : WorldRun). floor_of w r.node ≤ r.snapshot) w.runs (runs_low w);
      sessions =
          λ t. (let fewer = count-filter (λ (r : WorldRun). r.session == t) others w.runs in let few = g.form.sessions t in omega arith);
      loose = λ b. loose-cleared b w n x h none;
    })
    g

pub good_restart : (w : World) (n : ℕ) → possible w (Restart n) ≡ true → IsSound w → Good w (node_restarted w n)
unfolding possible
good_restart w n can g =
    let at = secondary_is w n (both can).0 in
    good_cleared w n (record (node_at w n) { position = latest_of w; incarnation = (node_at w n).incarnation + 1; reserved = [] }) at.0 at.1
    (g.floors.nodes n at.1).made (omega arith) refl (λ e. e) refl g

pub good_exclude : (w : World) (n : ℕ) → possible w (Exclude n) ≡ true → IsSound w → Good w (node_excluded w n)
unfolding possible
good_exclude w n can g =
    let at = secondary_is w n (both can).0 in
    good_cleared w n (record (node_at w n) { incarnation = (node_at w n).incarnation + 1; excluded = true; reserved = [] }) at.0 at.1
    (omega arith) (g.floors.nodes n at.1).made refl (λ e. absurd (false≢true (sym e))) refl g

pub good_include : (w : World) (n : ℕ) → possible w (Include n) ≡ true → IsSound w → Good w (node_included w n)
unfolding possible
good_include w n can g =
    let x = record (node_at w n) { position = latest_of w; taken = latest_of w; excluded = false } in
    let tests = both can in
    let h = ltb-true n (length w.nodes) tests.0 in
    let off : All (λ (r : WorldRun). r.node ≡ n → ⊥) w.runs =
    All-weaker (RunFits w) (λ (r : WorldRun). r.node ≡ n → ⊥)
    (λ r f e. false≢true (sym f.not_excluded ∙ ap (λ (k : ℕ). (node_at w k).excluded) e ∙ tests.1)) w.runs g.floors.runs in
    good_one w w.free n x
    (record {
      known = h;
      zero = λ z. absurd (false≢true (sym (zero_at w n g z).excluded ∙ tests.1));
      goes = inr (record { position = refl; taken = refl; excluded = refl; off = off });
      position = (g.floors.nodes n h).made;
      stays = λ _. refl;
      loose = λ b. (let same = free-with_node b w n x h refl in omega arith);
    })
    g

pub good_send : (w : World) (n : ℕ) → possible w (Send n) ≡ true → IsSound w → Good w (report_sent w n)
unfolding possible
good_send w n can g =
    let v = report_sent w n in
    let at = secondary_is w n (both can).0 in
    let p : Report = record { number = w.next; node = n; floor = floor_of w n } in
    let fresh : count_by (λ (q : Report). q.number == w.next) w.bag ≡ 0 =
    count-none (λ (q : Report). q.number == w.next) w.bag
    (All-weaker (ReportFits w) (λ (q : Report). (q.number == w.next) ≡ false)
    (λ q f. ne_eqb q.number w.next (λ e. (let less = f.given in omega arith))) w.bag g.form.reports) in
    good_bagged w v.bag v.next
    (record {
      numbers =
          λ k.
          let more = count-push (λ (q : Report). q.number == k) w.bag p in
          ⊎_elim
          (λ (e : (((w.next == k) ≡ true) × (w.next ≡ k))).
          let none = subst (λ (m : ℕ). count_by (λ (q : Report). q.number == m) w.bag ≡ 0) e.1 fresh in
          let here = ap as_one e.0 in omega arith)
          (λ (e : (((w.next == k) ≡ false) × ((w.next ≡ k) → ⊥))).
          let here = ap as_one e.0 in let few = g.form.numbers k in omega arith)
          (eqb_tells w.next k);
      reports =
          All-push (ReportFits v) w.bag p (reports_refit w v w.bag refl (omega arith) g.form.reports)
          (record { secondary = at.0; known = at.1; given = omega arith });
      below = All-push (λ (q : Report). (q.node < length w.nodes) × (q.floor ≤ floor_of w q.node)) w.bag p (bag_low w g) (at.1, omega arith);
    })
    g

pub good_lose : (w : World) (k : ℕ) → possible w (Lose k) ≡ true → IsSound w → Good w (report_lost w k)
unfolding possible
good_lose w k can g =
    let v = report_lost w k in
    let at = ltb-true (report_place w k) (length w.bag) can in
    good_bagged w v.bag w.next
    (record {
      numbers =
          λ m.
          let fewer = count-remove (λ (q : Report). q.number == m) w.bag (report_place w k) no_report at in
          let few = g.form.numbers m in omega arith;
      reports = All-remove (ReportFits v) w.bag (report_place w k) (reports_refit w v w.bag refl (omega arith) g.form.reports);
      below = All-remove (λ (q : Report). (q.node < length w.nodes) × (q.floor ≤ floor_of w q.node)) w.bag (report_place w k) (bag_low w g);
    })
    g
