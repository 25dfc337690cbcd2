-- A commit keeps a world sound.
use Rattle.std.proofs.Common.{◌≡◌, ℕ, suc, ◌+◌, ◌-◌, ◌==◌, ◌<◌, ◌≤◌, ◌⊎◌, Bool, true, false, ◌||◌, nat_lt, List, [], ◌∷◌, ◌++◌, length, refl, sym, ap, ◌∙◌, subst, ⊎_elim, inl, inr, arith}
use Rattle.std.specs.List.{list_all, range_with_len}
use Rattle.std.proofs.lemmas.List.{length-set, map_push}
use Rattle.std.proofs.lemmas.Bool.{eqb-true, false≢true}
use Rattle.std.proofs.lemmas.Bool.Decides.{eqb_tells}
use Rattle.iq_world.specs.declared.worlds.World.{World}
use Rattle.iq_world.specs.declared.worlds.WorldNode.{WorldNode}
use Rattle.iq_world.specs.declared.worlds.WorldRun.{WorldRun}
use Rattle.iq_world.specs.declared.worlds.Reach.{Reach}
use Rattle.iq_world.specs.declared.worlds.WorldStep.TheVariants.{Commit}
use Rattle.iq_world.specs.World.{times, holds, without, put_all, node_at, latest_of, run_place, run_of, no_run}
use Rattle.iq_world.specs.Floors.{floor_of}
use Rattle.iq_world.specs.Space.{roots, reach_of, dropped, dropped_after, waiting, times_free, times_loose, times_bound}
use Rattle.iq_world.specs.Steps.{possible, moved, without_run, ended_with, committed, are_distinct, are_from}
use Rattle.iq_world.specs.Laws.{Commits}
use Rattle.iq_world.specs.Sound.{RunFits, IsSound}
use Rattle.iq_world.proofs.Times.{as_one_le, held_times, unheld_times, times-append, times-without_held, times-without_unheld}
use Rattle.iq_world.proofs.Kept.{reach_of-other, reach_of-last, dropped_after-agree, numbers-more}
use Rattle.iq_world.proofs.Drops.{dropped_next, dropped_after-more}
use Rattle.iq_world.proofs.Possible.{both}
use Rattle.iq_world.proofs.Counts.{node_here, node_each, home_each, home_length, free-sent_home, free-with_node, private-without_run}
use Rattle.iq_world.proofs.Runs.{All-remove, count-remove}
use Rattle.iq_world.proofs.Rising.{runs_low, Rises, floors_rise, never_falls, bag_low, NodeRises, rises_still, rises_reserved, runs_refit, reports_refit, versions_hold, Good}
use Rattle.iq_world.proofs.Stepping.{runs_at}

-- a test that every number of a list passes, one that the list holds passes
pub all_held : (p : ℕ → Bool) (xs : List ℕ) (b : ℕ) → list_all p xs ≡ true → holds xs b ≡ true → p b ≡ true
all_held p [] b a h = absurd (false≢true h)
all_held p (x ∷ xs) b a h =
    let t = both a in
    ⊎_elim (λ e. subst (λ (y : ℕ). p y ≡ true) e.1 t.0) (λ e. all_held p xs b t.1 (rw e.0 at h)) (eqb_tells x b)

pub either : {a b : Bool} → (a || b) ≡ true → (a ≡ true) ⊎ (b ≡ true)
either {a} {b} =
    elim a as (λ (t : Bool). (t || b) ≡ true → (t ≡ true) ⊎ (b ≡ true)) [ true ↦ λ _. inl refl | false ↦ λ h. inr h ]

-- what the new commit reaches, what others drop and what goes home are what the latest reached and what was private
traded : (b : ℕ) (blocks old private : List ℕ) → are_distinct blocks ≡ true → are_from blocks old private ≡ true → times b old + times b private ≤ 1 → times b blocks + times b (without old blocks) + times b (without private blocks) ≡ times b old + times b private
traded b blocks old private distinct from once =
    let P : Bool → Type 0 = λ t. holds blocks b ≡ t → times b blocks + times b (without old blocks) + times b (without private blocks) ≡ times b old + times b private in
    (elim (holds blocks b) as P [
      | true ↦
          λ h.
          let one = eqb-true (times b blocks) 1 (all_held (λ x. times x blocks == 1) blocks b distinct h) in
          let some : 0 < times b old + times b private =
          ⊎_elim (λ a. (let k = held_times b old a in omega arith)) (λ a. (let k = held_times b private a in omega arith))
          (either (all_held (λ x. holds old x || holds private x) blocks b from h)) in
          omega (arith, times-without_held b old blocks h, times-without_held b private blocks h)
      | false ↦
          λ h. omega (arith, unheld_times b blocks h, times-without_unheld b old blocks h, times-without_unheld b private blocks h)
    ]) refl

-- a property of every node after a commit: nodes as they are have it, so has the committing one with another reservation, and each
-- keeps it at the new commit
committed_each : (P : ℕ → WorldNode → Type 0) (w : World) (s : ℕ) (blocks : List ℕ) → (run_of w s).node < length w.nodes → ((i : ℕ) → i < length w.nodes → P i (node_at w i)) → ((xs : List ℕ) → ((run_of w s).node ≡ 0 → ⊥) → P (run_of w s).node (record (node_at w (run_of w s).node) { reserved = xs })) → ((i : ℕ) (x : WorldNode) → P i x → P i (record x { position = latest_of w + 1 })) → (i : ℕ) → i < length w.nodes → P i (node_at (committed w s blocks) i)
committed_each P w s blocks h still home move i l =
    let n = (run_of w s).node in
    let c = latest_of w + 1 in
    let others = without (run_of w s).private blocks in
    let xs = put_all (node_at w n).reserved others in
    let ended = ended_with w s others in
    let m = moved n c ended in
    let same : length ended.nodes ≡ length w.nodes = home_length w n (record (node_at w n) { reserved = xs }) in
    let there : n < length ended.nodes = subst (λ (k : ℕ). n < k) (sym same) h in
    let some : 0 < length m.nodes = (let e = length-set ended.nodes n (record (node_at ended n) { position = c }) in omega arith) in
    let at_end : (j : ℕ) → j < length w.nodes → P j (node_at ended j) = λ j k. home_each P w n xs h (home xs) j (still j k) in
    let at_move : (j : ℕ) → j < length w.nodes → P j (node_at m j) =
    λ j k. node_each P ended n (record (node_at ended n) { position = c }) there (move n (node_at ended n) (at_end n h)) j (λ _. at_end j k) in
    node_each P m 0 (record (node_at m 0) { position = c }) some (move 0 (node_at m 0) (at_move 0 (omega arith))) i (λ _. at_move i l)

-- the world after a commit has as many nodes, and its latest commit is the next one
committed_length : (w : World) (s : ℕ) (blocks : List ℕ) → length (committed w s blocks).nodes ≡ length w.nodes
committed_length w s blocks =
    let n = (run_of w s).node in
    let c = latest_of w + 1 in
    let ended = ended_with w s (without (run_of w s).private blocks) in
    let m = moved n c ended in
    length-set m.nodes 0 (record (node_at m 0) { position = c }) ∙ length-set ended.nodes n (record (node_at ended n) { position = c })
    ∙ home_length w n (record (node_at w n) { reserved = put_all (node_at w n).reserved (without (run_of w s).private blocks) })

committed_latest : (w : World) (s : ℕ) (blocks : List ℕ) → 0 < length w.nodes → latest_of (committed w s blocks) ≡ latest_of w + 1
committed_latest w s blocks some =
    let n = (run_of w s).node in
    let c = latest_of w + 1 in
    let m = moved n c (ended_with w s (without (run_of w s).private blocks)) in
    let x = record (node_at m 0) { position = c } in
    let here : 0 < length m.nodes = (let e = committed_length w s blocks in let f = length-set m.nodes 0 x in omega arith) in
    ap (λ (y : WorldNode). y.position) (node_here m 0 x here)

-- the private blocks that the commit doesn't reach are free
committed_free : (b : ℕ) (w : World) (s : ℕ) (blocks : List ℕ) → (run_of w s).node < length w.nodes → times_free (committed w s blocks) b ≡ times_free w b + times b (without (run_of w s).private blocks)
committed_free b w s blocks h =
    let n = (run_of w s).node in
    let c = latest_of w + 1 in
    let others = without (run_of w s).private blocks in
    let ended = ended_with w s others in
    let m = moved n c ended in
    let first = record (node_at m 0) { position = c } in
    let node = record (node_at ended n) { position = c } in
    let there : n < length ended.nodes =
    (let e = home_length w n (record (node_at w n) { reserved = put_all (node_at w n).reserved others }) in omega arith) in
    let some : 0 < length m.nodes = (let e = length-set ended.nodes n node in omega arith) in
    free-with_node b m 0 first some refl ∙ free-with_node b ended n node there refl ∙ free-sent_home b (without_run s w) n others h

-- what a commit reaches, what it drops and what waits after it
pub commits : (w : World) (s : ℕ) (blocks : List ℕ) → IsSound w → Commits w blocks (committed w s blocks)
commits w s blocks g =
    let v = committed w s blocks in
    let c = latest_of w + 1 in
    let r : Reach = record { commit = c; blocks = blocks } in
    let rs = w.reach ++ r ∷ [] in
    let k = latest_of w - w.base in
    let made = g.form.base_made in
    let top = committed_latest w s blocks g.form.coordinator in
    let next : w.base + (latest_of w - w.base + 1) ≡ c = omega arith in
    let last : reach_of rs c ≡ blocks = ap (reach_of rs) (sym next) ∙ reach_of-last w.reach r w.base (latest_of w - w.base + 1) g.form.commits (sym next) in
    let others : (j : ℕ) → j ≤ latest_of w → reach_of rs j ≡ reach_of w.reach j =
    λ j m. reach_of-other w.reach r j (λ (e : c ≡ j). absurd (omega arith)) in
    let at : w.base + k ≡ latest_of w = omega arith in
    let more : latest_of v - w.base ≡ suc k = omega arith in
    let new : dropped rs c ≡ without (reach_of w.reach (latest_of w)) blocks =
    dropped_next rs (latest_of w) ∙ ap (λ (xs : List ℕ). without xs (reach_of rs c)) (others (latest_of w) (omega arith))
    ∙ ap (without (reach_of w.reach (latest_of w))) last in
    record {
      latest = top;
      base = refl;
      reach = ap (reach_of rs) top ∙ last;
      drops = ap (dropped rs) top ∙ new;
      others =
          λ j past most.
          let before = others (j - 1) (omega arith) in
          let here = others j most in
          ap (λ (xs : List ℕ). without xs (reach_of rs j)) before ∙ ap (without (reach_of w.reach (j - 1))) here;
      waits =
          ap (dropped_after rs w.base) more ∙ dropped_after-more rs w.base k
          ∙ ap (λ (xs : List ℕ). xs ++ dropped rs (w.base + k + 1)) (dropped_after-agree rs w.reach w.base k (λ j l m. others j (omega arith)))
          ∙ ap (λ (j : ℕ). waiting w ++ dropped rs (j + 1)) at ∙ ap (λ (xs : List ℕ). waiting w ++ xs) new;
    }

-- what is reached and what waits after a commit
committed_bound : (b : ℕ) (w : World) (s : ℕ) (blocks : List ℕ) → IsSound w → times_bound (committed w s blocks) b ≡ times b blocks + (times b (waiting w) + times b (without (reach_of w.reach (latest_of w)) blocks))
committed_bound b w s blocks g =
    let made = commits w s blocks g in
    ap (λ (xs : List ℕ). times b xs + times b (waiting (committed w s blocks))) made.reach
    ∙ ap (λ (n : ℕ). times b blocks + n) (ap (times b) made.waits ∙ times-append b (waiting w) (without (reach_of w.reach (latest_of w)) blocks))

pub good_commit : (w : World) (s : ℕ) (blocks : List ℕ) → possible w (Commit s blocks) ≡ true → IsSound w → Good w (committed w s blocks)
unfolding possible
good_commit w s blocks can g =
    let v = committed w s blocks in
    let c = latest_of w + 1 in
    let n = (run_of w s).node in
    let private = (run_of w s).private in
    let old = reach_of w.reach (latest_of w) in
    let tests = both can in
    let more = both tests.0 in
    let few = both more.0 in
    let r = runs_at w s few.0 g in
    let top = committed_latest w s blocks g.form.coordinator in
    let same = committed_length w s blocks in
    let made = g.form.base_made in
    let zero_kept =
    committed_each (λ i x. i ≡ 0 → (x.taken ≡ 0) × (x.reserved ≡ []) × (x.excluded ≡ false)) w s blocks r.fits.known
    (λ i l e. subst (λ (j : ℕ). ((node_at w j).taken ≡ 0) × ((node_at w j).reserved ≡ []) × ((node_at w j).excluded ≡ false)) (sym e) (g.form.no_taken, g.form.no_reserved, g.form.not_excluded))
    (λ xs ne e. absurd (ne e)) (λ i x k. k) 0 g.form.coordinator refl in
    let known =
    committed_each (λ i x. ((node_at w i).position ≤ x.position) × (x.position ≤ c) × ((node_at w i).excluded ≡ false → x.excluded ≡ false)) w s blocks r.fits.known
    (λ i l. (omega arith, (let m = (g.floors.nodes i l).made in omega arith), λ e. e))
    (λ xs ne. (omega arith, (let m = (g.floors.nodes n r.fits.known).made in omega arith), λ e. e))
    (λ i x k. ((let a = k.0 in let b = k.1 in omega arith), omega arith, k.2)) in
    let rises =
    committed_each (NodeRises w c) w s blocks r.fits.known
    (λ i l. rises_still w c i (omega arith) (g.floors.nodes i l))
    (λ xs ne. rises_reserved w c n xs (omega arith) r.fits.not_excluded (g.floors.nodes n r.fits.known))
    (λ i x k. record { position = (let a = k.position in let b = k.made in omega arith); made = omega arith; raised = k.raised; taken = k.taken; included = k.included; idle = k.idle }) in
    let up : Rises w v =
    record {
      nodes = same;
      base = refl;
      top = omega arith;
      node = λ i h. inl (subst (λ (m : ℕ). NodeRises w m i (node_at v i)) (sym top) (rises i h));
      runs = runs_refit w v v.runs same (λ i l. (let k = known i l in (k.0, k.2))) (All-remove (RunFits w) w.runs (run_place w s) g.floors.runs);
      lows = All-remove (λ (x : WorldRun). floor_of w x.node ≤ x.snapshot) w.runs (run_place w s) (runs_low w);
      reports = bag_low w g;
    } in
    record {
      sound =
          record {
            form =
                record {
                  coordinator = subst (λ (m : ℕ). 0 < m) (sym same) g.form.coordinator;
                  no_taken = zero_kept.0;
                  no_reserved = zero_kept.1;
                  not_excluded = zero_kept.2;
                  base_made = omega arith;
                  commits =
                      (let k = latest_of w - w.base + 1 in
                      let at : w.base + k ≡ c = omega arith in
                      let many : suc k ≡ latest_of v - w.base + 1 = omega arith in
                      map_push (λ (x : Reach). x.commit) w.reach (record { commit = c; blocks = blocks })
                      ∙ ap (λ (xs : List ℕ). xs ++ c ∷ []) g.form.commits ∙ ap (λ (j : ℕ). range_with_len w.base k ++ j ∷ []) (sym at)
                      ∙ sym (numbers-more w.base k) ∙ ap (range_with_len w.base) many);
                  sessions =
                      λ t.
                      let fewer = count-remove (λ (x : WorldRun). x.session == t) w.runs (run_place w s) no_run r.place in
                      let one = g.form.sessions t in omega arith;
                  numbers = g.form.numbers;
                  reports = reports_refit w v w.bag same (omega arith) g.form.reports;
                };
            places =
                λ b.
                let whole = g.places b in
                let free = committed_free b w s blocks r.fits.known in
                let runs = private-without_run b w s r.place in
                let bound = committed_bound b w s blocks g in
                let most = as_one_le (nat_lt b w.count) in
                let once : times b old + times b private ≤ 1 = omega arith in
                let trade = traded b blocks old private more.1 tests.1 once in
                let moved : times b roots + times_loose v b + times_bound v b ≡ times b roots + times_loose w b + times_bound w b = omega arith in
                moved ∙ whole;
            versions = versions_hold v;
            floors = floors_rise w v up g;
          };
      held = λ b. (let free = committed_free b w s blocks r.fits.known in omega arith);
      rises = never_falls w v up g;
      reach = λ j low kept most. reach_of-other w.reach (record { commit = c; blocks = blocks }) j (λ (e : c ≡ j). absurd (omega arith));
    }
