-- The world at the opening is sound.
use Rattle.std.proofs.Common.{◌≡◌, ℕ, zero, suc, ◌+◌, ◌-◌, ◌==◌, ◌<◌, ◌≤◌, Bool, true, false, cond, not, nat_lt, List, [], ◌∷◌, ◌++◌, length, replicate, refl, sym, ap, ◌∙◌, subst, ⊎_elim, arith}
use Rattle.std.specs.List.{All, range_with_len}
use Rattle.std.proofs.lemmas.List.{length-replicate, get_or-replicate, append-nil}
use Rattle.std.proofs.lemmas.List.Folds.{sum_by-replicate}
use Rattle.std.proofs.lemmas.List.Elements.{All-nil, All-head, All-tail, filter-append}
use Rattle.std.proofs.lemmas.Bool.{eq-eqb, ne_eqb, lt-ltb, le-ltb, eqb-true, cases_lt, cases_eq, false≢true}
use Rattle.std.proofs.lemmas.Bool.Decides.{eqb_tells}
use Rattle.iq_world.specs.declared.worlds.WorldNode.{WorldNode}
use Rattle.iq_world.specs.World.{times, holds, without, node_at, no_node, latest_of}
use Rattle.iq_world.specs.Space.{roots, reach_of, dropped_after, waiting, all_reserved, places}
use Rattle.iq_world.specs.Opening.{fresh_node, opening_world, CanOpen}
use Rattle.iq_world.specs.Sound.{IsSound}
use Rattle.iq_world.proofs.Times.{as_one, times-cons, times-flat_map, unheld_times, times-without_held, times-without_unheld}
use Rattle.iq_world.proofs.Kept.{numbers-more}
use Rattle.iq_world.proofs.Committing.{all_held}
use Rattle.iq_world.proofs.Rising.{versions_hold}

-- one more number in a list of those that aren't reached
pub without-more : (a k : ℕ) (reached : List ℕ) → without (range_with_len a (suc k)) reached ≡ without (range_with_len a k) reached ++ without ((a + k) ∷ []) reached
without-more a k reached =
    ap (λ (xs : List ℕ). without xs reached) (numbers-more a k) ∙ filter-append _ (range_with_len a k) ((a + k) ∷ [])

-- the next block, which is reached or free
pub next_reached : (c : ℕ) (reached : List ℕ) → 4 ≤ c → holds reached c ≡ true → without (range_with_len 4 (c + 1 - 4)) reached ≡ without (range_with_len 4 (c - 4)) reached
next_reached c reached h e =
    let k = c - 4 in
    let next : c + 1 - 4 ≡ suc k = omega arith in
    let at : 4 + k ≡ c = omega arith in
    ap (λ (n : ℕ). without (range_with_len 4 n) reached) next ∙ without-more 4 k reached
    ∙ ap (λ (n : ℕ). without (range_with_len 4 k) reached ++ without (n ∷ []) reached) at
    ∙ ap (λ (t : Bool). without (range_with_len 4 k) reached ++ cond (not t) (c ∷ []) []) e ∙ append-nil _

pub next_free : (c : ℕ) (reached : List ℕ) → 4 ≤ c → holds reached c ≡ false → without (range_with_len 4 (c + 1 - 4)) reached ≡ without (range_with_len 4 (c - 4)) reached ++ c ∷ []
next_free c reached h e =
    let k = c - 4 in
    let next : c + 1 - 4 ≡ suc k = omega arith in
    let at : 4 + k ≡ c = omega arith in
    ap (λ (n : ℕ). without (range_with_len 4 n) reached) next ∙ without-more 4 k reached
    ∙ ap (λ (n : ℕ). without (range_with_len 4 k) reached ++ without (n ∷ []) reached) at
    ∙ ap (λ (t : Bool). without (range_with_len 4 k) reached ++ cond (not t) (c ∷ []) []) e

-- how often a number stands in a range
range_below : (b a n : ℕ) → b < a → times b (range_with_len a n) ≡ 0
range_below b a zero h = refl
range_below b a (suc n) h =
    let other = ap as_one (ne_eqb a b (λ e. omega arith)) in
    omega (arith, times-cons b a (range_with_len (a + 1) n), range_below b (a + 1) n (omega arith))

range_within : (b a n : ℕ) → a ≤ b → b < a + n → times b (range_with_len a n) ≡ 1
range_within b a zero l h = absurd (omega arith)
range_within b a (suc n) l h =
    let cons = times-cons b a (range_with_len (a + 1) n) in
    ⊎_elim
    (λ (e : a ≡ b). (let here = ap as_one (eq-eqb a b e) in omega (arith, cons, range_below b (a + 1) n (omega arith))))
    (λ (ne : a ≡ b → ⊥). (let other = ap as_one (ne_eqb a b ne) in omega (arith, cons, range_within b (a + 1) n (omega arith) (omega arith))))
    (cases_eq a b)

range_past : (b a n : ℕ) → a + n ≤ b → times b (range_with_len a n) ≡ 0
range_past b a zero h = refl
range_past b a (suc n) h =
    let other = ap as_one (ne_eqb a b (λ e. omega arith)) in
    omega (arith, times-cons b a (range_with_len (a + 1) n), range_past b (a + 1) n (omega arith))

-- what holds of all numbers of a list holds of one that the list holds
held_has : (P : ℕ → Type 0) (xs : List ℕ) (b : ℕ) → All P xs → holds xs b ≡ true → P b
held_has P [] b all h = absurd (false≢true h)
held_has P (x ∷ xs) b all h =
    ⊎_elim (λ e. subst P e.1 (All-head P x xs all)) (λ e. held_has P xs b (All-tail P x xs all) (rw e.0 at h)) (eqb_tells x b)

-- free and reached blocks are those past the roots
free_or_reached : (count nodes : ℕ) (reached : List ℕ) (b : ℕ) → CanOpen count nodes reached → times b roots + times b (without (range_with_len 4 (count - 4)) reached) + times b reached ≡ as_one (nat_lt b count)
free_or_reached count nodes reached b can =
    let all = range_with_len 4 (count - 4) in
    let four = can.roots in
    let P : Bool → Type 0 = λ t. holds reached b ≡ t → times b roots + times b (without all reached) + times b reached ≡ as_one (nat_lt b count) in
    let low : b < 4 → times b roots ≡ 1 = λ h. range_within b 0 4 (omega arith) (omega arith) in
    let high : 4 ≤ b → times b roots ≡ 0 = λ h. range_past b 0 4 (omega arith) in
    (elim (holds reached b) as P [
      | true ↦
          λ h.
          let at = held_has (λ b. (4 ≤ b) × (b < count)) reached b can.within h in
          let one = eqb-true (times b reached) 1 (all_held (λ x. times x reached == 1) reached b can.distinct h) in
          let inside = ap as_one (lt-ltb b count at.1) in
          let none = high at.0 in
          omega (arith, times-without_held b all reached h)
      | false ↦
          λ h.
          let none = unheld_times b reached h in
          let free = times-without_unheld b all reached h in
          ⊎_elim
          (λ (k : b < 4).
          let root = low k in
          let inside = ap as_one (lt-ltb b count (omega arith)) in
          omega (arith, range_below b 4 (count - 4) k))
          (λ (k : 4 ≤ b).
          let root = high k in
          ⊎_elim
          (λ (m : b < count). (let inside = ap as_one (lt-ltb b count m) in omega (arith, range_within b 4 (count - 4) k (omega arith))))
          (λ (m : count ≤ b). (let outside = ap as_one (le-ltb b count m) in omega (arith, range_past b 4 (count - 4) (omega arith))))
          (cases_lt b count))
          (cases_lt b 4)
    ]) refl

pub opening_sound : (count nodes : ℕ) (reached : List ℕ) → CanOpen count nodes reached → IsSound (opening_world count nodes reached)
opening_sound count nodes reached can =
    let w = opening_world count nodes reached in
    let many : length w.nodes ≡ nodes = length-replicate nodes fresh_node in
    let each : (i : ℕ) → i < nodes → node_at w i ≡ fresh_node = λ i h. get_or-replicate nodes i fresh_node no_node h in
    let first : node_at w 0 ≡ fresh_node = each 0 can.coordinator in
    let top : latest_of w ≡ 0 = ap (λ (x : WorldNode). x.position) first in
    record {
      form =
          record {
            coordinator = subst (λ (k : ℕ). 0 < k) (sym many) can.coordinator;
            no_taken = ap (λ (x : WorldNode). x.taken) first;
            no_reserved = ap (λ (x : WorldNode). x.reserved) first;
            not_excluded = ap (λ (x : WorldNode). x.excluded) first;
            base_made = omega arith;
            commits = (let one : 1 ≡ latest_of w - 0 + 1 = omega arith in ap (range_with_len 0) one);
            sessions = λ s. omega arith;
            numbers = λ k. omega arith;
            reports = All-nil _;
          };
      places =
          λ b.
          let whole = free_or_reached count nodes reached b can in
          let reserved : times b (all_reserved w) ≡ 0 =
          times-flat_map (λ (x : WorldNode). x.reserved) b (replicate nodes fresh_node) ∙ sum_by-replicate (λ (x : WorldNode). times b x.reserved) nodes fresh_node
          ∙ omega arith in
          let latest : times b (reach_of w.reach (latest_of w)) ≡ times b reached = ap (λ (c : ℕ). times b (reach_of w.reach c)) top in
          let waits : times b (waiting w) ≡ 0 = ap (λ (c : ℕ). times b (dropped_after w.reach 0 (c - 0))) top in
          let sum : places w b ≡ times b roots + times b (without (range_with_len 4 (count - 4)) reached) + times b reached = omega arith in
          sum ∙ whole;
      versions = versions_hold w;
      floors =
          record {
            runs = All-nil _;
            nodes =
                λ i h.
                let at : node_at w i ≡ fresh_node = each i (subst (λ (k : ℕ). i < k) many h) in
                let position = ap (λ (x : WorldNode). x.position) at in
                let taken = ap (λ (x : WorldNode). x.taken) at in
                record {
                  made = omega arith;
                  taken = omega arith;
                  base = λ _. omega arith;
                  idle = λ _. ap (λ (x : WorldNode). x.reserved) at;
                };
            reports = All-nil _;
          };
    }
