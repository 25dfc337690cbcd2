-- A block that waits is freed at the first report at which every node is past its drop, and goes on waiting before.
use Rattle.std.proofs.Common.{◌≡◌, ℕ, ◌+◌, ◌-◌, ◌<◌, ◌≤◌, nat_lt, List, [], sym, ap, ◌∙◌, subst, ⊎_elim, arith}
use Rattle.std.proofs.lemmas.Bool.{cases_lt}
use Rattle.iq_world.specs.declared.worlds.World.{World}
use Rattle.iq_world.specs.declared.worlds.Reach.{Reach}
use Rattle.iq_world.specs.World.{times, without, latest_of}
use Rattle.iq_world.specs.Floors.{horizon_of, IsPast}
use Rattle.iq_world.specs.Space.{reach_of, dropped, dropped_after, times_loose, places}
use Rattle.iq_world.specs.Sound.{IsSound}
use Rattle.iq_world.specs.Laws.{Reclaims, WaitsSince}
use Rattle.iq_world.proofs.Times.{as_one_le, times-append}
use Rattle.iq_world.proofs.Drops.{dropped_after-add}
use Rattle.iq_world.proofs.Past.{past_of, past_is}
use Rattle.iq_world.proofs.Rising.{Good}

-- what one commit dropped is among what all commits up to it or a later one dropped
pub one_of_all : (b : ℕ) (rs : List Reach) (c m n : ℕ) → times b (dropped rs (c + m + 1)) ≤ times b (dropped_after rs c (m + (1 + n)))
one_of_all b rs c m n =
    let parts = ap (times b) (dropped_after-add rs c m (1 + n)) in
    let more = times-append b (dropped_after rs c m) (dropped_after rs (c + m) (1 + n)) in
    let first = ap (times b) (dropped_after-add rs (c + m) 1 n) in
    let one = times-append b (dropped_after rs (c + m) 1) (dropped_after rs (c + m + 1) n) in
    let here = times-append b (dropped rs (c + m + 1)) [] in
    omega arith

pub freed_past : (w v : World) (b c : ℕ) → Reclaims w v → WaitsSince w b c → IsPast v c → 0 < times b v.free
freed_past w v b c r waits past =
    let base = r.base in
    let low = past_is v c past in
    let above = waits.past_base in
    let gone = waits.gone in
    let free = r.free b in
    let at : w.base + (c - 1 - w.base) + 1 ≡ c = omega arith in
    let many : c - 1 - w.base + (1 + (v.base - c)) ≡ v.base - w.base = omega arith in
    let one = one_of_all b w.reach w.base (c - 1 - w.base) (v.base - c) in
    let here = ap (λ (k : ℕ). times b (dropped w.reach k)) at in
    let all = ap (λ (k : ℕ). times b (dropped_after w.reach w.base k)) many in
    omega arith

-- a report before that leaves the base below the drop
pub early_base : (w v : World) (c : ℕ) → Reclaims w v → w.base < c → (IsPast v c → ⊥) → v.base < c
early_base w v c r above early =
    let base = r.base in
    ⊎_elim (λ (k : horizon_of v < c). omega arith) (λ (k : c ≤ horizon_of v). absurd (early (past_of v c k))) (cases_lt (horizon_of v) c)

-- what waits and isn't below the new base goes on waiting
pub goes_on : (w v : World) (b c : ℕ) → Good w v → WaitsSince w b c → v.base < c → WaitsSince v b c
goes_on w v b c good waits above =
    let was = waits.past_base in
    let made = waits.made in
    let up = good.rises.latest in
    let before : reach_of v.reach (c - 1) ≡ reach_of w.reach (c - 1) = good.reach (c - 1) (omega arith) (omega arith) (omega arith) in
    let here : reach_of v.reach c ≡ reach_of w.reach c = good.reach c (omega arith) (omega arith) (omega arith) in
    let same : dropped v.reach c ≡ dropped w.reach c = ap (λ (xs : List ℕ). without xs (reach_of v.reach c)) before ∙ ap (without (reach_of w.reach (c - 1))) here in
    record {
      past_base = above;
      made = omega arith;
      gone = subst (λ (xs : List ℕ). 0 < times b xs) (sym same) waits.gone;
    }

-- what waits is neither free, reserved nor private
pub waits_held : (w : World) (b c : ℕ) → IsSound w → WaitsSince w b c → times_loose w b ≡ 0
waits_held w b c g waits =
    let above = waits.past_base in
    let made = waits.made in
    let gone = waits.gone in
    let once : places w b ≤ 1 = subst (λ (n : ℕ). n ≤ 1) (sym (g.places b)) (as_one_le (nat_lt b w.count)) in
    let at : w.base + (c - 1 - w.base) + 1 ≡ c = omega arith in
    let many : c - 1 - w.base + (1 + (latest_of w - c)) ≡ latest_of w - w.base = omega arith in
    let one = one_of_all b w.reach w.base (c - 1 - w.base) (latest_of w - c) in
    let here = ap (λ (k : ℕ). times b (dropped w.reach k)) at in
    let all = ap (λ (k : ℕ). times b (dropped_after w.reach w.base k)) many in
    omega arith
