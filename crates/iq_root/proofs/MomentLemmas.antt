-- How what a stop may leave goes on from call to call.
use Rattle.std.specs.Prelude.{ℕ, ◌≤◌, List}
use Rattle.std.proofs.Common.{inl, inr, arith, ◌∙◌}
use Rattle.std.proofs.lemmas.Bool.{cases_lt}
use Rattle.iq_outside.specs.DeviceCalls.{KeepsPast, AddsNone}
use Rattle.iq_outside.specs.declared.device.Device.{Ghosts}
use Rattle.iq_block_store.specs.Looks.{HasLooked}
use Rattle.iq_outside.specs.Devices.{block_of}
use Rattle.iq_root.specs.Roots.{gate_place}
use Rattle.iq_root.specs.Stops.{LeavesOnly}
use Rattle.iq_root.specs.Publishing.{IsUntorn, unheaded, as_whole, GatesUntorn}

module _ {D : Type 0} (g : Ghosts D) where
  pub past_on : (old mid new : D) → KeepsPast g old mid → KeepsPast g mid new → KeepsPast g old new
  past_on old mid new first second = record {
    same = second.same ∙ first.same;
    later = omega (arith, first.later, second.later);
    keeps = λ t b early left. second.keeps t b (omega (arith, early, first.later)) (first.keeps t b early left);
    no_more = λ t b early left. first.no_more t b early (second.no_more t b (omega (arith, early, first.later)) left);
    keeps_whole = λ t i x early here. second.keeps_whole t i x (omega (arith, early, first.later)) (first.keeps_whole t i x early here);
    whole_before = λ t i x early here. first.whole_before t i x early (second.whole_before t i x (omega (arith, early, first.later)) here);
  }

  -- what is left meanwhile, a first and a second call leave
  pub leaves_on : (old mid new : D) (P : List (List ℕ) → Type 0) → KeepsPast g mid new → LeavesOnly g old mid P
      → LeavesOnly g mid new P → LeavesOnly g old new P
  leaves_on old mid new P past first second t b since until left = elim (cases_lt (g.clock mid) t) [
    | inl after ↦ second t b (omega (arith, after)) until left
    | inr early ↦ first t b since early (past.no_more t b early left)
  ]

  pub none_on : (old mid new : D) → KeepsPast g old mid → KeepsPast g mid new
      → AddsNone g old mid → AddsNone g mid new → AddsNone g old new
  none_on old mid new before past first second = leaves_on old mid new (g.image old (g.clock old)) past first
      (λ t b since until left. first (g.clock mid) b before.later (omega arith) (second t b since until left))

  -- two calls that only look are one
  pub looked_on : (old mid new : D) → HasLooked g old mid → HasLooked g mid new
      → HasLooked g old new
  looked_on old mid new first second = record {
    unchanged = second.unchanged ∙ first.unchanged;
    later = omega (arith, first.later, second.later);
    past = past_on old mid new first.past second.past;
    since = none_on old mid new first.past second.past first.since second.since;
  }

  -- what is taken for granted of the gates at some moments of a run holds at fewer, and so for each call within it
  pub untorn_within : (old new : D) (first last since until : ℕ) → KeepsPast g old new → GatesUntorn g new first last → first ≤ since → until ≤ last
      → until ≤ g.clock old → GatesUntorn g old since until
  untorn_within old new first last since until past untorn from upto early t b late before left slot two =
      untorn_before t (gate_place slot) (block_of b (gate_place slot)) (omega (arith, before, early))
      (untorn t b (omega (arith, late, from)) (omega (arith, before, upto)) (past.keeps t b (omega (arith, before, early)) left) slot two)
    where
      untorn_before : (t at : ℕ) (x : List ℕ) → t ≤ g.clock old → IsUntorn (g.whole new t at) at x → IsUntorn (g.whole old t at) at x
      untorn_before t at x early (unheaded missing) = unheaded missing
      untorn_before t at x early (as_whole y whole reads) = as_whole y (past.whole_before t at y early whole) reads
