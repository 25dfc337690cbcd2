-- What the rule says of one seat and of two, and how it outlasts a change elsewhere.
use Rattle.std.proofs.Common.{◌≡◌, ◌≢◌, ℕ, zero, suc, ◌<◌, ◌≤◌, List, [], set, Option, sym, refl, ap, ◌∙◌, subst, ⊎_elim, arith}
use mathlib.Core.Option.{Option as Slot, some, some-injective}
use mathlib.Core.Logic.{dite}
use native.Mathlib.Decide.{ℕ_discrete}
use lib.ListN.{get_elem?}
use Rattle.atomic_table.proofs.Lists.{at_set, set_else}
use Rattle.iq_turnstile.specs.declared.view.Stage.{Stage}
use Rattle.iq_turnstile.specs.declared.view.Stage.TheVariants.{Idle, Waiting, Holding}
use Rattle.iq_turnstile.specs.declared.view.View.{View}
use Rattle.iq_turnstile.specs.Rule.{HasTicket, HoldsState, busy, FitsStage, AreApart, idle_view}

module _ {S : Type 0} where
  pub busy_has_part : (st : Stage S) (p : ℕ) → (p ≡ 0 → st ≡ Idle) → busy st ≤ p
  busy_has_part Idle p h = omega arith
  busy_has_part (Waiting t) zero h = let e = h refl in cc
  busy_has_part (Waiting t) (suc p) h = omega arith
  busy_has_part (Holding t s) zero h = let e = h refl in cc
  busy_has_part (Holding t s) (suc p) h = omega arith

  module _ (d n : ℕ) (x : S) (hs : List (Slot (Option S))) where
    -- a ticket that is out was drawn
    pub ticket_below : (t : ℕ) (st : Stage S) → FitsStage d n x hs st → HasTicket t st → t < d
    ticket_below t Idle h e = absurd e
    ticket_below t (Waiting u) h e = let b = h.1 in omega arith
    ticket_below t (Holding u s) h e = let a = h.0 in let b = h.1 in omega arith

    -- who has the slot has the ticket that is served
    pub holder_ticket : (st : Stage S) → FitsStage d n x hs st → HoldsState st → HasTicket n st
    holder_ticket Idle h k = absurd k
    holder_ticket (Waiting u) h k = absurd k
    holder_ticket (Holding u s) h k = h.0

    -- one more ticket was drawn
    pub after_draw : (st : Stage S) → FitsStage d n x hs st → FitsStage (suc d) n x hs st
    after_draw Idle h = tt
    after_draw (Waiting u) h = let b = h.1 in (h.0, omega arith)
    after_draw (Holding u s) h = let b = h.1 in (h.0, omega arith, h.2, h.3)

    -- another seat took the slot
    pub after_take : (ks : List (Slot (Option S))) (st : Stage S) → FitsStage d n x hs st → (HoldsState st → ⊥) → FitsStage d n x ks st
    after_take ks Idle h k = tt
    after_take ks (Waiting u) h k = h
    after_take ks (Holding u s) h k = absurd (k tt)

    -- another seat's ticket, the one that was served, is done
    pub after_advance : (y : S) (ks : List (Slot (Option S))) (st : Stage S) → FitsStage d n x hs st → (HasTicket n st → ⊥) → FitsStage d (suc n) y ks st
    after_advance y ks Idle h k = tt
    after_advance y ks (Waiting u) h k = let a = h.0 in let late : n < u = dite (ℕ_discrete u n) (λ e. absurd (k e)) (λ ne. let c : u ≡ n → ⊥ = ne in omega arith) in (omega arith, h.1)
    after_advance y ks (Holding u s) h k = absurd (k h.0)

module _ {S N : Type 0} (agrees : N → S → Type 0) (apart : N → N → Type 0) (both_ways : (n m : N) → apart n m → apart m n) where
  abbrev pub Pairs : List (View S N) → Type 0
  Pairs vs = (i j : ℕ) (v w : View S N) → i ≢ j → get_elem? vs i ≡ some v → get_elem? vs j ≡ some w → AreApart apart v w

  pub swapped : (v w : View S N) → AreApart apart v w → AreApart apart w v
  swapped v w h = record {
    notes = λ k d lt i e l. both_ways _ _ (h.notes i e l k d lt);
    tickets = λ t a b. h.tickets t b a;
  }

  -- a seat with no note and no ticket
  pub none_apart : (p : ℕ) (u : View S N) → AreApart apart (idle_view p []) u
  none_apart p u = record { notes = λ k d lt. absurd (omega arith); tickets = λ t a b. a }

  -- what holds of a changed seat, and of each other, holds of all
  pub each_set : (P : View S N → Type 0) (vs : List (View S N)) (id : ℕ) (w : View S N) → P w → ((j : ℕ) (u : View S N) → j ≢ id → get_elem? vs j ≡ some u → P u)
      → (j : ℕ) (u : View S N) → get_elem? (set vs id w) j ≡ some u → P u
  each_set P vs id w here other j u e = ⊎_elim (λ h. subst P h.1 here) (λ h. other j u h.0 h.1) (at_set vs id j w u e)

  pub pairs_set : (vs : List (View S N)) (id : ℕ) (w : View S N) → Pairs vs → ((j : ℕ) (u : View S N) → j ≢ id → get_elem? vs j ≡ some u → AreApart apart w u) → Pairs (set vs id w)
  pairs_set vs id w old new i j a b ne ei ej = ⊎_elim
      (λ hi. ⊎_elim (λ hj. absurd (ne (hi.0 ∙ sym hj.0))) (λ hj. subst (λ (z : View S N). AreApart apart z b) hi.1 (new j b hj.0 hj.1)) (at_set vs id j w b ej))
      (λ hi. ⊎_elim (λ hj. subst (λ (z : View S N). AreApart apart a z) hj.1 (swapped w a (new i a hi.0 hi.1))) (λ hj. old i j a b ne hi.1 hj.1) (at_set vs id j w b ej))
      (at_set vs id i w a ei)

  -- what holds of one seat, and of each other, holds of all
  pub every : (P : View S N → Type 0) (vs : List (View S N)) (id : ℕ) (v : View S N) → get_elem? vs id ≡ some v → P v → ((j : ℕ) (u : View S N) → j ≢ id → get_elem? vs j ≡ some u → P u)
      → (j : ℕ) (u : View S N) → get_elem? vs j ≡ some u → P u
  every P vs id v at here other j u e = dite (ℕ_discrete j id) (λ same. subst P (some-injective v u (sym at ∙ ap (get_elem? vs) (sym same) ∙ e)) here) (λ ne. other j u ne e)

  -- nobody has the slot, where nobody has it after a change of a seat that didn't have it
  pub nobody_before : (vs : List (View S N)) (id : ℕ) (v w : View S N) → get_elem? vs id ≡ some v → (HoldsState v.stage → ⊥)
      → ((i : ℕ) (u : View S N) → get_elem? (set vs id w) i ≡ some u → HoldsState u.stage → ⊥) → (i : ℕ) (u : View S N) → get_elem? vs i ≡ some u → HoldsState u.stage → ⊥
  nobody_before vs id v w at free nobody = every (λ (u : View S N). HoldsState u.stage → ⊥) vs id v at free (λ i u ne e. nobody i u (set_else vs id i w ne ∙ e))
