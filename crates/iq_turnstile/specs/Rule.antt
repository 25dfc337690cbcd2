-- The rule that every step keeps, over the two words, the one slot and the views of all seats.
use Rattle.std.specs.Prelude.{◌≡◌, ◌≢◌, ℕ, ◌+◌, ◌%◌, ◌^◌, ◌<◌, ◌≤◌, List, [], ◌∷◌, All, AllPairs, sum_by, Option, Some}
use mathlib.Core.Option.{Option as Slot, some, none}
use lib.ListN.{get_elem?}
use Rattle.atomic_table.specs.Table.{State}
use Rattle.iq_turnstile.specs.declared.view.Stage.{Stage}
use Rattle.iq_turnstile.specs.declared.view.Stage.TheVariants.{Idle, Waiting, Holding}
use Rattle.iq_turnstile.specs.declared.view.View.{View}

module _ {S : Type 0} where
  -- the seat has the ticket t
  abbrev pub HasTicket : ℕ → Stage S → Type 0
  HasTicket t Idle = ⊥
  HasTicket t (Waiting u) = u ≡ t
  HasTicket t (Holding u s) = u ≡ t

  -- the seat has the slot
  abbrev pub HoldsState : Stage S → Type 0
  HoldsState Idle = ⊥
  HoldsState (Waiting t) = ⊥
  HoldsState (Holding t s) = Unit {0}

  -- 1 where the seat has a ticket
  abbrev pub busy : Stage S → ℕ
  busy Idle = 0
  busy (Waiting t) = 1
  busy (Holding t s) = 1

  -- a ticket that is out was drawn and isn't served yet, and who has the slot knows the state, by the ticket that is served
  abbrev pub FitsStage : ℕ → ℕ → S → List (Slot (Option S)) → Stage S → Type 0
  FitsStage drawn served state homes Idle = Unit {0}
  FitsStage drawn served state homes (Waiting t) = (served ≤ t) × (t < drawn)
  FitsStage drawn served state homes (Holding t s) = (t ≡ served) × (served < drawn) × (s ≡ state) × (homes ≡ none ∷ [])

module _ {S N : Type 0} where
  -- a view of these parts
  abbrev pub view : Stage S → ℕ → List N → View S N
  view stage parts notes = record { stage = stage; parts = parts; notes = notes }

  -- the view of a seat that takes no turn
  abbrev pub idle_view : ℕ → List N → View S N
  idle_view = view Idle

  module _ (apart : N → N → Type 0) where
    -- two seats, whose notes are apart and whose tickets differ
    pub record AreApart (v w : View S N) : Type 0 where
      pub notes : All (λ n. All (apart n) w.notes) v.notes
      pub tickets : (t : ℕ) → HasTicket t v.stage → HasTicket t w.stage → ⊥

  module _ (agrees : N → S → Type 0) (apart : N → N → Type 0) where
    -- a seat whose notes agree with the state and are apart, with no note where it has no part
    pub record FitsSeat (drawn served : ℕ) (state : S) (homes : List (Slot (Option S))) (v : View S N) : Type 0 where
      pub agree : All (λ n. agrees n state) v.notes
      pub within : AllPairs apart v.notes
      pub spent : v.parts ≡ 0 → (v.stage ≡ Idle) × (v.notes ≡ [])
      pub stage : FitsStage drawn served state homes v.stage

    -- The words count the tickets drawn and served, modulo 2^64. No more tickets are out than there are parts, and the slot is at home unless a seat has it
    pub record IsRuled (parts : ℕ) (st : State (Option S) (View S N)) : Type 0 where
      pub drawn : ℕ
      pub served : ℕ
      pub state : S
      pub words : st.words ≡ drawn % 2 ^ 64 ∷ served % 2 ^ 64 ∷ []
      pub few : parts < 2 ^ 32
      pub whole : sum_by (λ (v : View S N). v.parts) st.views ≡ parts
      pub ahead : served ≤ drawn
      pub out : drawn ≤ served + sum_by (λ (v : View S N). busy v.stage) st.views
      pub each : (i : ℕ) (v : View S N) → get_elem? st.views i ≡ some v → FitsSeat drawn served state st.homes v
      pub pairs : (i j : ℕ) (v w : View S N) → i ≢ j → get_elem? st.views i ≡ some v → get_elem? st.views j ≡ some w → AreApart apart v w
      pub home : ((i : ℕ) (v : View S N) → get_elem? st.views i ≡ some v → HoldsState v.stage → ⊥) → st.homes ≡ some (Some state) ∷ []
