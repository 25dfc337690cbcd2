-- What each kind of step tells: of the step, the seat before, the number found and the seat after.
use Rattle.std.specs.Prelude.{◌≡◌, ◌≢◌, ℕ, ◌+◌, ◌-◌, ◌%◌, ◌^◌, List, [], ◌∷◌, ◌++◌, map, All, Option, Some}
use Rattle.atomic_table.specs.Table.{Me, Step, rest}
use Rattle.iq_turnstile.specs.declared.view.Stage.TheVariants.{Waiting, Holding}
use Rattle.iq_turnstile.specs.declared.view.View.{View}
use Rattle.iq_turnstile.specs.Rule.{view, idle_view}

module _ {S N : Type 0} where
  -- idle to waiting, with the ticket that was found
  abbrev pub draws : Step (Option S) → Me (Option S) (View S N) → ℕ → Me (Option S) (View S N) → Type 0
  draws step me found new = (t : ℕ) × (found ≡ t % 2 ^ 64) × (new ≡ (view (Waiting t) me.0.parts me.0.notes, me.1))

  -- at its ticket t the seat goes from waiting to holding, with the state's slot; at another it stays
  abbrev pub looks : (N → S → Type 0) → Step (Option S) → Me (Option S) (View S N) → ℕ → Me (Option S) (View S N) → Type 0
  looks agrees step me found new =
      (t : ℕ) → me.0.stage ≡ Waiting t
      → (found ≡ t % 2 ^ 64 → (s : S) × (new ≡ (view (Holding t s) me.0.parts me.0.notes, (0, Some s) ∷ me.1)) × All (λ n. agrees n s) me.0.notes)
      × (found ≢ t % 2 ^ 64 → new ≡ me)

  -- holding to idle, with the notes that were told, and without the slot
  abbrev pub advances : List N → Step (Option S) → Me (Option S) (View S N) → ℕ → Me (Option S) (View S N) → Type 0
  advances told step me found new = new ≡ (idle_view me.0.parts told, rest me.1)

  -- of an idle view, what stays in a split
  abbrev pub kept_half : (N → N) → View S N → View S N
  kept_half left v = idle_view (v.parts - 1) (map left v.notes)

  -- and what the new seat gets
  abbrev pub given_half : (N → N) → View S N → View S N
  given_half right v = idle_view 1 (map right v.notes)

  -- two idle views become one, with the notes of both
  abbrev pub joined : View S N → View S N → View S N
  joined v w = idle_view (v.parts + w.parts) (w.notes ++ v.notes)

  -- the view of a seat that was joined to another
  abbrev pub spent : View S N
  spent = idle_view 0 []
