-- What clauses say of a turnstile and its passes.
use Rattle.std.specs.Prelude.{◌≡◌, ℕ, ◌+◌, ◌%◌, ◌^◌, ◌<◌, List, [], ◌∷◌, ◌++◌, All, AllPairs, flat_map, sum_by, slice_index_or, Option, Some}
use Rattle.atomic_table.specs.declared.shared.Seat.{Seat}
use Rattle.iq_turnstile.specs.declared.turnstile.Turnstile.{Turnstile}
use Rattle.iq_turnstile.specs.declared.turnstile.Pass.{Pass}
use Rattle.iq_turnstile.specs.declared.view.Stage.{Stage}
use Rattle.iq_turnstile.specs.declared.view.Stage.TheVariants.{Idle, Waiting, Holding}
use Rattle.iq_turnstile.specs.declared.view.View.{View}
use Rattle.iq_turnstile.specs.Notes.{IsTurn}
use Rattle.iq_turnstile.specs.Rule.{view, idle_view}

module _ {S N : Type 0} where
  -- the parts of a pass
  abbrev pub parts_of : Pass S N → ℕ
  parts_of pass = pass.parts

  -- the note of a pass, as a list of one
  abbrev pub notes_of : Pass S N → List N
  notes_of pass = pass.seat.me.0.notes

  -- the note of a pass, or d where it has none, which no pass of a turnstile is without
  abbrev pub note_or : N → Pass S N → N
  note_or d pass = slice_index_or (notes_of pass) 0 d

  -- all parts of a turnstile
  abbrev pub all_parts : Turnstile S N → ℕ
  all_parts door = door.parts

  -- the parts of these passes, added up
  abbrev pub sum_of_parts : List (Pass S N) → ℕ
  sum_of_parts passes = sum_by parts_of passes

  -- the notes of these passes
  abbrev pub all_notes : List (Pass S N) → List N
  all_notes passes = flat_map notes_of passes

  -- the pass is of this turnstile, and so far in its turn, with these notes and slots
  pub record IsAt (door : Turnstile S N) (pass : Pass S N) (stage : Stage S) (notes : List N) (slots : List (ℕ × Option S)) : Type 0 where
    pub place : pass.seat.table_id ≡ door.table.shared.table_id
    pub some_part : 0 < pass.parts
    pub knows : pass.seat.me ≡ (view stage pass.parts notes, slots)

  -- the pass is of this turnstile, takes no turn at the moment, and has one note
  pub record IsOf (door : Turnstile S N) (pass : Pass S N) : Type 0 where
    pub note : N
    pub at : IsAt door pass Idle (note ∷ []) []

  -- the pass waits with the ticket, whose number is known modulo 2^64
  pub record IsWaiting (door : Turnstile S N) (pass : Pass S N) (notes : List N) (ticket : ℕ) : Type 0 where
    pub number : ℕ
    pub shown : ticket ≡ number % 2 ^ 64
    pub at : IsAt door pass (Waiting number) notes []

  -- the pass has the state, with which its notes agree
  pub record IsHolding (agrees : N → S → Type 0) (door : Turnstile S N) (pass : Pass S N) (notes : List N) : Type 0 where
    pub number : ℕ
    pub state : S
    pub at : IsAt door pass (Holding number state) notes ((0, Some state) ∷ [])
    pub agree : All (λ n. agrees n state) notes

  module _ (agrees : N → S → Type 0) (apart : N → N → Type 0) where
    -- the pass has the slot with the state t in it, and a turn from the state that was taken leaves m
    pub record MayLeave (may : N → S → S → N → Type 0) (door : Turnstile S N) (pass : Pass S N) (told : List N) : Type 0 where
      pub number : ℕ
      pub taken : S
      pub given : S
      pub before : N
      pub after : N
      pub at : IsAt door pass (Holding number taken) (before ∷ []) ((0, Some given) ∷ [])
      pub told_is : told ≡ after ∷ []
      pub turn : IsTurn agrees apart may before after taken given

    -- the notes of these passes agree with the state, and are pairwise apart
    pub record AllAgree (passes : List (Pass S N)) (s : S) : Type 0 where
      pub agree : All (λ n. agrees n s) (all_notes passes)
      pub apart_all : AllPairs apart (all_notes passes)

    -- one act ran on the one state, with which the note n agreed, and the note afterwards is the one that the act names
    pub record HasTurned {A : Type 0} (may : N → S → S → N → Type 0) (acts : A → S → A → S → Type 0) (after : N → A → A → S → S → N) (n : N) (a b : A) (notes : List N) : Type 0 where
      pub taken : S
      pub given : S
      pub agreed : agrees n taken
      pub acted : acts a taken b given
      pub note_is : notes ≡ after n a b taken given ∷ []
      pub turn : IsTurn agrees apart may n (after n a b taken given) taken given

  -- the seat has been joined with the passes that are no longer in `rest`: it has their notes and parts
  pub record HasJoined (door : Turnstile S N) (passes rest : List (Pass S N)) (seat : Seat (Option S) (View S N)) : Type 0 where
    pub parts : ℕ
    pub notes : List N
    pub place : seat.table_id ≡ door.table.shared.table_id
    pub knows : seat.me ≡ (idle_view parts notes, [])
    pub some_part : 0 < parts
    pub others : All (IsOf door) rest
    pub whole : sum_of_parts rest + parts ≡ sum_of_parts passes
    pub noted : all_notes rest ++ notes ≡ all_notes passes
