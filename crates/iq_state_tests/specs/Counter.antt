-- What passes know of a counter. A history is the list of all that was added.
use Rattle.std.specs.Prelude.{◌≡◌, ℕ, suc, Bool, true, false, List, [], ◌∷◌, ◌++◌, filter, nat_eq, nat_le, if◌then◌else◌}
use Rattle.iq_state_tests.specs.declared.counter.Added.{Added}
use Rattle.iq_state_tests.specs.declared.counter.Names.{Names}
use Rattle.iq_state_tests.specs.declared.counter.Names.TheVariants.{Nobody, One, From}
use Rattle.iq_state_tests.specs.declared.counter.Mine.{Mine}
use Rattle.iq_turnstile.specs.declared.turnstile.Turnstile.{Turnstile}
use Rattle.iq_turnstile.specs.declared.turnstile.Pass.{Pass}
use Rattle.iq_turnstile.specs.Passes.{IsOf, note_or}

-- whether the name is one of these
abbrev pub speaks_for : Names → ℕ → Bool
speaks_for Nobody x = false
speaks_for (One a) x = nat_eq a x
speaks_for (From a) x = nat_le a x

-- an addition under this name
abbrev pub entry : ℕ → ℕ → Added
entry by amount = record { by = by; amount = amount }

-- what the history has under these names
abbrev pub added_by : Names → List Added → List Added
added_by names history = filter (λ (e : Added). speaks_for names e.by) history

-- what a pass that speaks for these names knows of the history
abbrev pub mine : Names → List Added → Mine
mine names history = record { names = names; added = added_by names history }

-- the note of whoever brings the counter: every name is its own
abbrev pub knows_all : List Added → Mine
knows_all history = mine (From 0) history

-- the note of a pass with no name
abbrev pub knows_nothing : Mine
knows_nothing = record { names = Nobody; added = [] }

-- the names but for the least
abbrev pub rest_of : Names → Names
rest_of Nobody = Nobody
rest_of (One a) = Nobody
rest_of (From a) = From (suc a)

-- the least of the names
abbrev pub least_of : Names → Names
least_of Nobody = Nobody
least_of (One a) = One a
least_of (From a) = One a

-- what stays of a note that is divided
abbrev pub left_note : Mine → Mine
left_note n = mine (rest_of n.names) n.added

-- what the new pass gets of it
abbrev pub right_note : Mine → Mine
right_note n = mine (least_of n.names) n.added

-- the note after an attempt to add e
abbrev pub noted : Bool → Added → Mine → Mine
noted done e n = record { names = n.names; added = if done then n.added ++ e ∷ [] else n.added }

-- the history after it
abbrev pub grown : Bool → Added → List Added → List Added
grown done e history = if done then history ++ e ∷ [] else history

-- the note has just what the history has under its names
abbrev pub Knows : Mine → List Added → Type 0
Knows n history = added_by n.names history ≡ n.added

-- no name is spoken for by both
abbrev pub ShareNoName : Mine → Mine → Type 0
ShareNoName n m = (x : ℕ) → speaks_for n.names x ≡ true → speaks_for m.names x ≡ true → ⊥

-- a turn adds to the history, and the note speaks for the same names
abbrev pub OnlyAdds : Mine → List Added → List Added → Mine → Type 0
OnlyAdds n before after m = (m.names ≡ n.names) × ((more : List Added) × (after ≡ before ++ more))

-- the pass is of this turnstile, and speaks for the name
pub record CanAdd {S : Type 0} (door : Turnstile S Mine) (pass : Pass S Mine) (name : ℕ) : Type 0 where
  pub here : IsOf door pass
  pub own : speaks_for (note_or knows_nothing pass).names name ≡ true
