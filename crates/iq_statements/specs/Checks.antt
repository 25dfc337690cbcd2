-- Tests that may refuse a statement, in the order in which they are made.
use Rattle.std.specs.Prelude.{ℕ, Bool, true, false, List, [], ◌∷◌, Option, Some, None}
use Rattle.std.specs.Option.{option_or}
use Rattle.iq_base.specs.declared.refusals.Refusal.{Refusal}

-- A test: its place in the order of tests, and the refusal that it finds, if any.
pub record Check : Type 0 where
  pub order : ℕ
  pub found : Option Refusal

-- the first refusal that is found
abbrev pub first_refusal : List Check → Option Refusal
first_refusal [] = None
first_refusal (check ∷ checks) = option_or check.found (first_refusal checks)

-- a refusal where a test is true
abbrev pub found_if : Bool → Refusal → Option Refusal
found_if true refusal = Some refusal
found_if false refusal = None

-- the first refusal of some things, one after the other
abbrev pub first_found : {X : Type 0} → (X → Option Refusal) → List X → Option Refusal
first_found test [] = None
first_found test (x ∷ xs) = option_or (test x) (first_found test xs)
