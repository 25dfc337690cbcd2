-- A list with room, as contracts see it, and what its calls leave of it.
use Rattle.std.specs.Prelude.{◌≡◌, ℕ, ◌+◌, ◌≤◌, List, length, refl}
use Rattle.std.specs.Coded.{Coded, code_by, coded×, coded_ℕ, coded_list}

-- the items in order, and how many more can be put without memory
pub record Room (T : Type 0) : Type 0 where
  pub items : List T
  pub room : ℕ

abbrev pub room_code : {T : Type 0} → Coded T → Coded (Room T)
room_code {T} code = code_by (List T × ℕ) (coded× (coded_list code) coded_ℕ) (λ v. (v.items, v.room)) (λ p. record { items = p.0; room = p.1 }) (λ _. refl)

-- these are the items afterwards, and what the list can hold in all isn't less
pub record Becomes {T : Type 0} (old : Room T) (now : List T) (new : Room T) : Type 0 where
  pub items : new.items ≡ now
  pub holds : length old.items + old.room ≤ length new.items + new.room
