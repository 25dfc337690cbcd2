-- Lists of blocks that differ in a slot.
use Rattle.std.specs.Prelude.{◌≡◌, ◌⊎◌, ℕ, List}
use Rattle.std.proofs.Common.{refl, ◌∙◌, inl, inr}
use Rattle.iq_outside.specs.Devices.{SameBut}
use Rattle.iq_root.specs.Roots.{body_place, gate_place}
use Rattle.iq_root.specs.Stops.{SameButSlot}

pub slot_refl : (slot : ℕ) (b : List (List ℕ)) → SameButSlot slot b b
slot_refl slot b = record { size = refl; others = λ i body gate. refl }

pub slot_trans : (slot : ℕ) (a b c : List (List ℕ)) → SameButSlot slot a b → SameButSlot slot b c → SameButSlot slot a c
slot_trans slot a b c first second = record {
  size = second.size ∙ first.size;
  others = λ i body gate. second.others i body gate ∙ first.others i body gate;
}

-- a block of a slot
pub in_slot : (slot at : ℕ) (a b : List (List ℕ)) → (at ≡ body_place slot) ⊎ (at ≡ gate_place slot) → SameBut at a b → SameButSlot slot a b
in_slot slot at a b (inl is) same = record { size = same.size; others = λ i body gate. same.others i (λ e. body (e ∙ is)) }
in_slot slot at a b (inr is) same = record { size = same.size; others = λ i body gate. same.others i (λ e. gate (e ∙ is)) }
