-- What stays where blocks are written beside it.
use Rattle.iq_base.specs.declared.sizes.TheConstants.{MOST_PAGES}
use Rattle.std.specs.Prelude.{◌≡◌, ℕ, ◌≤◌, false, List, Ok}
use Rattle.std.specs.List.{All}
use Rattle.iq_base.specs.declared.refs.Ref.{Ref}
use Rattle.iq_base.specs.declared.descriptors.Descriptor.{Descriptor}
use Rattle.iq_block_map.specs.Objects.{blocks_of}
use Rattle.iq_block_map.specs.Writing.{holds}
use Rattle.iq_block_map.specs.Laws.{SameObject}
use Rattle.iq_descriptors.specs.Stored.{Describes}

-- none of some blocks is among others
abbrev pub AreBeside : List ℕ → List ℕ → Type 0
AreBeside places blocks = All (λ b. holds places b ≡ false) blocks

-- each descriptor whose blocks aren't among these places stays
abbrev pub KeepsDescriptors : List ℕ → List (List ℕ) → List (List ℕ) → Type 0
KeepsDescriptors places all now =
    (head : ℕ) (table : Descriptor) (blocks : List ℕ) → Describes all head table blocks → AreBeside places blocks → Describes now head table blocks

-- each object of pages whose blocks aren't among these places stays
abbrev pub KeepsObjects : List ℕ → List (List ℕ) → List (List ℕ) → Type 0
KeepsObjects places all now =
    (object : Ref) (blocks : List ℕ) → object.pages ≤ MOST_PAGES → blocks_of all object ≡ Ok blocks → AreBeside places blocks → SameObject all now object
