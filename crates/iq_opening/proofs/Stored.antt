-- Descriptors that may stand in a store.
use Rattle.std.specs.Prelude.{◌≡◌, ℕ, false, List}
use Rattle.std.proofs.Common.{refl, ap}
use Rattle.iq_base.specs.declared.descriptors.Descriptor.{Descriptor}
use Rattle.iq_catalog.specs.Pages.{HasPages}
use Rattle.iq_catalog.specs.Storable.{IsStorable}
use Rattle.iq_descriptors.proofs.SaidLemmas.{said_back, descriptor_pages, no_descriptor_pages}
use Rattle.iq_opening.specs.Tables.{Format, may_stand, is_table}

-- pages of a table that may stand, and of one that may not
pub table_pages : (format : Format) (before more : List ℕ) (t : Descriptor) (pages : List (List ℕ)) → IsStorable t → HasPages t pages
    → is_table format before more pages ≡ may_stand format before more t
table_pages format before more t pages s has =
    let right = descriptor_pages t pages s has in
    let said = said_back t pages s has in
    rw right (ap (may_stand format before more) said)

-- pages of no descriptor
pub no_table_pages : (format : Format) (before more : List ℕ) (pages : List (List ℕ))
    → ((t : Descriptor) → IsStorable t → ¬ (HasPages t pages)) → is_table format before more pages ≡ false
no_table_pages format before more pages none =
    let wrong = no_descriptor_pages pages none in
    rw wrong refl
