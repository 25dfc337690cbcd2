-- Why pages were not read.
use Rattle.std.specs.Prelude.{ℕ, List}
use Rattle.iq_base.specs.declared.descriptors.Descriptor.{Descriptor}
use Rattle.iq_catalog.specs.declared.faults.CatalogFault.{CatalogFault}
use Rattle.iq_catalog.specs.declared.faults.CatalogFault.TheVariants.{BadCatalog, NoMemory}
use Rattle.iq_catalog.specs.Storable.{IsStorable}
use Rattle.iq_catalog.specs.Pages.{HasPages}

-- no descriptor: no storable one has these pages, or memory is wanting
abbrev pub HasNoTable : CatalogFault → List (List ℕ) → Type 0
HasNoTable (BadCatalog page) pages = (t : Descriptor) → IsStorable t → ¬ (HasPages t pages)
HasNoTable NoMemory pages = Unit {0}
