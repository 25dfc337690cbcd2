-- That tables are plain holds in one way.
use Rattle.std.specs.Prelude.{◌≡◌, false, List, [], ◌∷◌}
use Rattle.std.specs.Coded.{×_prop, Unit-prop, le_prop, Coded-set, coded_bool, coded_list}
use Rattle.iq_base.specs.Shorts.{Name}
use Rattle.iq_base.specs.contracts.descriptors.IndexPart as index
use Rattle.iq_base.specs.declared.descriptors.Descriptor.{Descriptor}
use Rattle.iq_conditions.specs.Servers.{same_name}
use Rattle.iq_database.specs.Standing.{HasNone, AreDistinct, AreTables}
use Rattle.iq_write.specs.Simple.{ArePlain}

none_prop : (name : Name) (ds : List Descriptor) → IsProp (HasNone name ds)
none_prop name [] = Unit-prop
none_prop name (d ∷ ds) = let own : IsProp (same_name d.name name ≡ false) = Coded-set coded_bool (same_name d.name name) false in ×_prop own (none_prop name ds)

distinct_prop : (ds : List Descriptor) → IsProp (AreDistinct ds)
distinct_prop [] = Unit-prop
distinct_prop (d ∷ ds) = ×_prop (none_prop d.name ds) (distinct_prop ds)

indexes_prop : (d : Descriptor) → IsProp (d.indexes ≡ [])
indexes_prop d = Coded-set (coded_list index.the_row.coded) d.indexes []

pub plain_prop : (ds : List Descriptor) → IsProp (ArePlain ds)
plain_prop ds = hlevel (distinct_prop, le_prop, indexes_prop)
