-- Which rows a test finds.
use Rattle.std.specs.Prelude.{◌≡◌, ℕ, Bool, ◌&&◌, List, Option, Some, None, unwrap_or}
use Rattle.iq_base.specs.Shorts.{Name}
use Rattle.iq_base.specs.declared.schemas.Column.{Column}
use Rattle.iq_ast.specs.declared.conditions.Test.{Test}
use Rattle.iq_truth.specs.declared.truth.Side.{Side}
use Rattle.iq_truth.specs.Sides.{is_on}
use Rattle.iq_truth.specs.Tests.{test_truth}
use Rattle.iq_fp.specs.declared.fp.Fp.{Fp}
use Rattle.iq_table.specs.declared.table.Table.{Table}
use Rattle.iq_table.specs.Places.{fp_at}
use Rattle.iq_conditions.specs.Conditions.{test_names}
use Rattle.iq_conditions.specs.Servers.{column_place}
use Rattle.iq_statements.specs.Checks.{first_found}
use Rattle.iq_statements.specs.Named.{no_column}
use Rattle.iq_statements.specs.Rows.{value_named}
use Rattle.iq_statements.specs.Tables.{Slot}

-- whether the row of a slot is on a side of a test, by the values of its columns
abbrev pub on_test : List Column → Side → Test → Slot → Bool
on_test columns side test slot = is_on side (test_truth (value_named columns slot.row) test)

-- whether it is, and is there
abbrev pub is_found : List Column → Side → Test → Slot → Bool
is_found columns side test slot = on_test columns side test slot && slot.alive

-- each column that the test names is there
abbrev pub AreNamed : List Column → Test → Type 0
AreNamed columns test = first_found (no_column columns) (test_names test) ≡ None

-- the place of a column by its name, the first where there is none
abbrev pub place_named : List Column → Name → ℕ
place_named columns name = unwrap_or (column_place columns name) 0

-- a column of a table by its name
abbrev pub fp_named : Table → List Column → Name → Fp
fp_named table columns name = fp_at table.place table.parts (place_named columns name)
