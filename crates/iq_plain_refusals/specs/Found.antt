-- The refusals of a query, in the order in which they are looked for.
use Rattle.std.specs.Prelude.{List, [], ◌∷◌, Option}
use Rattle.std.specs.Option.{option_or}
use Rattle.iq_base.specs.declared.schemas.Column.{Column}
use Rattle.iq_base.specs.declared.refusals.Refusal.{Refusal}
use Rattle.iq_ast.specs.declared.statements.Select.{Select}
use Rattle.iq_statements.specs.Checks.{first_found, first_refusal}
use Rattle.iq_statements.specs.Fits.{item_mismatch, test_mismatch}
use Rattle.iq_statements.specs.Named.{named, fitting, no_column, select_names, tests_in}

-- the refusal of a query's list and of its tests, by classes
abbrev pub select_unfit : List Column → Select → Option Refusal
select_unfit columns select =
    option_or (first_found (item_mismatch columns) select.items) (first_found (test_mismatch columns) (tests_in select.cond))

-- the refusal of a query, where that of its groups is told
abbrev pub select_found : List Column → Select → Option Refusal → Option Refusal
select_found columns select ungrouped =
    first_refusal
    (named (first_found (no_column columns) (select_names select)) ∷ fitting (select_unfit columns select) ∷ fitting ungrouped ∷ [])
