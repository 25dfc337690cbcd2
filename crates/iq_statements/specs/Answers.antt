-- What a query answers: its rows, or under EXPLAIN the texts of its plan.
use Rattle.std.specs.Prelude.{ℤ, pos, List, [], ◌∷◌, Option, Some, None, length, map, if◌then◌else◌}
use Rattle.std.specs.declared.cmp.Ordering.{Ordering}
use Rattle.iq_base.specs.declared.values.Value.{Value}
use Rattle.iq_base.specs.declared.schemas.Column.{Column}
use Rattle.iq_ast.specs.declared.statements.Item.{Item}
use Rattle.iq_ast.specs.declared.statements.Item.TheVariants as items
use Rattle.iq_ast.specs.declared.statements.Order.{Order}
use Rattle.iq_ast.specs.declared.statements.Select.{Select}
use Rattle.iq_model.specs.declared.answers.Answer.{Answer}
use Rattle.iq_model.specs.declared.answers.Answer.TheVariants as answers
use Rattle.iq_model.specs.declared.answers.Out.{Out}
use Rattle.iq_model.specs.declared.answers.Out.TheVariants as outs
use Rattle.iq_model.specs.Outs.{out_of}
use Rattle.iq_conditions.specs.PlanTexts.{plan_texts}
use Rattle.iq_statements.specs.Tables.{Table, Database, content, table_of}
use Rattle.iq_statements.specs.Rows.{value_named, column_values, kept_rows, row_order, in_order}
use Rattle.iq_statements.specs.Named.{is_grouped, members_of}
use Rattle.iq_statements.specs.Groups.{groups_by, without_null, sum_of, least_of, greatest_of}

-- a sum as it is answered: NULL where no number was added
abbrev pub sum_out : Option ℤ → Out
sum_out None = outs.Null
sum_out (Some sum) = outs.Int sum

-- the first row of a group, from which its grouping columns are read
abbrev pub first_row : List (List Value) → List Value
first_row [] = []
first_row (row ∷ rows) = row

-- the value of a member of the list in a group: COUNT(*) counts rows, the others leave NULL out
abbrev pub item_out : List Column → List (List Value) → Item → Out
item_out columns group (items.Plain name) = out_of (value_named columns (first_row group) name)
item_out columns group items.CountAll = outs.Int (pos (length group))
item_out columns group (items.Count name) = outs.Int (pos (length (without_null (column_values columns group name))))
item_out columns group (items.Sum name) = sum_out (sum_of (column_values columns group name))
item_out columns group (items.Min name) = out_of (least_of (without_null (column_values columns group name)))
item_out columns group (items.Max name) = out_of (greatest_of (without_null (column_values columns group name)))

-- one row of the answer
abbrev pub projected : List Column → List Item → List (List Value) → List Out
projected columns members group = map (item_out columns group) members

-- a row as a group of its own
abbrev pub alone : List Value → List (List Value)
alone row = row ∷ []

-- what is answered row by row: groups, or each row for itself
abbrev pub groups_of : List Column → Select → List (List Value) → List (List (List Value))
groups_of columns select rows = if is_grouped select then groups_by columns select.group rows else map alone rows

-- how two groups stand by ORDER BY, which names their grouping columns
abbrev pub group_order : List Column → List Order → List (List Value) → List (List Value) → Ordering
group_order columns orders g h = row_order columns orders (first_row g) (first_row h)

-- The rows of a query over a table: keep the rows whose condition is true, group them, order the groups, and answer each.
abbrev pub rows_at : Table → Select → List (List Out)
rows_at t select =
    map (projected t.columns (members_of t.columns select.items))
    (in_order (group_order t.columns select.order) (groups_of t.columns select (kept_rows t.columns select.cond (content t))))

-- what a query answers over the table that it names
abbrev pub answer_at : Option Table → Select → Answer
answer_at None select = answers.Rows []
answer_at (Some t) select =
    if select.explain then answers.Plan (plan_texts t.columns t.indexes select.cond) else answers.Rows (rows_at t select)

-- what a query answers over a database, where it is not refused
abbrev pub answer : Select → Database → Answer
answer select db = answer_at (table_of select.table db) select
