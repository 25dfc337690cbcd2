-- Tables, queries and writes of a few rows, for what statements mean on them.
use Rattle.std.specs.Prelude.{ℕ, pos, negsuc, Bool, true, false, List, [], ◌∷◌, Option, Some, None, codes, map}
use Rattle.iq_base.specs.Shorts.{Name}
use Rattle.iq_base.specs.declared.descriptors.IndexSpec.{IndexSpec}
use Rattle.iq_base.specs.declared.refusals.Refusal.{Refusal}
use Rattle.iq_base.specs.declared.schemas.Column.{Column}
use Rattle.iq_base.specs.declared.schemas.IndexKind.{IndexKind}
use Rattle.iq_base.specs.declared.schemas.IndexKind.TheVariants as index_kinds
use Rattle.iq_base.specs.declared.values.Kind.TheVariants as kinds
use Rattle.iq_base.specs.declared.values.Value.{Value}
use Rattle.iq_base.specs.declared.values.Value.TheVariants as values
use Rattle.iq_ast.specs.declared.conditions.Cond.{Cond, end_of-Cond, more_of-Cond}
use Rattle.iq_ast.specs.declared.conditions.Cond as conds
use Rattle.iq_ast.specs.declared.conditions.Op.{Op}
use Rattle.iq_ast.specs.declared.conditions.Test.TheVariants as tests
use Rattle.iq_ast.specs.declared.statements.Item.{Item}
use Rattle.iq_ast.specs.declared.statements.Order.{Order}
use Rattle.iq_ast.specs.declared.statements.Select.{Select}
use Rattle.iq_ast.specs.declared.statements.Write.{Write}
use Rattle.iq_ast.specs.declared.statements.Write.TheVariants as writes
use Rattle.iq_model.specs.declared.answers.Answer.{Answer}
use Rattle.iq_model.specs.declared.answers.Answer.TheVariants as answers
use Rattle.iq_model.specs.declared.answers.Out.{Out}
use Rattle.iq_model.specs.declared.answers.Out.TheVariants as outs
use Rattle.iq_statements.specs.Checks.{first_refusal}
use Rattle.iq_statements.specs.Effects.{effect}
use Rattle.iq_statements.specs.Named.{query_checks, write_checks}
use Rattle.iq_statements.specs.Room.{write_room}
use Rattle.iq_statements.specs.Tables.{Table, Database, live_slot}
use Rattle.iq_replay_tests.specs.Words.{number_column}

-- NAMES

abbrev pub t : Name
t = codes "t"

abbrev pub x : Name
x = codes "x"

abbrev pub y : Name
y = codes "y"

abbrev pub a : Name
a = codes "a"

abbrev pub b : Name
b = codes "b"

abbrev pub r : Name
r = codes "r"

abbrev pub v : Name
v = codes "v"

-- VALUES

abbrev pub number : ℕ → Value
number n = values.Int (pos n)

abbrev pub text : List ℕ → Value
text bytes = values.Text bytes

-- TABLES

-- a column of texts of at most so many bytes, which may hold NULL
abbrev pub text_column : Name → ℕ → Column
text_column name most = record { name = name; kind = kinds.Varchar most; null = true }

-- an index of a kind on the column at a place
abbrev pub index : Name → IndexKind → ℕ → IndexSpec
index name of_kind column = record { name = name; kind = of_kind; column = column; second = None }

abbrev pub table : List Column → List IndexSpec → List (List Value) → Table
table columns indexes rows = record { name = t; columns = columns; indexes = indexes; slots = map live_slot rows }

-- t (x INT NULL) with 1, 2 and NULL
abbrev pub with_null : Database
with_null = table (number_column x ∷ []) [] ((number 1 ∷ []) ∷ (number 2 ∷ []) ∷ (values.Null ∷ []) ∷ []) ∷ []

-- t (x INT) with the least and the greatest number, -1 and 0, and High Non Group h
abbrev pub with_signs : Database
with_signs =
    table (number_column x ∷ []) (index (codes "h") index_kinds.Hng 0 ∷ [])
    ((values.Int (negsuc 2147483647) ∷ []) ∷ (values.Int (negsuc 0) ∷ []) ∷ (number 0 ∷ []) ∷ (number 2147483647 ∷ []) ∷ [])
    ∷ []

-- t (a INT NULL, b INT NULL) with Compare k on both
abbrev pub with_pairs : Database
with_pairs =
    table (number_column a ∷ number_column b ∷ []) (record { name = codes "k"; kind = index_kinds.Cmp; column = 0; second = Some 1 } ∷ [])
    ((number 1 ∷ number 2 ∷ []) ∷ (number 2 ∷ number 2 ∷ []) ∷ (number 3 ∷ number 2 ∷ []) ∷ (values.Null ∷ number 2 ∷ []) ∷ [])
    ∷ []

-- t (r VARCHAR(5) NULL, v INT NULL)
abbrev pub with_groups : Database
with_groups =
    table (text_column r 5 ∷ number_column v ∷ []) []
    ((text (codes "b") ∷ number 1 ∷ []) ∷ (text (codes "a") ∷ number 2 ∷ []) ∷ (text (codes "b") ∷ values.Null ∷ [])
    ∷ (values.Null ∷ number 4 ∷ []) ∷ (text (codes "a") ∷ values.Int (negsuc 1) ∷ []) ∷ [])
    ∷ []

-- t (x INT NULL) with Low Fast l and High Group h, and no rows
abbrev pub with_two_indexes : Database
with_two_indexes =
    table (number_column x ∷ []) (index (codes "l") index_kinds.Lf 0 ∷ index (codes "h") index_kinds.Hg 0 ∷ []) [] ∷ []

-- t (x INT NULL, y INT NULL) without rows
abbrev pub without_rows : Database
without_rows = table (number_column x ∷ number_column y ∷ []) [] [] ∷ []

-- CONDITIONS

abbrev pub compare : Name → Op → Value → Cond
compare column op value = conds.Test (tests.Compare column op value)

abbrev pub columns : Name → Op → Name → Cond
columns left op right = conds.Test (tests.Columns left op right)

abbrev pub between : Name → Value → Value → Cond
between column low high = conds.Test (tests.Between column false low high)

abbrev pub one_of : Name → Bool → List Value → Cond
one_of column negated list = conds.Test (tests.OneOf column negated list)

abbrev pub is_null : Name → Cond
is_null column = conds.Test (tests.Null column false)

abbrev pub not_so : Cond → Cond
not_so cond = conds.Not' _ (more_of-Cond cond end_of-Cond)

-- two conditions, of which one holds at least
abbrev pub either : Cond → Cond → Cond
either one other = conds.Or' (tt ∷ tt ∷ []) (more_of-Cond one (more_of-Cond other end_of-Cond))

-- QUERIES

-- SELECT * FROM t WHERE ..
abbrev pub where_so : Cond → Select
where_so cond = record { explain = false; items = []; table = t; cond = Some cond; group = []; order = [] }

-- SELECT .. FROM t
abbrev pub list : List Item → Select
list members = record { explain = false; items = members; table = t; cond = None; group = []; order = [] }

abbrev pub grouped : List Item → List Name → Select
grouped members names = record { explain = false; items = members; table = t; cond = None; group = names; order = [] }

abbrev pub ordered : List Item → List Order → Select
ordered members orders = record { explain = false; items = members; table = t; cond = None; group = []; order = orders }

abbrev pub explained : Cond → Select
explained cond = record { explain = true; items = []; table = t; cond = Some cond; group = []; order = [] }

abbrev pub explained_all : Select
explained_all = record { explain = true; items = []; table = t; cond = None; group = []; order = [] }

-- ANSWERS

abbrev pub out : ℕ → Out
out n = outs.Int (pos n)

abbrev pub numbers : List ℕ → Answer
numbers list = answers.Rows (map (λ (n : ℕ). out n ∷ []) list)

-- the first refusal of a query, and of a write up to its locks and behind them
abbrev pub query_refusal : Select → Database → Option Refusal
query_refusal select db = first_refusal (query_checks select db)

abbrev pub write_refusal : Write → Database → Option Refusal
write_refusal write db = first_refusal (write_checks write db)

abbrev pub room_refusal : Write → Database → Option Refusal
room_refusal write db = first_refusal (write_room write db)

-- INSERT INTO t VALUES (n)
abbrev pub insert_number : ℕ → Write
insert_number n = writes.Insert t ((number n ∷ []) ∷ [])

-- a number was put in, removed, and put in again
abbrev pub after_writes : Database
after_writes = effect (insert_number 5) (effect (writes.Delete t None) (effect (insert_number 5) with_two_indexes))
