-- How a plan is printed: a row for each test, with what serves it.
use Rattle.std.specs.Prelude.{ℕ, Bool, true, false, List, [], ◌∷◌, ◌++◌, Option, Some, None, nat_eq, map, flat_map, codes, if◌then◌else◌}
use Rattle.std.specs.List.{slice_get}
use Rattle.std.specs.Fmt.{signed_decimal}
use Rattle.iq_base.specs.declared.schemas.Column.{Column}
use Rattle.iq_base.specs.declared.schemas.IndexKind.{IndexKind}
use Rattle.iq_base.specs.declared.schemas.IndexKind.TheVariants as kinds
use Rattle.iq_base.specs.declared.descriptors.IndexSpec.{IndexSpec}
use Rattle.iq_base.specs.declared.values.Value.{Value}
use Rattle.iq_base.specs.declared.values.Value.TheVariants as values
use Rattle.iq_ast.specs.declared.conditions.Op.{Op}
use Rattle.iq_ast.specs.declared.conditions.Op.TheVariants as ops
use Rattle.iq_ast.specs.declared.conditions.Test.{Test}
use Rattle.iq_ast.specs.declared.conditions.Test.TheVariants as tests
use Rattle.iq_ast.specs.declared.conditions.Cond.{Cond}
use Rattle.iq_conditions.specs.declared.servers.Server.{Server}
use Rattle.iq_conditions.specs.declared.servers.Server.TheVariants.{Index, Fp, Nothing}
use Rattle.iq_conditions.specs.Carried.{carried_tests, planned_tests}
use Rattle.iq_conditions.specs.Servers.{server_of}

-- a byte of a quoted text: a quote stands twice
abbrev pub quoted_byte : ℕ → List ℕ
quoted_byte byte = if nat_eq byte 39 then 39 ∷ 39 ∷ [] else byte ∷ []

-- a literal: NULL, a number's digits, or a text in quotes
abbrev pub literal_text : Value → List ℕ
literal_text values.Null = codes "NULL"
literal_text (values.Int number) = signed_decimal number
literal_text (values.Text text) = codes "'" ++ flat_map quoted_byte text ++ codes "'"

-- literals in brackets, with commas between them
abbrev pub then_literal : Value → List ℕ
then_literal value = codes "," ++ literal_text value

abbrev pub literals_text : List Value → List ℕ
literals_text [] = codes "()"
literals_text (value ∷ values) = codes "(" ++ literal_text value ++ flat_map then_literal values ++ codes ")"

abbrev pub op_text : Op → List ℕ
op_text ops.Eq = codes " = "
op_text ops.Ne = codes " <> "
op_text ops.Lt = codes " < "
op_text ops.Le = codes " <= "
op_text ops.Gt = codes " > "
op_text ops.Ge = codes " >= "

-- a word behind a column, with NOT before it or not
abbrev pub word_text : Bool → List ℕ → List ℕ
word_text true word = codes " NOT " ++ word
word_text false word = codes " " ++ word

abbrev pub null_text : Bool → List ℕ
null_text true = codes " IS NOT NULL"
null_text false = codes " IS NULL"

abbrev pub test_text : Test → List ℕ
test_text (tests.Compare column op value) = column ++ op_text op ++ literal_text value
test_text (tests.Columns left op right) = left ++ op_text op ++ right
test_text (tests.Between column negated low high) =
    column ++ word_text negated (codes "BETWEEN ") ++ literal_text low ++ codes " AND " ++ literal_text high
test_text (tests.OneOf column negated values) = column ++ word_text negated (codes "IN ") ++ literals_text values
test_text (tests.Null column negated) = column ++ null_text negated

-- the word of an index's kind
abbrev pub kind_text : IndexKind → List ℕ
kind_text kinds.Lf = codes "LF "
kind_text kinds.Hg = codes "HG "
kind_text kinds.Hng = codes "HNG "
kind_text kinds.Cmp = codes "CMP "

abbrev pub index_text : Option IndexSpec → List ℕ
index_text None = []
index_text (Some index) = kind_text index.kind ++ index.name

abbrev pub server_text : List IndexSpec → Server → List ℕ
server_text indexes (Index place) = index_text (slice_get indexes place)
server_text indexes Fp = codes "FP"
server_text indexes Nothing = codes "none"

-- a row of the plan: a test, and what serves it
abbrev pub plan_text : List Column → List IndexSpec → Test → List ℕ
plan_text columns indexes test = test_text test ++ codes " via " ++ server_text indexes (server_of columns indexes test)

-- the plan of a condition: a row for each test, in text order; without a condition all rows are read by the existence bitmap
abbrev pub plan_texts : List Column → List IndexSpec → Option Cond → List (List ℕ)
plan_texts columns indexes None = codes "all via existence" ∷ []
plan_texts columns indexes (Some cond) = map (plan_text columns indexes) (flat_map planned_tests (carried_tests cond))
