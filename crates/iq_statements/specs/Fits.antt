-- Whether values and columns go together: numbers with numbers, texts with texts.
use Rattle.std.specs.Prelude.{Bool, true, false, not, List, [], ◌∷◌, Option, Some, None, find, nat_eq}
use Rattle.std.specs.List.{list_any}
use Rattle.iq_base.specs.Shorts.{Name}
use Rattle.iq_base.specs.declared.values.Value.{Value}
use Rattle.iq_base.specs.declared.values.Value.TheVariants as values
use Rattle.iq_base.specs.declared.values.Kind.{Kind}
use Rattle.iq_base.specs.declared.values.Kind.TheVariants as kinds
use Rattle.iq_base.specs.declared.schemas.Column.{Column}
use Rattle.iq_base.specs.declared.schemas.IndexKind.{IndexKind}
use Rattle.iq_base.specs.declared.schemas.IndexKind.TheVariants as index_kinds
use Rattle.iq_base.specs.declared.refusals.FieldCause.{FieldCause}
use Rattle.iq_base.specs.declared.refusals.FieldCause.TheVariants as causes
use Rattle.iq_base.specs.declared.refusals.Refusal.{Refusal}
use Rattle.iq_base.specs.declared.refusals.Refusal.TheVariants as refusals
use Rattle.iq_ast.specs.declared.conditions.Test.{Test}
use Rattle.iq_ast.specs.declared.conditions.Test.TheVariants as tests
use Rattle.iq_ast.specs.declared.statements.Change.{Change}
use Rattle.iq_ast.specs.declared.statements.Item.{Item}
use Rattle.iq_ast.specs.declared.statements.Item.TheVariants as items
use Rattle.iq_cells.specs.Fields.{field_cause}
use Rattle.iq_conditions.specs.Servers.{same_name}
use Rattle.iq_statements.specs.Checks.{found_if}

-- the column of a name, if there is one
abbrev pub column_named : List Column → Name → Option Column
column_named columns name = find (λ (column : Column). same_name column.name name) columns

-- whether a column holds texts; else it holds numbers
abbrev pub is_text : Kind → Bool
is_text kinds.Int = false
is_text kinds.Big = false
is_text (kinds.Varchar most) = true

-- whether two columns are of one type; lengths of texts count
abbrev pub same_type : Kind → Kind → Bool
same_type kinds.Int kinds.Int = true
same_type kinds.Int kinds.Big = false
same_type kinds.Int (kinds.Varchar most) = false
same_type kinds.Big kinds.Int = false
same_type kinds.Big kinds.Big = true
same_type kinds.Big (kinds.Varchar most) = false
same_type (kinds.Varchar most) kinds.Int = false
same_type (kinds.Varchar most) kinds.Big = false
same_type (kinds.Varchar most) (kinds.Varchar other) = nat_eq most other

-- whether two columns are of one class
abbrev pub same_class : Kind → Kind → Bool
same_class kind other = is_class (is_text kind) (is_text other)
  where
    is_class : Bool → Bool → Bool
    is_class true text = text
    is_class false text = not text

-- whether a value is of a column's class; NULL is of each
abbrev pub is_of_class : Kind → Value → Bool
is_of_class kind values.Null = true
is_of_class kind (values.Int number) = not (is_text kind)
is_of_class kind (values.Text text) = is_text kind

-- TESTS OF A CONDITION

-- the refusal of a column beside values, one of which is of another class
abbrev pub mismatch : Name → Option Column → List Value → Option Refusal
mismatch name None values = None
mismatch name (Some column) values =
    found_if (list_any (λ (value : Value). not (is_of_class column.kind value)) values) (refusals.TypeMismatch name)

-- the refusal of two columns of different classes, which names the left one
abbrev pub columns_mismatch : Name → Option Column → Option Column → Option Refusal
columns_mismatch name None right = None
columns_mismatch name (Some left) None = None
columns_mismatch name (Some left) (Some right) = found_if (not (same_class left.kind right.kind)) (refusals.TypeMismatch name)

abbrev pub test_mismatch : List Column → Test → Option Refusal
test_mismatch columns (tests.Compare column op value) = mismatch column (column_named columns column) (value ∷ [])
test_mismatch columns (tests.Columns left op right) = columns_mismatch left (column_named columns left) (column_named columns right)
test_mismatch columns (tests.Between column negated low high) = mismatch column (column_named columns column) (low ∷ high ∷ [])
test_mismatch columns (tests.OneOf column negated values) = mismatch column (column_named columns column) values
test_mismatch columns (tests.Null column negated) = None

-- MEMBERS OF A LIST

-- the refusal of a sum of texts
abbrev pub text_sum : Name → Option Column → Option Refusal
text_sum name None = None
text_sum name (Some column) = found_if (is_text column.kind) (refusals.TypeMismatch name)

abbrev pub item_mismatch : List Column → Item → Option Refusal
item_mismatch columns (items.Plain name) = None
item_mismatch columns items.CountAll = None
item_mismatch columns (items.Count name) = None
item_mismatch columns (items.Sum name) = text_sum name (column_named columns name)
item_mismatch columns (items.Min name) = None
item_mismatch columns (items.Max name) = None

-- VALUES OF SET

-- how SET tells what is wrong with a value; a single value has no count, and a literal is UTF-8
abbrev pub set_refusal : Name → FieldCause → Option Refusal
set_refusal name causes.Count = None
set_refusal name causes.NotNumber = Some (refusals.TypeMismatch name)
set_refusal name causes.NotText = Some (refusals.TypeMismatch name)
set_refusal name causes.Range = Some (refusals.TypeMismatch name)
set_refusal name causes.NullRefused = Some (refusals.NullRefused name)
set_refusal name causes.TextTooLong = Some (refusals.TextTooLong name)
set_refusal name causes.NotUtf8 = None

abbrev pub set_cause : Name → Option FieldCause → Option Refusal
set_cause name None = None
set_cause name (Some cause) = set_refusal name cause

abbrev pub unfit_change : Name → Option Column → Value → Option Refusal
unfit_change name None value = None
unfit_change name (Some column) value = set_cause name (field_cause column value)

abbrev pub change_refusal : List Column → Change → Option Refusal
change_refusal columns change = unfit_change change.column (column_named columns change.column) change.value

-- INDEXES

-- the refusal of an index that can't be on its columns: High Non Group on texts, Compare on two types; it names the first column
abbrev pub index_unfit : IndexKind → Name → Option Column → Option Column → Option Refusal
index_unfit kind name None second = None
index_unfit index_kinds.Lf name (Some column) second = None
index_unfit index_kinds.Hg name (Some column) second = None
index_unfit index_kinds.Hng name (Some column) second = found_if (is_text column.kind) (refusals.IndexUnfit name)
index_unfit index_kinds.Cmp name (Some column) None = None
index_unfit index_kinds.Cmp name (Some column) (Some second) =
    found_if (not (same_type column.kind second.kind)) (refusals.IndexUnfit name)
