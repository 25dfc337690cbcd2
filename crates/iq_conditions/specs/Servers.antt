-- What serves a test of a table: the first index of the test's row that the column has; of two of one kind the older.
use Rattle.std.specs.Prelude.{ℕ, Bool, true, false, ◌&&◌, ◌||◌, List, [], ◌∷◌, Option, Some, None, nat_eq}
use Rattle.std.specs.List.{position, list_any, list_all}
use Rattle.std.specs.Cmp.Lexicographic.{pointwise}
use Rattle.iq_base.specs.Shorts.{Name}
use Rattle.iq_base.specs.declared.schemas.Column.{Column}
use Rattle.iq_base.specs.declared.schemas.IndexKind.{IndexKind}
use Rattle.iq_base.specs.declared.schemas.IndexKind.TheVariants as kinds
use Rattle.iq_base.specs.declared.descriptors.IndexSpec.{IndexSpec}
use Rattle.iq_ast.specs.declared.conditions.Op.{Op}
use Rattle.iq_ast.specs.declared.conditions.Op.TheVariants as ops
use Rattle.iq_ast.specs.declared.conditions.Test.{Test}
use Rattle.iq_ast.specs.declared.conditions.Test.TheVariants as tests
use Rattle.iq_conditions.specs.declared.servers.Server.{Server}
use Rattle.iq_conditions.specs.declared.servers.Server.TheVariants.{Index, Fp, Nothing}
use Rattle.iq_truth.specs.Comparisons.{is_null}

-- whether two names are one
abbrev pub same_name : Name → Name → Bool
same_name a b = pointwise nat_eq a b

-- the place of a column in its table, if there is one of this name
abbrev pub column_place : List Column → Name → Option ℕ
column_place columns name = position (λ (column : Column). same_name column.name name) columns

-- the number of a kind, as descriptors have it
abbrev pub kind_number : IndexKind → ℕ
kind_number kinds.Lf = 1
kind_number kinds.Hg = 2
kind_number kinds.Hng = 3
kind_number kinds.Cmp = 4

-- an index of this kind on the column at this place
abbrev pub is_on : IndexKind → ℕ → IndexSpec → Bool
is_on kind column index = nat_eq (kind_number index.kind) (kind_number kind) && nat_eq index.column column

-- whether an index's second column is at this place
abbrev pub is_second : ℕ → Option ℕ → Bool
is_second column None = false
is_second column (Some second) = nat_eq second column

-- a Compare index of the two columns, in either order
abbrev pub is_on_both : ℕ → ℕ → IndexSpec → Bool
is_on_both left right index =
    nat_eq (kind_number index.kind) (kind_number kinds.Cmp)
    && ((nat_eq index.column left && is_second right index.second) || (nat_eq index.column right && is_second left index.second))

-- the index at a place, or else another server
abbrev pub served : Option ℕ → Server → Server
served (Some place) other = Index place
served None other = other

-- the oldest index on a column of the first of these kinds that it has, else the column's values
abbrev pub first_server : List IndexKind → ℕ → List IndexSpec → Server
first_server [] column indexes = Fp
first_server (kind ∷ more) column indexes = served (position (is_on kind column) indexes) (first_server more column indexes)

-- the kinds that serve an equality, in order of choice; those that serve a range
abbrev pub for_equality : List IndexKind
for_equality = kinds.Lf ∷ kinds.Hg ∷ kinds.Hng ∷ []

abbrev pub for_range : List IndexKind
for_range = kinds.Hng ∷ kinds.Lf ∷ kinds.Hg ∷ []

abbrev pub kinds_for : Op → List IndexKind
kinds_for ops.Eq = for_equality
kinds_for ops.Ne = for_range
kinds_for ops.Lt = for_range
kinds_for ops.Le = for_range
kinds_for ops.Gt = for_range
kinds_for ops.Ge = for_range

-- the first server of a column that is there
abbrev pub column_server : List IndexKind → Option ℕ → List IndexSpec → Server
column_server kinds None indexes = Nothing
column_server kinds (Some column) indexes = first_server kinds column indexes

-- nothing where a test can't be true, else the column's server
abbrev pub server_unless : Bool → List IndexKind → Option ℕ → List IndexSpec → Server
server_unless true kinds column indexes = Nothing
server_unless false kinds column indexes = column_server kinds column indexes

abbrev pub columns_server : Option ℕ → Option ℕ → List IndexSpec → Server
columns_server None right indexes = Nothing
columns_server (Some left) None indexes = Nothing
columns_server (Some left) (Some right) indexes = served (position (is_on_both left right) indexes) Fp

-- what serves a test as it is planned, over a table's columns and indexes
abbrev pub server_of : List Column → List IndexSpec → Test → Server
server_of columns indexes (tests.Compare column op value) = server_unless (is_null value) (kinds_for op) (column_place columns column) indexes
server_of columns indexes (tests.Columns left op right) = columns_server (column_place columns left) (column_place columns right) indexes
server_of columns indexes (tests.Between column negated low high) =
    server_unless (is_null low || is_null high) for_range (column_place columns column) indexes
server_of columns indexes (tests.OneOf column true values) = server_unless (list_any is_null values) for_range (column_place columns column) indexes
server_of columns indexes (tests.OneOf column false values) = server_unless (list_all is_null values) for_equality (column_place columns column) indexes
server_of columns indexes (tests.Null column negated) = Fp
