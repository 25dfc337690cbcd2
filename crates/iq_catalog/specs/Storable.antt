-- Which descriptors may be stored.
use Rattle.std.specs.Prelude.{◌≡◌, ◌≤◌, ℕ, Bool, true, false, ◌&&◌, not, max, List, [], ◌∷◌, length, map, nat_eq, nat_lt, nat_le, if◌then◌else◌, Option, Some, None}
use Rattle.std.specs.List.{list_any}
use Rattle.std.specs.Cmp.Lexicographic.{pointwise}
use Rattle.iq_base.specs.Limits.{text_length, rows_within}
use Rattle.iq_base.specs.declared.values.Kind.{Kind}
use Rattle.iq_base.specs.declared.values.Kind.TheVariants.{Int, Big, Varchar}
use Rattle.iq_base.specs.declared.schemas.IndexKind.{IndexKind}
use Rattle.iq_base.specs.declared.schemas.IndexKind.TheVariants.{Lf, Hg, Hng, Cmp}
use Rattle.iq_base.specs.declared.refs.Ref.{Ref}
use Rattle.iq_base.specs.declared.descriptors.ColumnPart.{ColumnPart}
use Rattle.iq_base.specs.declared.descriptors.IndexPart.{IndexPart}
use Rattle.iq_base.specs.declared.descriptors.Descriptor.{Descriptor}

-- the greatest number of 4 bytes
abbrev pub most_number : ℕ
most_number = 4294967295

-- bytes of ASCII
abbrev pub is_ascii : List ℕ → Bool
is_ascii [] = true
is_ascii (byte ∷ bytes) = nat_lt byte 128 && is_ascii bytes

-- a name: 1 to 30 bytes of ASCII
abbrev pub is_name : List ℕ → Bool
is_name name = nat_le 1 (length name) && nat_le (length name) 30 && is_ascii name

-- a reference: at most 63,504 pages, and the root is 0 exactly where there are none
abbrev pub is_ref : Ref → Bool
is_ref object =
    nat_le object.pages 63504 && nat_le object.root most_number && (if nat_eq object.pages 0 then nat_eq object.root 0 else nat_lt 0 object.root)

-- what a column holds: a text of a VARCHAR has 1 to 255 bytes
abbrev pub is_kind : Kind → Bool
is_kind Int = true
is_kind Big = true
is_kind (Varchar n) = nat_le 1 n && nat_le n 255

-- how many bytes a code has, by the number of distinct values
abbrev pub form_for : ℕ → ℕ
form_for distinct = if nat_le distinct 256 then 1 else (if nat_le distinct 65536 then 2 else 3)

-- a column: its form is that of its distinct values
abbrev pub is_column : ColumnPart → Bool
is_column c =
    is_name c.name && is_kind c.kind && nat_eq c.form (form_for c.distinct) && nat_le c.distinct most_number && is_ref c.cells && is_ref c.values

-- the second column of an index: CMP alone has one, which is a column of the table and another than the first
abbrev pub is_second : ℕ → ℕ → IndexKind → Option ℕ → Bool
is_second count column Lf None = true
is_second count column Lf (Some second) = false
is_second count column Hg None = true
is_second count column Hg (Some second) = false
is_second count column Hng None = true
is_second count column Hng (Some second) = false
is_second count column Cmp None = false
is_second count column Cmp (Some second) = nat_lt second count && not (nat_eq second column)

-- the distinct values of an index: LF alone has some, at most 1,000
abbrev pub most_distinct : IndexKind → ℕ
most_distinct Lf = 1000
most_distinct Hg = 0
most_distinct Hng = 0
most_distinct Cmp = 0

-- an index of a table with so many columns
abbrev pub is_index : ℕ → IndexPart → Bool
is_index count i =
    is_name i.spec.name && nat_lt i.spec.column count && is_second count i.spec.column i.spec.kind i.spec.second
    && nat_le i.distinct (most_distinct i.spec.kind) && is_ref i.first && is_ref i.second && is_ref i.third

-- columns, each by itself
abbrev pub are_columns : List ColumnPart → Bool
are_columns [] = true
are_columns (c ∷ cs) = is_column c && are_columns cs

-- indexes, each by itself
abbrev pub are_indexes : ℕ → List IndexPart → Bool
are_indexes count [] = true
are_indexes count (i ∷ is) = is_index count i && are_indexes count is

-- a name stands among some
abbrev pub is_among : List (List ℕ) → List ℕ → Bool
is_among names name = list_any (λ (other : List ℕ). pointwise nat_eq other name) names

-- no name stands twice among some
abbrev pub are_distinct : List (List ℕ) → Bool
are_distinct [] = true
are_distinct (name ∷ names) = not (is_among names name) && are_distinct names

abbrev pub column_names : List ColumnPart → List (List ℕ)
column_names cs = map (λ (c : ColumnPart). c.name) cs

abbrev pub index_names : List IndexPart → List (List ℕ)
index_names is = map (λ (i : IndexPart). i.spec.name) is

-- the greatest length of a text of some columns, and 0 where none has texts
abbrev pub longest_text : List ColumnPart → ℕ
longest_text [] = 0
longest_text (c ∷ cs) = max (text_length c.kind) (longest_text cs)

-- an index is LF
abbrev pub is_low_fast : IndexKind → Bool
is_low_fast Lf = true
is_low_fast Hg = false
is_low_fast Hng = false
is_low_fast Cmp = false

abbrev pub has_low_fast : List IndexPart → Bool
has_low_fast is = list_any (λ (i : IndexPart). is_low_fast i.spec.kind) is

-- how many slots a table may have, by its longest text and by whether it has a Low Fast index
abbrev pub slot_limit : Descriptor → ℕ
slot_limit t = rows_within (longest_text t.columns) (has_low_fast t.indexes)

-- a descriptor that may be stored
pub record IsStorable (t : Descriptor) : Type 0 where
  pub name : is_name t.name ≡ true
  pub slots : t.slots ≤ slot_limit t
  pub existence : is_ref t.existence ≡ true
  pub some_column : 1 ≤ length t.columns
  pub few_columns : length t.columns ≤ 32
  pub few_indexes : length t.indexes ≤ 32
  pub columns : are_columns t.columns ≡ true
  pub indexes : are_indexes (length t.columns) t.indexes ≡ true
  pub column_names : are_distinct (column_names t.columns) ≡ true
  pub index_names : are_distinct (index_names t.indexes) ≡ true
