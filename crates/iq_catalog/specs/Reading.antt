-- What any bytes say, read as a descriptor. Bytes that no storable descriptor has say something too, which is no storable descriptor
-- or has other bytes.
use Rattle.std.specs.Prelude.{ℕ, zero, suc, ◌+◌, ◌*◌, List, [], ◌∷◌, take, drop, slice_index, nat_eq, nat_le, if◌then◌else◌, Option, Some, None}
use Rattle.std.specs.Str.{is_utf8}
use Rattle.iq_base.specs.declared.values.Kind.{Kind}
use Rattle.iq_base.specs.declared.values.Kind.TheVariants.{Int, Big, Varchar}
use Rattle.iq_base.specs.declared.schemas.IndexKind.{IndexKind}
use Rattle.iq_base.specs.declared.schemas.IndexKind.TheVariants.{Lf, Hg, Hng, Cmp}
use Rattle.iq_base.specs.declared.refs.Ref.{Ref}
use Rattle.iq_base.specs.declared.descriptors.ColumnPart.{ColumnPart}
use Rattle.iq_base.specs.declared.descriptors.IndexPart.{IndexPart}
use Rattle.iq_base.specs.declared.descriptors.Descriptor.{Descriptor}
use Rattle.iq_block_store.specs.Frames.{number_at}

-- bytes that are a text, else none
abbrev pub text_of : List ℕ → List ℕ
text_of bytes = if is_utf8 bytes then bytes else []

-- the name in the first 31 bytes
unfoldable pub name_of : List ℕ → List ℕ
name_of bytes = if nat_le (slice_index bytes 0) 30 then text_of (take (slice_index bytes 0) (drop 1 bytes)) else []

-- the reference in the 8 bytes from a place on
unfoldable pub ref_of : List ℕ → ℕ → Ref
ref_of bytes i = record { root = number_at bytes i; pages = number_at bytes (i + 4) }

abbrev pub kind_of : ℕ → ℕ → Kind
kind_of code n = if nat_eq code 1 then Int else (if nat_eq code 2 then Big else Varchar n)

abbrev pub index_kind_of : ℕ → IndexKind
index_kind_of code = if nat_eq code 1 then Lf else (if nat_eq code 2 then Hg else (if nat_eq code 3 then Hng else Cmp))

abbrev pub second_of : ℕ → Option ℕ
second_of code = if nat_eq code 255 then None else Some code

-- the column in the first 55 bytes
unfoldable pub column_of : List ℕ → ColumnPart
column_of bytes = record {
  name = name_of bytes;
  kind = kind_of (slice_index bytes 31) (slice_index bytes 32);
  null = nat_eq (slice_index bytes 33) 1;
  form = slice_index bytes 34;
  distinct = number_at bytes 35;
  cells = ref_of bytes 39;
  values = ref_of bytes 47;
}

-- the index in the first 62 bytes
unfoldable pub index_of : List ℕ → IndexPart
index_of bytes = record {
  spec = record {
    name = name_of bytes;
    kind = index_kind_of (slice_index bytes 31);
    column = slice_index bytes 32;
    second = second_of (slice_index bytes 33);
  };
  distinct = number_at bytes 34;
  first = ref_of bytes 38;
  second = ref_of bytes 46;
  third = ref_of bytes 54;
}

-- so many columns, one behind the other
unfoldable pub columns_of : ℕ → List ℕ → List ColumnPart
columns_of zero bytes = []
columns_of (suc n) bytes = column_of bytes ∷ columns_of n (drop 55 bytes)

-- so many indexes, one behind the other
unfoldable pub indexes_of : ℕ → List ℕ → List IndexPart
indexes_of zero bytes = []
indexes_of (suc n) bytes = index_of bytes ∷ indexes_of n (drop 62 bytes)

-- how many bytes a text has, by its counts of columns and indexes
abbrev pub text_size : ℕ → ℕ → ℕ
text_size columns indexes = 45 + 55 * columns + 62 * indexes

-- the descriptor whose text begins some bytes
unfoldable pub descriptor_of : List ℕ → Descriptor
descriptor_of text = record {
  name = name_of text;
  slots = number_at text 33;
  existence = ref_of text 37;
  columns = columns_of (slice_index text 31) (drop 45 text);
  indexes = indexes_of (slice_index text 32) (drop (45 + 55 * slice_index text 31) text);
}
