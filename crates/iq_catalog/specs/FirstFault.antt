-- Which page is told of pages that are no descriptor's: the one with the first byte that contradicts the format. A field that breaks
-- a rule contradicts at its first byte. A byte that no field explains, as one of padding, contradicts where it isn't the byte that
-- writing what was read would give. Bytes count from the start of the first page.
use Rattle.std.specs.Prelude.{◌≡◌, ℕ, suc, ◌+◌, ◌*◌, ◌/◌, min, Bool, ◌&&◌, not, List, [], ◌∷◌, ◌++◌, length, take, drop, slice_index, nat_eq, nat_lt, nat_le, if◌then◌else◌, Option, Some, None}
use Rattle.iq_base.specs.declared.descriptors.ColumnPart.{ColumnPart}
use Rattle.iq_base.specs.declared.descriptors.IndexPart.{IndexPart}
use Rattle.iq_base.specs.declared.descriptors.Descriptor.{Descriptor}
use Rattle.iq_catalog.specs.declared.faults.CatalogFault.{CatalogFault}
use Rattle.iq_catalog.specs.declared.faults.CatalogFault.TheVariants.{BadCatalog, NoMemory}
use Rattle.iq_catalog.specs.declared.first_fault.Test.{Test}
use Rattle.iq_catalog.specs.Storable.{most_number, is_name, is_ref, is_kind, form_for, is_second, most_distinct, is_among, column_names, index_names, slot_limit}
use Rattle.iq_catalog.specs.Pages.{page_count, descriptor_bytes}
use Rattle.iq_catalog.specs.Reading.{text_size, descriptor_of}

-- a test, and the byte at which it is decided
abbrev pub decided : ℕ → Bool → Test
decided byte holds = record { byte = byte; holds = holds }

-- the byte of the first test that doesn't hold, if there is one
abbrev pub first_failed : List Test → Option ℕ
first_failed [] = None
first_failed (t ∷ ts) = if t.holds then first_failed ts else Some t.byte

-- the head: the table's name, its counts of columns and indexes, slots and existence
abbrev pub head_tests : Descriptor → List Test
head_tests t =
    decided 12 (is_name t.name)
    ∷ decided 43 (nat_le 1 (length t.columns) && nat_le (length t.columns) 32)
    ∷ decided 44 (nat_le (length t.indexes) 32)
    ∷ decided 45 (nat_le t.slots (slot_limit t))
    ∷ decided 49 (is_ref t.existence) ∷ []

-- column k of these, from a byte on: its name, which no column before has, its length, form, distinct values, codes and values
abbrev pub column_tests : List ColumnPart → ℕ → ℕ → ColumnPart → List Test
column_tests all k byte c =
    decided byte (is_name c.name && not (is_among (column_names (take k all)) c.name))
    ∷ decided (byte + 32) (is_kind c.kind)
    ∷ decided (byte + 34) (nat_eq c.form (form_for c.distinct))
    ∷ decided (byte + 35) (nat_le c.distinct most_number)
    ∷ decided (byte + 39) (is_ref c.cells)
    ∷ decided (byte + 47) (is_ref c.values) ∷ []

-- index k of these, in a table with so many columns: its name, which no index before has, its columns, distinct values and objects
abbrev pub index_tests : ℕ → List IndexPart → ℕ → ℕ → IndexPart → List Test
index_tests count all k byte i =
    decided byte (is_name i.spec.name && not (is_among (index_names (take k all)) i.spec.name))
    ∷ decided (byte + 32) (nat_lt i.spec.column count)
    ∷ decided (byte + 33) (is_second count i.spec.column i.spec.kind i.spec.second)
    ∷ decided (byte + 34) (nat_le i.distinct (most_distinct i.spec.kind))
    ∷ decided (byte + 38) (is_ref i.first)
    ∷ decided (byte + 46) (is_ref i.second)
    ∷ decided (byte + 54) (is_ref i.third) ∷ []

-- the columns from the kth on: the first begins at byte 57, and each has 55
abbrev pub columns_tests : List ColumnPart → ℕ → List ColumnPart → List Test
columns_tests all k [] = []
columns_tests all k (c ∷ cs) = column_tests all k (57 + 55 * k) c ++ columns_tests all (k + 1) cs

-- the indexes from the kth on: the first begins behind the columns, and each has 62
abbrev pub indexes_tests : ℕ → List IndexPart → ℕ → List IndexPart → List Test
indexes_tests count all k [] = []
indexes_tests count all k (i ∷ is) = index_tests count all k (57 + 55 * count + 62 * k) i ++ indexes_tests count all (k + 1) is

-- all tests of a descriptor, in the order of its text
abbrev pub all_tests : Descriptor → List Test
all_tests t = head_tests t ++ (columns_tests t.columns 0 t.columns ++ indexes_tests (length t.columns) t.indexes 0 t.indexes)

-- how many bytes at the front are the same
abbrev pub same_front : List ℕ → List ℕ → ℕ
same_front [] ys = 0
same_front (x ∷ xs) [] = 0
same_front (x ∷ xs) (y ∷ ys) = if nat_eq x y then suc (same_front xs ys) else 0

-- a byte, or an earlier one
abbrev pub first_of : Option ℕ → ℕ → ℕ
first_of None other = other
first_of (Some byte) other = min byte other

-- the first byte that contradicts, where a descriptor was read from bytes and written again
abbrev pub bad_byte : Descriptor → List ℕ → List ℕ → ℕ
bad_byte t again bytes = first_of (first_failed (all_tests t)) (same_front bytes again)

-- the pages are as many as the counts of columns and indexes ask for
abbrev pub has_count : List ℕ → Bool
has_count bytes =
    nat_eq (length bytes) (1008 * page_count (12 + text_size (slice_index (drop 12 bytes) 31) (slice_index (drop 12 bytes) 32)))

-- the page with the first byte that contradicts, and 0 where the number of pages is wrong
abbrev pub page_read : Descriptor → List ℕ → ℕ
page_read t bytes = bad_byte t (descriptor_bytes t) bytes / 1008

abbrev pub bad_page : List ℕ → ℕ
bad_page bytes = if has_count bytes then page_read (descriptor_of (drop 12 bytes)) bytes else 0

-- a fault tells the page that contradicts
abbrev pub NamesPage : CatalogFault → List ℕ → Type 0
NamesPage (BadCatalog page) bytes = page ≡ bad_page bytes
NamesPage NoMemory bytes = Unit {0}
