-- What is wrong with a row that is to be put into columns, and where: the first bad field.
use Rattle.std.specs.Prelude.{◌≡◌, ℕ, ℤ, pos, negsuc, ◌+◌, Bool, List, [], ◌∷◌, Option, Some, None, nat_lt, nat_le, nat_eq, length, if◌then◌else◌, IsUtf8, ⊤}
use Rattle.std.specs.Option.{option_or}
use Rattle.iq_base.specs.declared.values.Value.{Value}
use Rattle.iq_base.specs.declared.values.Value.TheVariants as values
use Rattle.iq_base.specs.declared.values.Kind.{Kind}
use Rattle.iq_base.specs.declared.values.Kind.TheVariants as kinds
use Rattle.iq_base.specs.declared.schemas.Column.{Column}
use Rattle.iq_base.specs.declared.refusals.FieldCause.{FieldCause}
use Rattle.iq_base.specs.declared.refusals.FieldCause.TheVariants as causes
use Rattle.iq_cells.specs.declared.fields.BadField.{BadField}
use Rattle.iq_cells.specs.declared.fields.FieldFault.{FieldFault}
use Rattle.iq_cells.specs.declared.fields.FieldFault.TheVariants as faults

-- whether a whole number fits 32 bits with a sign
abbrev pub fits_int : ℤ → Bool
fits_int (pos n) = nat_lt n 2147483648
fits_int (negsuc n) = nat_lt n 2147483648

-- whether it fits 64 bits with a sign
abbrev pub fits_big : ℤ → Bool
fits_big (pos n) = nat_lt n 9223372036854775808
fits_big (negsuc n) = nat_lt n 9223372036854775808

-- what is wrong with a number in a column of this kind
abbrev pub number_cause : Kind → ℤ → Option FieldCause
number_cause kinds.Int z = if fits_int z then None else Some causes.Range
number_cause kinds.Big z = if fits_big z then None else Some causes.Range
number_cause (kinds.Varchar most) z = Some causes.NotText

-- what is wrong with a text in a column of this kind
abbrev pub text_cause : Kind → List ℕ → Option FieldCause
text_cause kinds.Int text = Some causes.NotNumber
text_cause kinds.Big text = Some causes.NotNumber
text_cause (kinds.Varchar most) text = if nat_le (length text) most then None else Some causes.TextTooLong

-- what is wrong with NULL in a column that may hold it, or not
abbrev pub null_cause : Bool → Option FieldCause
null_cause null = if null then None else Some causes.NullRefused

-- what is wrong with a value in a column
abbrev pub field_cause : Column → Value → Option FieldCause
field_cause column values.Null = null_cause column.null
field_cause column (values.Int z) = number_cause column.kind z
field_cause column (values.Text text) = text_cause column.kind text

-- a field and its cause, if it has one
abbrev pub bad_at : ℕ → Option FieldCause → Option BadField
bad_at field None = None
bad_at field (Some cause) = Some (record { field = field; cause = cause })

-- the first bad value of a row, whose fields are counted from this one on
abbrev pub first_bad_value : ℕ → List Column → List Value → Option BadField
first_bad_value field [] values = None
first_bad_value field (column ∷ columns) [] = None
first_bad_value field (column ∷ columns) (value ∷ values) =
    option_or (bad_at field (field_cause column value)) (first_bad_value (field + 1) columns values)

-- what is wrong with a row: a wrong number of values, named with field 0, else its first bad value
abbrev pub first_bad_field : List Column → List Value → Option BadField
first_bad_field columns values =
    if nat_eq (length values) (length columns) then first_bad_value 1 columns values else Some (record { field = 0; cause = causes.Count })

-- a number or a text isn't taken in only for its cause
abbrev pub HasFieldCause : Option FieldCause → FieldFault → Type 0
HasFieldCause cause (faults.Bad bad) = cause ≡ Some bad
HasFieldCause cause faults.NoMemory = ⊤

-- what is wrong with bytes that are to be a text in a column of this kind: what would be wrong with them as a text, and then
-- that they are none
abbrev pub HasBytesCause : Kind → List ℕ → FieldFault → Type 0
HasBytesCause kind bytes (faults.Bad causes.Count) = text_cause kind bytes ≡ Some causes.Count
HasBytesCause kind bytes (faults.Bad causes.NotNumber) = text_cause kind bytes ≡ Some causes.NotNumber
HasBytesCause kind bytes (faults.Bad causes.NotText) = text_cause kind bytes ≡ Some causes.NotText
HasBytesCause kind bytes (faults.Bad causes.Range) = text_cause kind bytes ≡ Some causes.Range
HasBytesCause kind bytes (faults.Bad causes.NullRefused) = text_cause kind bytes ≡ Some causes.NullRefused
HasBytesCause kind bytes (faults.Bad causes.TextTooLong) = text_cause kind bytes ≡ Some causes.TextTooLong
HasBytesCause kind bytes (faults.Bad causes.NotUtf8) = (text_cause kind bytes ≡ None) × ¬ (IsUtf8 bytes)
HasBytesCause kind bytes faults.NoMemory = ⊤
