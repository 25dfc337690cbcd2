-- How words, names, numbers, values and rows are printed.
use Rattle.std.specs.Prelude.{ℕ, List, [], ◌∷◌, ◌++◌, codes, nat_eq, if◌then◌else◌, slice_index_or, flat_map}
use Rattle.std.specs.Fmt.{decimal, signed_decimal}
use Rattle.iq_model.specs.declared.answers.Out.{Out}
use Rattle.iq_model.specs.declared.answers.Out.TheVariants.{Null, Int, Text}

-- a text and the end of its line
abbrev pub line : List ℕ → List ℕ
line text = text ++ 10 ∷ []

-- the declared name at a place
abbrev pub name_at : List (List ℕ) → ℕ → List ℕ
name_at names place = slice_index_or names place []

-- a name, or another text, after a space
abbrev pub then_name : List ℕ → List ℕ
then_name name = 32 ∷ name

-- a number in decimal digits after a space
abbrev pub then_number : ℕ → List ℕ
then_number number = 32 ∷ decimal number

-- a byte of a quoted text: a quote stands twice
abbrev pub quoted_byte : ℕ → List ℕ
quoted_byte byte = if nat_eq byte 39 then 39 ∷ 39 ∷ [] else byte ∷ []

-- a text between quotes
abbrev pub quoted : List ℕ → List ℕ
quoted text = codes "'" ++ flat_map quoted_byte text ++ codes "'"

-- NULL, a number's digits, or a text in quotes
abbrev pub value_text : Out → List ℕ
value_text Null = codes "NULL"
value_text (Int number) = signed_decimal number
value_text (Text text) = quoted text

-- a value after a comma
abbrev pub next_value : Out → List ℕ
next_value value = codes "," ++ value_text value

-- the values of a row, joined by commas
abbrev pub values_text : List Out → List ℕ
values_text [] = []
values_text (value ∷ values) = value_text value ++ flat_map next_value values

-- a row after two spaces
abbrev pub row_line : List Out → List ℕ
row_line values = line (codes "  " ++ values_text values)
