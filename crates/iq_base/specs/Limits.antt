-- How many rows a table may have.
use Rattle.std.specs.Prelude.{ℕ, Bool, max, List, [], ◌∷◌, nat_eq, nat_le, not, ◌&&◌, if◌then◌else◌}
use Rattle.iq_base.specs.declared.values.Kind.{Kind}
use Rattle.iq_base.specs.declared.values.Kind.TheVariants.{Int, Big, Varchar}
use Rattle.iq_base.specs.declared.schemas.Column.{Column}

-- how long a text of a column may be, and 0 for numbers
abbrev pub text_length : Kind → ℕ
text_length Int = 0
text_length Big = 0
text_length (Varchar n) = n

-- how many rows go with texts of up to so many bytes, or with a Low Fast index
abbrev pub limit_for : ℕ → ℕ
limit_for n = if nat_le n 105 then 262144 else (if nat_le n 136 then 254016 else (if nat_le n 194 then 190512 else 127008))

-- the greatest length of a text of some columns
abbrev pub longest : List Column → ℕ
longest [] = 0
longest (column ∷ columns) = max (text_length column.kind) (longest columns)

-- how many rows a table may have whose longest text has so many bytes: without texts and without a Low Fast index more than else
abbrev pub rows_within : ℕ → Bool → ℕ
rows_within longest low_fast = if nat_eq longest 0 && not low_fast then 2097152 else limit_for longest

-- how many rows a table of these columns may have, with a Low Fast index or without one
abbrev pub row_limit : List Column → Bool → ℕ
row_limit columns low_fast = rows_within (longest columns) low_fast
