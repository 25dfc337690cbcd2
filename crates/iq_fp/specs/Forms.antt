-- How many bytes a code has.
use Rattle.std.specs.Prelude.{ℕ, nat_lt, if◌then◌else◌}
use Rattle.iq_fp.specs.declared.fp.Form.{Form}
use Rattle.iq_fp.specs.declared.fp.Form.TheVariants.{One, Two, Three}

-- the bytes of a form's codes
abbrev pub bytes_of : Form → ℕ
bytes_of One = 1
bytes_of Two = 2
bytes_of Three = 3

-- the least number of bytes that tells so many distinct values apart: 1, 2 or 3
abbrev pub code_width : ℕ → ℕ
code_width distinct = if nat_lt 65536 distinct then 3 else (if nat_lt 256 distinct then 2 else 1)
