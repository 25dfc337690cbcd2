-- The lines of a script's bytes, and those that do something.
use Rattle.std.specs.Prelude.{ℕ, ◌-◌, Bool, false, not, if◌then◌else◌, List, [], ◌∷◌, length, take, nat_eq, slice_index, codes}
use Rattle.std.specs.List.{starts_with}
use Rattle.iq_tokens.specs.Tokens.{is_space}

-- a byte before the lines that the rest is cut into
abbrev pub put_before : ℕ → List (List ℕ) → List (List ℕ)
put_before b [] = (b ∷ []) ∷ []
put_before b (line ∷ lines) = (b ∷ line) ∷ lines

-- the lines, each with the LF that ends it; a last one without LF counts where it isn't empty
abbrev pub lines_of : List ℕ → List (List ℕ)
lines_of [] = []
lines_of (b ∷ bytes) = if nat_eq b 10 then (b ∷ []) ∷ lines_of bytes else put_before b (lines_of bytes)

-- a line without this byte at its end
abbrev pub without_last : ℕ → List ℕ → List ℕ
without_last b line = if nat_eq (slice_index line (length line - 1)) b then take (length line - 1) line else line

-- a line's text: it has neither the LF at the end nor a CR before that
abbrev pub text_of : List ℕ → List ℕ
text_of line = without_last 13 (without_last 10 line)

-- whether the bytes begin with --
abbrev pub begins_comment : List ℕ → Bool
begins_comment bytes = starts_with nat_eq bytes (codes "--")

-- whether a line does something: it isn't of spaces alone, and -- isn't what follows its first spaces
abbrev pub is_doing : List ℕ → Bool
is_doing [] = false
is_doing (b ∷ bytes) = if is_space b then is_doing bytes else not (begins_comment (b ∷ bytes))
