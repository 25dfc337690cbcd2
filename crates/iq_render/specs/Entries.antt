-- How an entry of the history is printed: its word, its session or node, its line and its numbers.
use Rattle.std.specs.Prelude.{ℕ, List, [], ◌∷◌, ◌++◌, ◌+◌, Option, Some, None, codes, flat_map}
use Rattle.std.specs.Fmt.{decimal}
use Rattle.iq_history.specs.declared.entries.Entry.{Entry}
use Rattle.iq_history.specs.declared.entries.Entry.TheVariants.{Begin, Lock, Done, Refused, Commit, End, Rollback, Halt, Savepoint, Back, Release, Sync, Apply, Send, Lose, Take, Own, Restart, Exclude, Include, Space, Versions}
use Rattle.iq_render.specs.Values.{line, name_at, then_name, then_number}
use Rattle.iq_render.specs.Refusals.{refusal_text, census_numbers}

-- a word, the name at a place, and a line
abbrev pub placed_text : List ℕ → List (List ℕ) → ℕ → ℕ → List ℕ
placed_text word names place l = word ++ then_name (name_at names place) ++ then_number l

-- a word of a step that has neither session nor node, and a line
abbrev pub step_text : List ℕ → ℕ → List ℕ
step_text word l = word ++ codes " -" ++ then_number l

-- a refused line's session, or of a step none
abbrev pub refused_text : List (List ℕ) → Option ℕ → ℕ → List ℕ
refused_text sessions (Some s) l = placed_text (codes "refused") sessions s l
refused_text sessions None l = step_text (codes "refused") l

-- an entry, at the declared names of nodes and of sessions
abbrev pub entry_text : List (List ℕ) → List (List ℕ) → Entry → List ℕ
entry_text nodes sessions (Begin s l c) = placed_text (codes "begin") sessions s l ++ then_number c
entry_text nodes sessions (Lock s l names) = placed_text (codes "lock") sessions s l ++ flat_map then_name names
entry_text nodes sessions (Done s l) = placed_text (codes "done") sessions s l
entry_text nodes sessions (Refused s l cause) = refused_text sessions s l ++ then_name (refusal_text sessions cause)
entry_text nodes sessions (Commit s l c) = placed_text (codes "commit") sessions s l ++ then_number c
entry_text nodes sessions (End s l) = placed_text (codes "end") sessions s l
entry_text nodes sessions (Rollback s l) = placed_text (codes "rollback") sessions s l
entry_text nodes sessions (Halt s l c before after) = placed_text (codes "halt") sessions s l ++ then_number c ++ then_number before ++ then_number after
entry_text nodes sessions (Savepoint s l name) = placed_text (codes "savepoint") sessions s l ++ then_name name
entry_text nodes sessions (Back s l name) = placed_text (codes "back") sessions s l ++ then_name name
entry_text nodes sessions (Release s l name) = placed_text (codes "release") sessions s l ++ then_name name
entry_text nodes sessions (Sync s l c) = placed_text (codes "sync") sessions s l ++ then_number c
entry_text nodes sessions (Apply n l c) = placed_text (codes "apply") nodes n l ++ then_number c
entry_text nodes sessions (Send n l number floor) = placed_text (codes "send") nodes n l ++ then_number number ++ then_number floor
entry_text nodes sessions (Lose l number) = step_text (codes "lose") l ++ then_number number
entry_text nodes sessions (Take l number horizon freed) = step_text (codes "take") l ++ then_number number ++ then_number horizon ++ then_number freed
entry_text nodes sessions (Own n l horizon freed) = placed_text (codes "own") nodes n l ++ then_number horizon ++ then_number freed
entry_text nodes sessions (Restart n l incarnation) = placed_text (codes "restart") nodes n l ++ then_number incarnation
entry_text nodes sessions (Exclude n l incarnation) = placed_text (codes "exclude") nodes n l ++ then_number incarnation
entry_text nodes sessions (Include n l c) = placed_text (codes "include") nodes n l ++ then_number c
entry_text nodes sessions (Space l census) = step_text (codes "space") l ++ census_numbers census
entry_text nodes sessions (Versions l) = step_text (codes "versions") l

-- the entries from a number on, each on a line after its number
abbrev pub numbered_lines : List (List ℕ) → List (List ℕ) → ℕ → List Entry → List ℕ
numbered_lines nodes sessions i [] = []
numbered_lines nodes sessions i (entry ∷ entries) = line (codes "#" ++ decimal i ++ codes " " ++ entry_text nodes sessions entry) ++ numbered_lines nodes sessions (i + 1) entries
