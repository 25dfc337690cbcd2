-- The words that no name may be, and what a name is.
use Rattle.std.specs.Prelude.{◌≡◌, ◌≤◌, ℕ, Bool, false, ◌||◌, List, [], ◌∷◌, length, IsTrue, nat_eq, codes}
use Rattle.std.specs.List.{list_any, list_all}
use Rattle.std.specs.Cmp.Lexicographic.{pointwise}
use Rattle.std.specs.Char.{is_ascii_lowercase, is_ascii_digit}

-- the reserved words, in the order of the alphabet
unfoldable pub reserved : List (List ℕ)
reserved = codes "alter" ∷ codes "and" ∷ codes "apply" ∷ codes "asc" ∷ codes "begin" ∷ codes "between" ∷ codes "bigint" ∷ codes "by"
    ∷ codes "catalog" ∷ codes "cmp" ∷ codes "commit" ∷ codes "coordinator" ∷ codes "count" ∷ codes "create" ∷ codes "delete"
    ∷ codes "desc" ∷ codes "drop" ∷ codes "excluded" ∷ codes "explain" ∷ codes "from" ∷ codes "group" ∷ codes "hg" ∷ codes "hng"
    ∷ codes "in" ∷ codes "included" ∷ codes "index" ∷ codes "inner" ∷ codes "insert" ∷ codes "int" ∷ codes "integer" ∷ codes "into"
    ∷ codes "is" ∷ codes "join" ∷ codes "lf" ∷ codes "load" ∷ codes "lose" ∷ codes "max" ∷ codes "min" ∷ codes "multiplex"
    ∷ codes "node" ∷ codes "not" ∷ codes "null" ∷ codes "on" ∷ codes "or" ∷ codes "order" ∷ codes "reader" ∷ codes "release"
    ∷ codes "report" ∷ codes "restart" ∷ codes "rollback" ∷ codes "rows" ∷ codes "savepoint" ∷ codes "select" ∷ codes "server"
    ∷ codes "session" ∷ codes "set" ∷ codes "space" ∷ codes "status" ∷ codes "sum" ∷ codes "sync" ∷ codes "table" ∷ codes "take"
    ∷ codes "to" ∷ codes "transaction" ∷ codes "update" ∷ codes "values" ∷ codes "varchar" ∷ codes "versions" ∷ codes "where"
    ∷ codes "writer" ∷ []

-- whether the word is one of these
abbrev pub is_among : List (List ℕ) → List ℕ → Bool
is_among words word = list_any (λ (other : List ℕ). pointwise nat_eq other word) words

-- whether a word in lower case is reserved
unfoldable pub is_reserved : List ℕ → Bool
is_reserved = is_among reserved

-- a byte that a word in lower case begins with: a letter or _
abbrev pub begins_word : ℕ → Bool
begins_word b = is_ascii_lowercase b || nat_eq b 95

-- a byte within such a word: a letter, a digit or _
abbrev pub is_in_word : ℕ → Bool
is_in_word b = begins_word b || is_ascii_digit b

-- the bytes of a word in lower case
abbrev pub IsWord : List ℕ → Type 0
IsWord [] = ⊥
IsWord (b ∷ bs) = IsTrue (begins_word b) × IsTrue (list_all is_in_word bs)

-- a name: a word of at most 30 bytes that isn't reserved
pub record IsName (name : List ℕ) : Type 0 where
  pub word : IsWord name
  pub short : length name ≤ 30
  pub free : is_reserved name ≡ false
