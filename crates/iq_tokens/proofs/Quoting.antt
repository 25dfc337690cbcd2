-- Reading a text in quotes byte by byte.
use Rattle.std.proofs.Common.{◌≡◌, ℕ, ◌+◌, ◌<◌, ◌≤◌, Bool, true, false, List, [], ◌∷◌, ◌++◌, length, get_or, drop, Option, Some, None, cond, refl, sym, ap, subst, ◌∙◌, append_assoc, arith}
use Rattle.std.proofs.lemmas.List.{length-append, get_or-drop, drop-drop, length-drop, append-nil, nil_from_length}
use Rattle.std.specs.Str.{IsUtf8, is_utf8}
use Rattle.std.proofs.lemmas.Str.{is_utf8-from_IsUtf8, IsUtf8-from_is_utf8}
use Rattle.std.proofs.lemmas.Bool.Decides.{nat_tests}
use Rattle.std.specs.Prelude.{nat_eq, nat_le}
use Rattle.iq_tokens.specs.declared.quotes.Quoted.{Quoted}
use Rattle.iq_tokens.specs.Quotes.{with_byte, quoted, kept, valid, is_at, bytes_at}

-- what was read so far before what comes
abbrev pub behind : List ℕ → ℕ → Option Quoted → Option Quoted
behind front n None = None
behind front n (Some q) = Some (record { value = front ++ q.value; bytes = n + q.bytes })

pub behind_byte : (front : List ℕ) (n b k : ℕ) (o : Option Quoted) → behind (front ++ b ∷ []) (n + k) o ≡ behind front n (with_byte b k o)
behind_byte front n b k None = refl
behind_byte front n b k (Some q) = let left : n + k + q.bytes ≡ n + (k + q.bytes) = omega arith in rw (append_assoc front (b ∷ []) q.value, left) refl

-- a byte more than 255 is too many
pub too_many : (front : List ℕ) (n b k : ℕ) (o : Option Quoted) → length front ≡ 255 → kept (behind front n (with_byte b k o)) ≡ None
too_many front n b k None full = refl
too_many front n b k (Some q) full =
    let no : nat_le (length (front ++ b ∷ q.value)) 255 ≡ false = grind (arith, nat_tests, length-append front (b ∷ q.value)) in
    rw no refl

-- the parts of reading on
byte_here : (rest : List ℕ) (b : ℕ) → 0 < length rest → get_or rest 0 0 ≡ b → nat_eq b 39 ≡ false → quoted rest ≡ with_byte b 1 (quoted (drop 1 rest))
unfolding quoted
byte_here [] b some is h = absurd (omega arith)
byte_here (x ∷ []) b some is h = let no : nat_eq x 39 ≡ false = ap (λ k. nat_eq k 39) is ∙ h in rw no refl
byte_here (x ∷ y ∷ rest) b some is h = let no : nat_eq x 39 ≡ false = ap (λ k. nat_eq k 39) is ∙ h in rw (no, is) refl

pair_here : (rest : List ℕ) → 1 < length rest → nat_eq (get_or rest 0 0) 39 ≡ true → nat_eq (get_or rest 1 0) 39 ≡ true → quoted rest ≡ with_byte 39 2 (quoted (drop 2 rest))
unfolding quoted
pair_here [] some h g = absurd (omega arith)
pair_here (x ∷ []) some h g = absurd (omega arith)
pair_here (x ∷ y ∷ rest) some h g = rw (h, g) refl

close_here : (rest : List ℕ) → 0 < length rest → nat_eq (get_or rest 0 0) 39 ≡ true → is_at rest 1 39 ≡ false → quoted rest ≡ Some (record { value = []; bytes = 1 })
unfolding quoted
close_here [] some h g = absurd (omega arith)
close_here (x ∷ []) some h g = rw h refl
close_here (x ∷ y ∷ rest) some h g = let apart : nat_eq y 39 ≡ false = grind (arith, nat_tests) in rw (h, apart) refl

-- the same at a place of the text
at_front : (text : List ℕ) (at k : ℕ) → get_or (drop at text) k 0 ≡ get_or text (at + k) 0
at_front text at k = get_or-drop at text k 0

at_first : (text : List ℕ) (at : ℕ) → get_or (drop at text) 0 0 ≡ get_or text at 0
at_first text at = at_front text at 0 ∙ ap (λ k. get_or text k 0) (omega arith)

some_left : (at k : ℕ) (text : List ℕ) → at + k < length text → k < length (drop at text)
some_left at k text h = omega (arith, length-drop at text)

last_here : (text : List ℕ) (at : ℕ) → is_at text (at + 1) 39 ≡ false → is_at (drop at text) 1 39 ≡ false
last_here text at h = grind (arith, nat_tests, at_front text at 1, length-drop at text, h)

pair_at : (text : List ℕ) (at : ℕ) → nat_eq (get_or text at 0) 39 ≡ true → is_at text (at + 1) 39 ≡ true
    → (quoted (drop at text) ≡ with_byte (get_or text at 0) 2 (quoted (drop (at + 2) text))) × (at + 2 ≤ length text)
pair_at text at h g =
    let more : at + 1 < length text = grind (arith, nat_tests) in
    let next : nat_eq (get_or text (at + 1) 0) 39 ≡ true = grind (arith, nat_tests) in
    let quote : get_or text at 0 ≡ 39 = grind (arith, nat_tests) in
    let here = pair_here (drop at text) (some_left at 1 text more) (ap (λ k. nat_eq k 39) (at_first text at) ∙ h) (ap (λ k. nat_eq k 39) (at_front text at 1) ∙ next) in
    (here ∙ ap (λ (r : List ℕ). with_byte 39 2 (quoted r)) (drop-drop 2 at text) ∙ ap (λ k. with_byte k 2 (quoted (drop (at + 2) text))) (sym quote), omega arith)

byte_at : (text : List ℕ) (at : ℕ) → at < length text → nat_eq (get_or text at 0) 39 ≡ false
    → (quoted (drop at text) ≡ with_byte (get_or text at 0) 1 (quoted (drop (at + 1) text))) × (at + 1 ≤ length text)
byte_at text at some h =
    let here = byte_here (drop at text) (get_or text at 0) (some_left at 0 text (omega arith)) (at_first text at) h in
    (here ∙ ap (λ (r : List ℕ). with_byte (get_or text at 0) 1 (quoted r)) (drop-drop 1 at text), omega arith)

-- a byte of the value, by how many bytes stand for it
abbrev count : Bool → Bool → ℕ
count a b = cond a (cond b 2 0) 1

pub goes_on : (text : List ℕ) (at : ℕ) → at < length text → (bytes_at text at ≡ 0 → ⊥)
    → (quoted (drop at text) ≡ with_byte (get_or text at 0) (bytes_at text at) (quoted (drop (at + bytes_at text at) text))) × (at + bytes_at text at ≤ length text)
goes_on text at some more = by_case (nat_eq (get_or text at 0) 39) (is_at text (at + 1) 39) refl refl more
  where
    by_case : (a b : Bool) → nat_eq (get_or text at 0) 39 ≡ a → is_at text (at + 1) 39 ≡ b → (count a b ≡ 0 → ⊥)
        → (quoted (drop at text) ≡ with_byte (get_or text at 0) (count a b) (quoted (drop (at + count a b) text))) × (at + count a b ≤ length text)
    by_case true true h g more = pair_at text at h g
    by_case true false h g more = absurd (more refl)
    by_case false b h g more = byte_at text at some h

-- the quote that closes it
pub closes : (text : List ℕ) (at : ℕ) → at < length text → bytes_at text at ≡ 0 → quoted (drop at text) ≡ Some (record { value = []; bytes = 1 })
closes text at some none = by_case (nat_eq (get_or text at 0) 39) (is_at text (at + 1) 39) refl refl none
  where
    by_case : (a b : Bool) → nat_eq (get_or text at 0) 39 ≡ a → is_at text (at + 1) 39 ≡ b → count a b ≡ 0 → quoted (drop at text) ≡ Some (record { value = []; bytes = 1 })
    by_case true true h g none = absurd (omega arith)
    by_case true false h g none = close_here (drop at text) (some_left at 0 text (omega arith)) (ap (λ k. nat_eq k 39) (at_first text at) ∙ h) (last_here text at g)
    by_case false b h g none = absurd (omega arith)

-- ---- the loop

-- a byte more
pub turn_byte : (text front : List ℕ) (at n : ℕ) → at < length text → bytes_at text at ≡ n → (n ≡ 0 → ⊥) → behind front at (quoted (drop at text)) ≡ quoted text
    → (behind (front ++ get_or text at 0 ∷ []) (at + n) (quoted (drop (at + n) text)) ≡ quoted text) × (at + n ≤ length text)
turn_byte text front at n some is more so_far =
    let on = goes_on text at some (λ none. more (sym is ∙ none)) in
    subst (λ k. (behind (front ++ get_or text at 0 ∷ []) (at + k) (quoted (drop (at + k) text)) ≡ quoted text) × (at + k ≤ length text)) is
    (behind_byte front at (get_or text at 0) (bytes_at text at) _ ∙ ap (behind front at) (sym on.0) ∙ so_far, on.1)

pub turn_full : (text front : List ℕ) (at n : ℕ) → at < length text → bytes_at text at ≡ n → (n ≡ 0 → ⊥) → length front ≡ 255 → behind front at (quoted (drop at text)) ≡ quoted text
    → None ≡ kept (quoted text)
turn_full text front at n some is more full so_far =
    let on = goes_on text at some (λ none. more (sym is ∙ none)) in
    sym (too_many front at (get_or text at 0) (bytes_at text at) _ full) ∙ ap (λ (o : Option Quoted). kept (behind front at o)) (sym on.0) ∙ ap kept so_far

pub turn_close : (text front : List ℕ) (at : ℕ) → at < length text → bytes_at text at ≡ 0 → length front ≤ 255 → behind front at (quoted (drop at text)) ≡ quoted text
    → valid front (at + 1) ≡ kept (quoted text)
turn_close text front at some none short so_far =
    let yes : nat_le (length (front ++ [])) 255 ≡ true = rw (append-nil front) (grind (arith, nat_tests)) in
    let here : kept (behind front at (Some (record { value = []; bytes = 1 }))) ≡ valid front (at + 1) = rw yes (ap (λ (v : List ℕ). valid v (at + 1)) (append-nil front)) in
    sym here ∙ ap (λ (o : Option Quoted). kept (behind front at o)) (sym (closes text at some none)) ∙ ap kept so_far

pub turn_open : (text front : List ℕ) (at : ℕ) → length text ≤ at → behind front at (quoted (drop at text)) ≡ quoted text → None ≡ kept (quoted text)
unfolding quoted
turn_open text front at end so_far =
    let none : drop at text ≡ [] = nil_from_length (drop at text) (omega (arith, length-drop at text)) in
    ap (λ (r : List ℕ). kept (behind front at (quoted r))) (sym none) ∙ ap kept so_far

-- ---- UTF-8

pub valid_is : (value text : List ℕ) (n : ℕ) → IsUtf8 value → text ≡ value → Some (record { value = text; bytes = n }) ≡ valid value n
valid_is value text n utf is = rw (is_utf8-from_IsUtf8 value utf, is) refl

abbrev one : List ℕ → ℕ → Option Quoted
one value n = Some (record { value = value; bytes = n })

pub invalid_is : (value : List ℕ) (n : ℕ) → (IsUtf8 value → ⊥) → None ≡ valid value n
invalid_is value n bad = by_case (is_utf8 value) refl
  where
    by_case : (b : Bool) → is_utf8 value ≡ b → None ≡ cond b (one value n) None
    by_case true h = absurd (bad (IsUtf8-from_is_utf8 value h))
    by_case false h = refl
