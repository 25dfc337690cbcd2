-- Cutting bytes into lines, as the reader does.
use Rattle.std.proofs.Common.{◌≡◌, ℕ, suc, ◌+◌, ◌<◌, ◌≤◌, Bool, true, false, not, eqb, List, [], ◌∷◌, length, get_or, take, drop, refl, ap, ◌∙◌, inl, inr, arith}
use Rattle.std.specs.List.{prefix_len}
use Rattle.std.proofs.lemmas.Bool.{cases_Bool}
use Rattle.std.proofs.lemmas.List.{drop_all, take_all}
use Rattle.iq_tokens.specs.Tokens.{is_space}
use Rattle.iq_script.specs.Lines.{put_before, lines_of, begins_comment, is_doing}

-- a byte that ends no line
abbrev pub is_no_lf : ℕ → Bool
is_no_lf b = not (eqb b 10)

put_one : (b n : ℕ) (rest : List ℕ) → put_before b (take (n + 1) rest ∷ lines_of (drop (n + 1) rest)) ≡ take (1 + n + 1) (b ∷ rest) ∷ lines_of (drop (1 + n + 1) (b ∷ rest))
put_one b n rest =
    let two : 1 + n + 1 ≡ suc (n + 1) = omega arith in
    rw two refl

-- the first line goes up to the first LF, and has it
pub first_is : (bytes : List ℕ) → 0 < length bytes → lines_of bytes ≡ take (prefix_len is_no_lf bytes + 1) bytes ∷ lines_of (drop (prefix_len is_no_lf bytes + 1) bytes)
first_is [] some = absurd (omega arith)
first_is (b ∷ []) some =
    elim (cases_Bool (eqb b 10)) [
      | inl h ↦ rw h refl
      | inr h ↦ rw h refl
    ]
first_is (b ∷ c ∷ rest) some =
    elim (cases_Bool (eqb b 10)) [
      | inl h ↦ rw h refl
      | inr h ↦ rw h (ap (put_before b) (first_is (c ∷ rest) (omega arith)) ∙ put_one b (prefix_len is_no_lf (c ∷ rest)) (c ∷ rest))
    ]

pub doing_space : (line : List ℕ) → 0 < length line → is_space (get_or line 0 0) ≡ true → is_doing line ≡ is_doing (drop 1 line)
doing_space [] some h = absurd (omega arith)
doing_space (b ∷ rest) some h = rw h refl

pub doing_other : (line : List ℕ) → 0 < length line → is_space (get_or line 0 0) ≡ false → is_doing line ≡ not (begins_comment line)
doing_other [] some h = absurd (omega arith)
doing_other (b ∷ rest) some h = rw h refl

-- without LF there is one line
pub all_is : (bytes : List ℕ) → 0 < length bytes → length bytes ≤ prefix_len is_no_lf bytes → lines_of bytes ≡ bytes ∷ []
all_is bytes some long =
    let past : length bytes ≤ prefix_len is_no_lf bytes + 1 = omega arith in
    first_is bytes some ∙ rw (take_all (prefix_len is_no_lf bytes + 1) bytes past, drop_all (prefix_len is_no_lf bytes + 1) bytes past) refl
