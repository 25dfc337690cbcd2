-- The data of a LOAD, line by line.
use Rattle.std.proofs.Common.{◌≡◌, ℕ, ◌+◌, ◌-◌, ◌<◌, ◌≤◌, List, [], ◌∷◌, ◌++◌, length, take, refl, sym, ap, subst, ◌∙◌, append_assoc, arith}
use Rattle.std.specs.List.{flat_map}
use Rattle.std.proofs.lemmas.List.{length-append}
use Rattle.iq_script.specs.Lines.{lines_of}
use Rattle.iq_script.specs.Putting.{data_of, IsDataOf}

abbrev pub bytes_of : List (List ℕ) → List ℕ
bytes_of lines = flat_map (λ (l : List ℕ). l) lines

-- so many lines of the bytes stand before the rest
pub record IsPassed (bytes rest : List ℕ) (count : ℕ) : Type 0 where
  pub firsts : List (List ℕ)
  pub counted : length firsts ≡ count
  pub lines : lines_of bytes ≡ firsts ++ lines_of rest
  pub whole : bytes ≡ bytes_of firsts ++ rest

bytes-append : (xs ys : List (List ℕ)) → bytes_of (xs ++ ys) ≡ bytes_of xs ++ bytes_of ys
bytes-append [] ys = refl
bytes-append (x ∷ xs) ys = ap (λ (l : List ℕ). x ++ l) (bytes-append xs ys) ∙ sym (append_assoc x (bytes_of xs) (bytes_of ys))

bytes_one : (xs : List (List ℕ)) (x : List ℕ) → bytes_of (xs ++ x ∷ []) ≡ bytes_of xs ++ x
bytes_one [] x = append_nil x
  where
    append_nil : (x : List ℕ) → x ++ [] ≡ x
    append_nil [] = refl
    append_nil (b ∷ bs) = ap (λ (l : List ℕ). b ∷ l) (append_nil bs)
bytes_one (y ∷ xs) x = ap (λ (l : List ℕ). y ++ l) (bytes_one xs x) ∙ sym (append_assoc y (bytes_of xs) x)

pub none_passed : (bytes : List ℕ) → IsPassed bytes bytes 0
none_passed bytes = record { firsts = []; counted = refl; lines = refl; whole = refl }

pub one_passed : (bytes rest line behind : List ℕ) (count : ℕ) → lines_of rest ≡ line ∷ lines_of behind → rest ≡ line ++ behind → IsPassed bytes rest count → IsPassed bytes behind (count + 1)
one_passed bytes rest line behind count cut whole h =
    let long : length (h.firsts ++ line ∷ []) ≡ count + 1 = omega (arith, h.counted, length-append h.firsts (line ∷ [])) in
    record {
      firsts = h.firsts ++ line ∷ [];
      counted = long;
      lines = h.lines ∙ ap (λ (ls : List (List ℕ)). h.firsts ++ ls) cut ∙ sym (append_assoc h.firsts (line ∷ []) (lines_of behind));
      whole = h.whole ∙ ap (λ (b : List ℕ). bytes_of h.firsts ++ b) whole ∙ sym (append_assoc (bytes_of h.firsts) line behind) ∙ ap (λ (b : List ℕ). b ++ behind) (sym (bytes_one h.firsts line));
    }

take_front : {A : Type 0} (xs ys : List A) → take (length xs) (xs ++ ys) ≡ xs
take_front [] ys = refl
take_front (x ∷ xs) ys = ap (λ (l : List _). x ∷ l) (take_front xs ys)

take_bytes : (front rest : List ℕ) → take (length (front ++ rest) - length rest) (front ++ rest) ≡ front
take_bytes front rest =
    let n : length (front ++ rest) - length rest ≡ length front = omega (arith, length-append front rest) in
    rw n (take_front front rest)

pub all_passed : (bytes rest : List ℕ) (count rows : ℕ) → count ≡ rows → IsPassed bytes rest count → IsDataOf rows (lines_of bytes) (take (length bytes - length rest) bytes)
all_passed bytes rest count rows same h =
    let few : rows ≤ length (lines_of bytes) = subst (λ (ls : List (List ℕ)). rows ≤ length ls) (sym h.lines) (omega (arith, h.counted, same, length-append h.firsts (lines_of rest))) in
    let rows_are : rows ≡ length h.firsts = sym (h.counted ∙ same) in
    record {
      enough = few;
      is = subst (λ (b : List ℕ). take (length b - length rest) b ≡ bytes_of h.firsts) (sym h.whole) (take_bytes (bytes_of h.firsts) rest)
          ∙ sym (ap (λ (ls : List (List ℕ)). data_of rows ls) h.lines ∙ ap (λ (n : ℕ). bytes_of (take n (h.firsts ++ lines_of rest))) rows_are ∙ ap bytes_of (take_front h.firsts (lines_of rest)));
    }

pub fewer : (bytes rest : List ℕ) (count rows : ℕ) → rest ≡ [] → count < rows → IsPassed bytes rest count → length (lines_of bytes) < rows
fewer bytes rest count rows none less h =
    let all : lines_of bytes ≡ h.firsts ++ [] = subst (λ (r : List ℕ). lines_of bytes ≡ h.firsts ++ lines_of r) none h.lines in
    let long : length (lines_of bytes) ≡ count = ap length all ∙ omega (arith, h.counted, length-append {A = List ℕ} h.firsts []) in
    omega arith
