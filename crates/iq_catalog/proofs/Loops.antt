-- One more page, column or index in a loop.
use Rattle.std.specs.Prelude.{◌≡◌, ℕ, zero, suc, ◌+◌, ◌-◌, ◌<◌, ◌≤◌, List, [], ◌∷◌, ◌++◌, take, drop, length, Result, Ok, Err, IfOk}
use Rattle.std.proofs.Common.{refl, sym, ap, ◌∙◌, arith, append_assoc, length-append}
use Rattle.std.proofs.lemmas.List.{append-nil, take-append-drop}
use Rattle.iq_base.specs.declared.descriptors.ColumnPart.{ColumnPart}
use Rattle.iq_base.specs.declared.descriptors.IndexPart.{IndexPart}
use Rattle.iq_catalog.specs.Pages.{joined}
use Rattle.iq_catalog.specs.Reading.{column_of, index_of, columns_of, indexes_of}

joined_more : (ps : List (List ℕ)) (p : List ℕ) → joined (ps ++ p ∷ []) ≡ joined ps ++ p
joined_more [] p = append-nil p
joined_more (q ∷ ps) p = ap (λ (t : List ℕ). q ++ t) (joined_more ps p) ∙ sym (append_assoc q (joined ps) p)

-- a page more, cut from what is left
pub cut_on : (old new : List (List ℕ)) (page rest back whole : List ℕ) → new ≡ old ++ page ∷ [] → page ≡ take 1008 rest → back ≡ drop 1008 rest
    → joined old ++ rest ≡ whole → joined new ++ back ≡ whole
cut_on old new page rest back whole pushed front behind so_far =
    ap (λ (ps : List (List ℕ)). joined ps ++ back) pushed ∙ ap (λ (t : List ℕ). t ++ back) (joined_more old page)
    ∙ append_assoc (joined old) page back ∙ ap (λ (t : List ℕ). joined old ++ (t ++ back)) front
    ∙ ap (λ (t : List ℕ). joined old ++ (take 1008 rest ++ t)) behind
    ∙ ap (λ (t : List ℕ). joined old ++ t) (take-append-drop 1008 rest) ∙ so_far

pub made_on : (old new : List (List ℕ)) (page : List ℕ) (i : ℕ) → new ≡ old ++ page ∷ [] → length old ≡ i → length new ≡ i + 1
made_on old new page i pushed so_far = omega (arith, ap length pushed, length-append old (page ∷ []), so_far)

-- how many there are, in a result
pub some_counted : {X E : Type 0} (size : X → ℕ) (r : Result X E) (count : ℕ) → IfOk r (λ x. size x ≡ count) → 1 ≤ count → IfOk r (λ x. 1 ≤ size x)
some_counted size (Ok x) count is some = omega (arith, is, some)
some_counted size (Err e) count is some = tt

pub few_counted : {X E : Type 0} (size : X → ℕ) (r : Result X E) (count : ℕ) → IfOk r (λ x. size x ≡ count) → count ≤ 4 → IfOk r (λ x. size x ≤ 4)
few_counted size (Ok x) count is few = omega (arith, is, few)
few_counted size (Err e) count is few = tt

-- a column more
pub columns_on : (old new whole : List ColumnPart) (c : ColumnPart) (count i : ℕ) (rest back : List ℕ) → new ≡ old ++ c ∷ [] → c ≡ column_of rest
    → back ≡ drop 55 rest → i < count → old ++ columns_of (count - i) rest ≡ whole → new ++ columns_of (count - (i + 1)) back ≡ whole
unfolding columns_of
columns_on old new whole c count i rest back pushed is behind within so_far =
    let left : count - i ≡ suc (count - (i + 1)) = omega arith in
    let more = columns_of (count - (i + 1)) (drop 55 rest) in
    ap (λ (ds : List ColumnPart). ds ++ columns_of (count - (i + 1)) back) pushed
    ∙ ap (λ (t : List ℕ). (old ++ c ∷ []) ++ columns_of (count - (i + 1)) t) behind
    ∙ append_assoc old (c ∷ []) more ∙ ap (λ (d : ColumnPart). old ++ d ∷ more) is
    ∙ ap (λ (n : ℕ). old ++ columns_of n rest) (sym left) ∙ so_far

pub columns_end : (old whole : List ColumnPart) (count i : ℕ) (rest : List ℕ) → count ≤ i → old ++ columns_of (count - i) rest ≡ whole → old ≡ whole
unfolding columns_of
columns_end old whole count i rest past so_far =
    let left : count - i ≡ 0 = omega arith in
    sym (append-nil old) ∙ ap (λ (n : ℕ). old ++ columns_of n rest) (sym left) ∙ so_far

-- an index more
pub indexes_on : (old new whole : List IndexPart) (x : IndexPart) (count i : ℕ) (rest back : List ℕ) → new ≡ old ++ x ∷ [] → x ≡ index_of rest
    → back ≡ drop 62 rest → i < count → old ++ indexes_of (count - i) rest ≡ whole → new ++ indexes_of (count - (i + 1)) back ≡ whole
unfolding indexes_of
indexes_on old new whole x count i rest back pushed is behind within so_far =
    let left : count - i ≡ suc (count - (i + 1)) = omega arith in
    let more = indexes_of (count - (i + 1)) (drop 62 rest) in
    ap (λ (ys : List IndexPart). ys ++ indexes_of (count - (i + 1)) back) pushed
    ∙ ap (λ (t : List ℕ). (old ++ x ∷ []) ++ indexes_of (count - (i + 1)) t) behind
    ∙ append_assoc old (x ∷ []) more ∙ ap (λ (y : IndexPart). old ++ y ∷ more) is
    ∙ ap (λ (n : ℕ). old ++ indexes_of n rest) (sym left) ∙ so_far

pub indexes_end : (old whole : List IndexPart) (count i : ℕ) (rest : List ℕ) → count ≤ i → old ++ indexes_of (count - i) rest ≡ whole → old ≡ whole
unfolding indexes_of
indexes_end old whole count i rest past so_far =
    let left : count - i ≡ 0 = omega arith in
    sym (append-nil old) ∙ ap (λ (n : ℕ). old ++ indexes_of n rest) (sym left) ∙ so_far

-- how many there are
pub length-columns_of : (n : ℕ) (bytes : List ℕ) → length (columns_of n bytes) ≡ n
unfolding columns_of
length-columns_of zero bytes = refl
length-columns_of (suc n) bytes = ap suc (length-columns_of n (drop 55 bytes))

pub length-indexes_of : (n : ℕ) (bytes : List ℕ) → length (indexes_of n bytes) ≡ n
unfolding indexes_of
length-indexes_of zero bytes = refl
length-indexes_of (suc n) bytes = ap suc (length-indexes_of n (drop 62 bytes))
