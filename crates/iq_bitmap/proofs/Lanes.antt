-- A step of a loop that works on several words at a time.
use Rattle.std.proofs.Common.{ℕ, ◌+◌, ◌≤◌, ◌≡◌, List, [], ◌∷◌, ◌++◌, length, take, drop, map, refl, sym, ap, ap₂, ◌∙◌, arith}
use Rattle.std.proofs.lemmas.List.{append_assoc, length-append, length-take-le, drop_at, drop-drop}
use Rattle.std.proofs.lemmas.Simd.{length-zip2, length-chunk, chunk-drop, put_chunk_is, take_more_put_chunk}
use Rattle.std.specs.Simd.Lanes.{zip2, chunk, put_chunk}

-- two lists in two parts each
pub zip2-append : {A B C : Type 0} (f : A → B → C) (xs xs' : List A) (ys ys' : List B) → length xs ≡ length ys → zip2 f (xs ++ xs') (ys ++ ys') ≡ zip2 f xs ys ++ zip2 f xs' ys'
zip2-append f [] xs' [] ys' e = refl
zip2-append f [] xs' (y ∷ ys) ys' e = absurd (omega (arith, e))
zip2-append f (x ∷ xs) xs' [] ys' e = absurd (omega (arith, e))
zip2-append f (x ∷ xs) xs' (y ∷ ys) ys' e = ap (λ zs. f x y ∷ zs) (zip2-append f xs xs' ys ys' (omega (arith, e)))

-- the operation on the second list first
pub zip2-map_right : {A B C D : Type 0} (f : A → C → D) (g : B → C) (xs : List A) (ys : List B) → zip2 f xs (map g ys) ≡ zip2 (λ x y. f x (g y)) xs ys
zip2-map_right f g [] ys = refl
zip2-map_right f g (x ∷ xs) [] = refl
zip2-map_right f g (x ∷ xs) (y ∷ ys) = ap (λ zs. f x (g y) ∷ zs) (zip2-map_right f g xs ys)

-- what stands behind a store is as before
pub drop-put_chunk : {A : Type 0} (at n : ℕ) (xs ys : List A) → length ys ≡ n → at + n ≤ length xs → drop (at + n) (put_chunk at xs ys) ≡ drop (at + n) xs
drop-put_chunk at n xs ys e le =
    let front : length (take at xs ++ ys) ≡ at + n = length-append (take at xs) ys ∙ ap₂ (λ (p q : ℕ). p + q) (length-take-le at xs (omega arith)) e in
    let parts : put_chunk at xs ys ≡ (take at xs ++ ys) ++ drop (length ys) (drop at xs) = put_chunk_is at xs ys (omega arith) ∙ sym (append_assoc (take at xs) ys (drop (length ys) (drop at xs))) in
    ap (drop (at + n)) parts ∙ drop_at (take at xs ++ ys) (drop (length ys) (drop at xs)) (at + n) front ∙ drop-drop (length ys) at xs ∙ ap (λ (k : ℕ). drop (at + k) xs) e

-- with n more words done, the done words and the rest still make the whole answer
pub lanes_more : {A B : Type 0} (f : A → B → A) (at n : ℕ) (xs : List A) (ys : List B) (zs : List A) → at + n ≤ length xs → length xs ≡ length ys → zs ≡ put_chunk at xs (zip2 f (chunk at n xs) (chunk at n ys)) → take (at + n) zs ++ zip2 f (drop (at + n) zs) (drop (at + n) ys) ≡ take at xs ++ zip2 f (drop at xs) (drop at ys)
lanes_more f at n xs ys zs le e is =
    let xs_here : length (chunk at n xs) ≡ n = length-chunk at n xs le in
    let ys_here : length (chunk at n ys) ≡ n = length-chunk at n ys (omega arith) in
    let done = zip2 f (chunk at n xs) (chunk at n ys) in
    let long : length done ≡ n = length-zip2 f (chunk at n xs) (chunk at n ys) (xs_here ∙ sym ys_here) ∙ xs_here in
    let front : take (at + n) zs ≡ take at xs ++ done = ap (take (at + n)) is ∙ take_more_put_chunk at xs done (at + n) (omega arith) le in
    let back : drop (at + n) zs ≡ drop (at + n) xs = ap (drop (at + n)) is ∙ drop-put_chunk at n xs done long le in
    ap₂ (λ p q. p ++ zip2 f q (drop (at + n) ys)) front back
    ∙ append_assoc (take at xs) done (zip2 f (drop (at + n) xs) (drop (at + n) ys))
    ∙ ap (λ p. take at xs ++ p) (sym (zip2-append f (chunk at n xs) (drop (at + n) xs) (chunk at n ys) (drop (at + n) ys) (xs_here ∙ sym ys_here)))
    ∙ sym (ap₂ (λ p q. take at xs ++ zip2 f p q) (chunk-drop at n xs) (chunk-drop at n ys))
