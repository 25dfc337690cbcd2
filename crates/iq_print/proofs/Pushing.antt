-- Adding the tokens of lists and conditions.
use Rattle.std.proofs.Common.{◌≡◌, ◌<◌, ◌≤◌, ◌+◌, ◌-◌, ℕ, List, [], ◌∷◌, ◌++◌, length, map, take, drop, take_all, get_or, refl, sym, ap, ◌∙◌, append-nil, flat_map, arith}
use Rattle.std.proofs.lemmas.Grind.{fold-append}
use Rattle.std.proofs.lemmas.List.{drop_more}
use Rattle.iq_ast.specs.declared.conditions.Cond.{Cond, Not, And, Or, Row_of-Cond, end_of-Cond, more_of-Cond, items-the_row-Cond, items_hidden-the_row-Cond-1}
use Rattle.iq_ast.specs.declared.conditions.Cond.TheBlock.{hidden-the_row-Cond-0, hidden-the_row-Cond-1}
use denote.Hole.Carrier.{hidden}
use Rattle.iq_tokens.specs.declared.tokens.Mark.{Mark}
use Rattle.iq_tokens.specs.declared.tokens.Mark.TheVariants as mark
use Rattle.iq_tokens.specs.declared.tokens.Lexeme.{Lexeme}
use Rattle.iq_spelling.specs.Lists.{word}
use Rattle.iq_token_text.specs.Texts.{Printed, with_token, with_tokens}
use Rattle.iq_print.specs.Conditions.{Spelled, words_in, joined, not_spelled, and_spelled, or_spelled, spelled, all_spelled, cond_words}

-- a member more, behind its mark
pub member_more : {A : Type 0} (f : A → List Lexeme) (m : Mark) (text : Printed) (xs : List A) (i : ℕ) (x : A) → i < length xs → x ≡ get_or xs i x
    → with_tokens (with_tokens (with_token text (word m)) (f x)) (flat_map (λ (y : A). word m ∷ f y) (drop (i + 1) xs)) ≡ with_tokens text (flat_map (λ (y : A). word m ∷ f y) (drop i xs))
member_more {A = A} f m text xs i x low is =
    let others = flat_map (λ (y : A). word m ∷ f y) (drop (i + 1) xs) in
    let left : drop i xs ≡ x ∷ drop (i + 1) xs = drop_more xs i x low ∙ ap (λ (y : A). y ∷ drop (i + 1) xs) (sym is) in
    sym (ap (λ (l : List A). with_tokens text (flat_map (λ (y : A). word m ∷ f y) l)) left ∙ fold-append with_token (with_token text (word m)) (f x) others)

-- conditions by their forms
pub more_map : (m : Mark) (f : Spelled → List Lexeme) (cs : List Cond) → flat_map (λ (c : Cond). word m ∷ f (spelled c)) cs ≡ flat_map (λ (s : Spelled). word m ∷ f s) (map spelled cs)
more_map m f [] = refl
more_map m f (c ∷ cs) = ap (λ (l : List Lexeme). word m ∷ (f (spelled c) ++ l)) (more_map m f cs)

-- a list that isn't empty, as a pattern splits it
pub split_first : (members : List Cond) (first : Cond) → 1 ≤ length members → first ≡ get_or members 0 first → members ≡ first ∷ take (length members - 1) (drop 1 members)
split_first [] first some is = absurd (omega arith)
split_first (c ∷ cs) first some is =
    let all : take (length (c ∷ cs) - 1) cs ≡ cs = take_all (length (c ∷ cs) - 1) cs (omega arith) in
    ap (λ (d : Cond). d ∷ cs) (sym is) ∙ ap (λ (l : List Cond). first ∷ l) (sym all)

-- the first member, and the others behind their marks
pub member_first : (m : Mark) (most : ℕ) (text : Printed) (members : List Cond) (first : Cond) (rest : List Cond) → members ≡ first ∷ rest
    → with_tokens (with_tokens text (words_in most (spelled first))) (flat_map (λ (c : Cond). word m ∷ words_in most (spelled c)) rest) ≡ with_tokens text (joined m most (map spelled members))
member_first m most text members first rest is =
    sym (fold-append with_token text (words_in most (spelled first)) (flat_map (λ (c : Cond). word m ∷ words_in most (spelled c)) rest))
    ∙ ap (λ (l : List Lexeme). with_tokens text (words_in most (spelled first) ++ l)) (more_map m (words_in most) rest)
    ∙ ap (λ (cs : List Cond). with_tokens text (joined m most (map spelled cs))) (sym is)

-- a row of conditions is the list of these
pub all_is : (n : _) (row : Row_of-Cond n) → all_spelled row ≡ map spelled (items-the_row-Cond n row)
all_is n end_of-Cond = refl
all_is n (more_of-Cond cond rest) = ap (λ (ss : List Spelled). spelled cond ∷ ss) (all_is _ rest)

pub spelled_and : (members : List Cond) → spelled (And members) ≡ and_spelled (map spelled members)
spelled_and members = ap and_spelled (all_is _ (hidden-the_row-Cond-1 members)) ∙ ap (λ (cs : List Cond). and_spelled (map spelled cs)) (items_hidden-the_row-Cond-1 members)

pub spelled_or : (members : List Cond) → spelled (Or members) ≡ or_spelled (map spelled members)
spelled_or members = ap or_spelled (all_is _ (hidden-the_row-Cond-1 members)) ∙ ap (λ (cs : List Cond). or_spelled (map spelled cs)) (items_hidden-the_row-Cond-1 members)

pub spelled_not : (inner : Cond) → spelled (Not inner) ≡ not_spelled (spelled inner ∷ [])
unfolding hidden-the_row-Cond-0 hidden
spelled_not inner = refl

pub not_words : (inner : Cond) → cond_words (Not inner) ≡ word mark.Not ∷ words_in 0 (spelled inner)
not_words inner = ap (λ (s : Spelled). s.words) (spelled_not inner) ∙ ap (λ (l : List Lexeme). word mark.Not ∷ l) (append-nil (words_in 0 (spelled inner)))

pub and_words : (members : List Cond) → cond_words (And members) ≡ (and_spelled (map spelled members)).words
and_words members = ap (λ (s : Spelled). s.words) (spelled_and members)

pub or_words : (members : List Cond) → cond_words (Or members) ≡ (or_spelled (map spelled members)).words
or_words members = ap (λ (s : Spelled). s.words) (spelled_or members)
