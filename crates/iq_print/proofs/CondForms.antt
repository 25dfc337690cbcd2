-- The tokens that a condition is printed as are a text of it.
use Rattle.std.proofs.Common.{◌≡◌, ◌<◌, ◌≤◌, ◌+◌, ℕ, zero, suc, List, [], ◌∷◌, ◌++◌, length, map, refl, sym, ap, subst, ◌∙◌, inl, inr, append-nil, flat_map, arith}
use Rattle.std.specs.List.{join_by, AllByRecursion}
use Rattle.iq_base.specs.declared.values.Value.{Value}
use Rattle.iq_ast.specs.declared.conditions.Test.{Test}
use Rattle.iq_ast.specs.declared.conditions.Test.TheVariants as test
use Rattle.iq_ast.specs.declared.conditions.Cond.{Cond, Not, And, Or, Row_of-Cond, end_of-Cond, more_of-Cond, items-the_row-Cond, items_shown-the_row-Cond-1, roll-Cond, roll-out-Cond}
use Rattle.iq_ast.specs.declared.conditions.Cond as conds
use Rattle.iq_ast.specs.declared.conditions.Cond.TheVariants.{outs-And', rolls-And, outs-Or', rolls-Or}
use Rattle.iq_ast.specs.declared.conditions.Cond.TheOpen.{Cond-F}
use Rattle.iq_ast.specs.declared.conditions.Cond.TheBlock.{hidden-the_row-Cond-0}
use denote.Hole.Carrier.{hidden}
use Rattle.iq_tokens.specs.declared.tokens.Mark.{Mark}
use Rattle.iq_tokens.specs.declared.tokens.Mark.TheVariants as mark
use Rattle.iq_tokens.specs.declared.tokens.Lexeme.{Lexeme}
use Rattle.iq_grammar.specs.Draft.{and_of, or_of}
use Rattle.iq_spelling.specs.Lists.{word, IsLiteral, AreMore, AreJoined}
use Rattle.iq_spelling.specs.Conditions.{IsTest, IsConjunction, IsDisjunction, IsNegation}
use Rattle.iq_print.specs.Conditions.{listed, value_words, test_words, Spelled, words_in, deep_in, joined, deepest, test_spelled, not_spelled, and_spelled, or_spelled, spelled, all_spelled, HasValues, HasMembers, HaveMembers}
use Rattle.iq_print.proofs.Pushing.{all_is, more_map}

-- ---- lists

pub are_more : {A : Type 0} (m : Mark) (P : A → List Lexeme → Type 0) (f : A → List Lexeme) (xs : List A) → AllByRecursion (λ (x : A). P x (f x)) xs
    → AreMore m P xs (flat_map (λ (y : A). word m ∷ f y) xs)
are_more m P f [] all = refl
are_more {A = A} m P f (x ∷ xs) all = (f x, flat_map (λ (y : A). word m ∷ f y) xs, all.0, are_more m P f xs all.1, refl)

pub are_joined : {A : Type 0} (m : Mark) (P : A → List Lexeme → Type 0) (f : A → List Lexeme) (xs : List A) → 0 < length xs → AllByRecursion (λ (x : A). P x (f x)) xs
    → AreJoined m P xs (join_by f (word m ∷ []) xs)
are_joined m P f [] some all = absurd (omega arith)
are_joined {A = A} m P f (x ∷ xs) some all = (f x, flat_map (λ (y : A). word m ∷ f y) xs, all.0, are_more m P f xs all.1, refl)

pub all_literals : (values : List Value) → AllByRecursion (λ (v : Value). IsLiteral v (value_words v)) values
all_literals [] = tt
all_literals (v ∷ vs) = (refl, all_literals vs)

-- the same over conditions
join_map : (m : Mark) (f : Spelled → List Lexeme) (cs : List Cond) → join_by (λ (c : Cond). f (spelled c)) (word m ∷ []) cs ≡ join_by f (word m ∷ []) (map spelled cs)
join_map m f [] = refl
join_map m f (c ∷ cs) = ap (λ (l : List Lexeme). f (spelled c) ++ l) (more_map m f cs)

-- ---- one condition

-- its tokens at each place: under NOT or AND, under OR, and alone
pub record Holds (c : Cond) (s : Spelled) : Type 0 where
  pub negation : (n : ℕ) → deep_in 0 s ≤ n → IsNegation n c (words_in 0 s)
  pub conjunction : (n : ℕ) → deep_in 1 s ≤ n → IsConjunction (IsNegation n) c (words_in 1 s)
  pub disjunction : (n : ℕ) → s.deep ≤ n → IsDisjunction (IsNegation n) c s.words

as_conjunction : (P : Cond → List Lexeme → Type 0) (c : Cond) (ls : List Lexeme) → P c ls → IsConjunction P c ls
as_conjunction P c ls p = (c ∷ [], (ls, [], p, refl, sym (append-nil ls)), refl)

as_disjunction : (P : Cond → List Lexeme → Type 0) (c : Cond) (ls : List Lexeme) → IsConjunction P c ls → IsDisjunction P c ls
as_disjunction P c ls p = (c ∷ [], (ls, [], p, refl, sym (append-nil ls)), refl)

made : List Lexeme → ℕ → ℕ → Spelled
made w loose deep = record { words = w; loose = loose; deep = deep }

tight : (c : Cond) (w : List Lexeme) (d : ℕ) → ((n : ℕ) → d ≤ n → IsNegation n c w) → Holds c (made w 0 d)
unfolding made
tight c w d negation = record {
  negation = negation;
  conjunction = λ n h. as_conjunction (IsNegation n) c w (negation n h);
  disjunction = λ n h. as_disjunction (IsNegation n) c w (as_conjunction (IsNegation n) c w (negation n h));
}

bracketed : (c : Cond) (w : List Lexeme) (d : ℕ) → ((n : ℕ) → d ≤ n → IsDisjunction (IsNegation n) c w) → (n : ℕ) → d + 1 ≤ n → IsNegation n c (word mark.Open ∷ (w ++ word mark.Close ∷ []))
bracketed c w d inner zero h = absurd (omega arith)
bracketed c w d inner (suc n) h = inr (inl (w, inner n (omega arith), refl))

of_and : (c : Cond) (w : List Lexeme) (d : ℕ) → ((n : ℕ) → d ≤ n → IsConjunction (IsNegation n) c w) → Holds c (made w 1 d)
unfolding made
of_and c w d conjunction =
    let alone = λ (n : ℕ) (h : d ≤ n). as_disjunction (IsNegation n) c w (conjunction n h) in
    record { negation = bracketed c w d alone; conjunction = conjunction; disjunction = alone }

of_or : (c : Cond) (w : List Lexeme) (d : ℕ) → ((n : ℕ) → d ≤ n → IsDisjunction (IsNegation n) c w) → Holds c (made w 2 d)
unfolding made
of_or c w d alone = record {
  negation = bracketed c w d alone;
  conjunction = λ n h. as_conjunction (IsNegation n) c (word mark.Open ∷ (w ++ word mark.Close ∷ [])) (bracketed c w d alone n h);
  disjunction = alone;
}

-- ---- tests

tested : (t : Test) → HasValues t → IsTest t (test_words t)
tested (test.Compare c o v) some = refl
tested (test.Columns l o r) some = refl
tested (test.Between c negated low high) some = refl
tested (test.OneOf c negated values) some = (listed value_words values, are_joined mark.Comma IsLiteral value_words values some (all_literals values), refl)
tested (test.Null c negated) some = refl

test_negation : (t : Test) → HasValues t → (n : ℕ) → 0 ≤ n → IsNegation n (conds.Test t) (test_words t)
test_negation t some zero h = (t, tested t some, refl)
test_negation t some (suc n) h = inr (inr (t, tested t some, refl))

test_holds : (t : Test) → HasValues t → Holds (conds.Test t) (test_spelled t)
unfolding made
test_holds t some = tight (conds.Test t) (test_words t) 0 (test_negation t some)

-- ---- NOT

not_negation : (c : Cond) → Holds c (spelled c) → (n : ℕ) → deepest 0 (spelled c ∷ []) + 1 ≤ n → IsNegation n (Not c) (word mark.Not ∷ joined mark.And 0 (spelled c ∷ []))
not_negation c here zero h = absurd (omega arith)
not_negation c here (suc n) h =
    let inner : IsNegation n c (words_in 0 (spelled c)) = here.negation n (omega arith) in
    inl (c, joined mark.And 0 (spelled c ∷ []), subst (λ (l : List Lexeme). IsNegation n c l) (sym (append-nil (words_in 0 (spelled c)))) inner, refl, refl)

not_holds : (c : Cond) → Holds c (spelled c) → Holds (Not c) (not_spelled (spelled c ∷ []))
unfolding made
not_holds c here = tight (Not c) (word mark.Not ∷ joined mark.And 0 (spelled c ∷ [])) (deepest 0 (spelled c ∷ []) + 1) (not_negation c here)

-- ---- AND and OR

abbrev AllHold : List Cond → Type 0
AllHold cs = AllByRecursion (λ (c : Cond). Holds c (spelled c)) cs

negations : (n : ℕ) (cs : List Cond) → AllHold cs → deepest 0 (map spelled cs) ≤ n → AllByRecursion (λ (c : Cond). IsNegation n c (words_in 0 (spelled c))) cs
negations n [] all h = tt
negations n (c ∷ cs) all h = (all.0.negation n (omega arith), negations n cs all.1 (omega arith))

conjunctions : (n : ℕ) (cs : List Cond) → AllHold cs → deepest 1 (map spelled cs) ≤ n → AllByRecursion (λ (c : Cond). IsConjunction (IsNegation n) c (words_in 1 (spelled c))) cs
conjunctions n [] all h = tt
conjunctions n (c ∷ cs) all h = (all.0.conjunction n (omega arith), conjunctions n cs all.1 (omega arith))

and_is : (cs : List Cond) → 1 < length cs → And cs ≡ and_of cs
and_is [] two = absurd (omega arith)
and_is (c ∷ []) two = absurd (omega arith)
and_is (c ∷ d ∷ cs) two = refl

or_is : (cs : List Cond) → 1 < length cs → Or cs ≡ or_of cs
or_is [] two = absurd (omega arith)
or_is (c ∷ []) two = absurd (omega arith)
or_is (c ∷ d ∷ cs) two = refl

and_holds : (cs : List Cond) → 1 < length cs → AllHold cs → Holds (And cs) (and_spelled (map spelled cs))
unfolding made
and_holds cs two all = of_and (And cs) (joined mark.And 0 (map spelled cs)) (deepest 0 (map spelled cs)) (λ n h.
    let are = are_joined mark.And (IsNegation n) (λ (c : Cond). words_in 0 (spelled c)) cs (omega arith) (negations n cs all h) in
    (cs, subst (λ (l : List Lexeme). AreJoined mark.And (IsNegation n) cs l) (join_map mark.And (words_in 0) cs) are, and_is cs two))

or_holds : (cs : List Cond) → 1 < length cs → AllHold cs → Holds (Or cs) (or_spelled (map spelled cs))
unfolding made
or_holds cs two all = of_or (Or cs) (joined mark.Or 1 (map spelled cs)) (deepest 1 (map spelled cs)) (λ n h.
    let are = are_joined mark.Or (IsConjunction (IsNegation n)) (λ (c : Cond). words_in 1 (spelled c)) cs (omega arith) (conjunctions n cs all h) in
    (cs, subst (λ (l : List Lexeme). AreJoined mark.Or (IsConjunction (IsNegation n)) cs l) (join_map mark.Or (words_in 1) cs) are, or_is cs two))

-- ---- all conditions

and_shape : (shape : _) (members : _) → And (items-the_row-Cond _ members) ≡ conds.And' shape members
and_shape shape members =
    sym (sym (roll-out-Cond (conds.And' shape members)) ∙ ap roll-Cond (outs-And' shape members ∙ ap Cond-F.And (items_shown-the_row-Cond-1 shape members)) ∙ rolls-And (items-the_row-Cond _ members))

or_shape : (shape : _) (members : _) → Or (items-the_row-Cond _ members) ≡ conds.Or' shape members
or_shape shape members =
    sym (sym (roll-out-Cond (conds.Or' shape members)) ∙ ap roll-Cond (outs-Or' shape members ∙ ap Cond-F.Or (items_shown-the_row-Cond-1 shape members)) ∙ rolls-Or (items-the_row-Cond _ members))

not_shape : (shape : _) (c : Cond) → Not c ≡ conds.Not' shape (more_of-Cond c end_of-Cond)
unfolding hidden-the_row-Cond-0 hidden
not_shape shape c = refl

same_count : (cs : List Cond) → length (map spelled cs) ≡ length cs
same_count [] = refl
same_count (c ∷ cs) = ap suc (same_count cs)

two_members : (n : _) (row : Row_of-Cond n) → 1 < length (all_spelled row) → 1 < length (items-the_row-Cond n row)
two_members n row two = omega (arith, ap length (all_is n row), same_count (items-the_row-Cond n row))

mutual
  pub holds : (c : Cond) → HasMembers c → Holds c (spelled c)
  holds (conds.Test t) has = test_holds t has
  holds (conds.Not' shape (more_of-Cond c end_of-Cond)) has = subst (λ (d : Cond). Holds d (not_spelled (spelled c ∷ []))) (not_shape shape c) (not_holds c (holds c has.0))
  holds (conds.And' shape members) has =
      let cs = items-the_row-Cond _ members in
      let here = and_holds cs (two_members _ members has.0) (all_hold _ members has.1) in
      subst (λ (ss : List Spelled). Holds (conds.And' shape members) (and_spelled ss)) (sym (all_is _ members)) (subst (λ (d : Cond). Holds d (and_spelled (map spelled cs))) (and_shape shape members) here)
  holds (conds.Or' shape members) has =
      let cs = items-the_row-Cond _ members in
      let here = or_holds cs (two_members _ members has.0) (all_hold _ members has.1) in
      subst (λ (ss : List Spelled). Holds (conds.Or' shape members) (or_spelled ss)) (sym (all_is _ members)) (subst (λ (d : Cond). Holds d (or_spelled (map spelled cs))) (or_shape shape members) here)

  all_hold : (n : _) (row : Row_of-Cond n) → HaveMembers row → AllHold (items-the_row-Cond n row)
  all_hold n end_of-Cond has = tt
  all_hold n (more_of-Cond c rest) has = (holds c has.0, all_hold _ rest has.1)
