-- Conditions that the grammar by cases spells are spellable, and their printed tokens are real.
use Rattle.std.proofs.Common.{◌≡◌, ◌<◌, ◌≤◌, ℕ, zero, suc, Bool, true, false, cond, List, [], ◌∷◌, ◌++◌, length, map, refl, sym, ap, subst, inl, inr, flat_map, arith}
use Rattle.std.proofs.lemmas.Bool.Decides.{nat_tests}
use Rattle.std.specs.Prelude.{nat_lt}
use Rattle.std.specs.List.{join_by, AllByRecursion}
use Rattle.iq_base.specs.declared.values.Value.{Value}
use Rattle.iq_ast.specs.declared.conditions.Test.{Test}
use Rattle.iq_ast.specs.declared.conditions.Test.TheVariants as test
use Rattle.iq_ast.specs.declared.conditions.Cond.{Cond, Not, And, Or, Row_of-Cond, end_of-Cond, more_of-Cond, items-the_row-Cond, items_hidden-the_row-Cond-1}
use Rattle.iq_ast.specs.declared.conditions.Cond.TheBlock.{hidden-the_row-Cond-0, hidden-the_row-Cond-1}
use denote.Hole.Carrier.{hidden}
use Rattle.iq_tokens.specs.declared.tokens.Mark.{Mark}
use Rattle.iq_tokens.specs.declared.tokens.Mark.TheVariants as mark
use Rattle.iq_tokens.specs.declared.tokens.Lexeme.{Lexeme}
use Rattle.iq_tokens.specs.Tokens.{IsLexeme}
use Rattle.iq_grammar.specs.Draft.{and_of, or_of}
use Rattle.iq_spelling.specs.Lists.{word, name, IsLiteral, AreMore, AreJoined}
use Rattle.iq_spelling.specs.Conditions.{IsTest, IsTested, IsConjunction, IsDisjunction, IsNegation, IsCondition}
use Rattle.iq_token_text.specs.Tokens.{AreLexemes}
use Rattle.iq_print.specs.Conditions.{listed, value_words, test_words, Spelled, words_in, deep_in, deepest, spelled, all_spelled, cond_words, HasValues, HasMembers, HaveMembers, IsSpellableCond}
use Rattle.iq_print.proofs.Pushing.{all_is, spelled_and, spelled_or}

-- ---- lists of tokens

pub left : (a b : List Lexeme) → AreLexemes (a ++ b) → AreLexemes a
left [] b all = tt
left (t ∷ a) b all = (all.0, left a b all.1)

pub right : (a b : List Lexeme) → AreLexemes (a ++ b) → AreLexemes b
right [] b all = all
right (t ∷ a) b all = right a b all.1

pub both : (a b : List Lexeme) → AreLexemes a → AreLexemes b → AreLexemes (a ++ b)
both [] b x y = y
both (t ∷ a) b x y = (x.0, both a b x.1 y)

-- with another part in the place of one
pub inside : (front a b end : List Lexeme) → (AreLexemes a → AreLexemes b) → AreLexemes (front ++ (a ++ end)) → AreLexemes (front ++ (b ++ end))
inside [] a b end f all = both b end (f (left a end all)) (right a end all)
inside (t ∷ front) a b end f all = (all.0, inside front a b end f all.1)

pub behind : (front a b : List Lexeme) → (AreLexemes a → AreLexemes b) → AreLexemes (front ++ a) → AreLexemes (front ++ b)
behind [] a b f all = f all
behind (t ∷ front) a b f all = (all.0, behind front a b f all.1)

-- each member of a list has what its tokens tell of it
pub more_members : {A : Type 0} (m : Mark) (P : A → List Lexeme → Type 0) (Q : A → Type 0) → ((x : A) (ls : List Lexeme) → P x ls → AreLexemes ls → Q x) → (xs : List A) (ls : List Lexeme)
    → AreMore m P xs ls → AreLexemes ls → AllByRecursion Q xs
more_members m P Q tells [] ls none all = tt
more_members m P Q tells (x ∷ xs) ls (a, b, p, more, is) all =
    let here : AreLexemes (word m ∷ (a ++ b)) = subst AreLexemes is all in
    (tells x a p (left a b here.1), more_members m P Q tells xs b more (right a b here.1))

pub members : {A : Type 0} (m : Mark) (P : A → List Lexeme → Type 0) (Q : A → Type 0) → ((x : A) (ls : List Lexeme) → P x ls → AreLexemes ls → Q x) → (xs : List A) (ls : List Lexeme)
    → AreJoined m P xs ls → AreLexemes ls → AllByRecursion Q xs
members m P Q tells [] ls none all = absurd none
members m P Q tells (x ∷ xs) ls (a, b, p, more, is) all =
    let here : AreLexemes (a ++ b) = subst AreLexemes is all in
    (tells x a p (left a b here), more_members m P Q tells xs b more (right a b here))

pub some : {A : Type 0} (m : Mark) (P : A → List Lexeme → Type 0) (xs : List A) (ls : List Lexeme) → AreJoined m P xs ls → 0 < length xs
some m P [] ls none = absurd none
some m P (x ∷ xs) ls are = omega arith

-- members with a mark between each two
pub more_real : {A : Type 0} (m : Mark) (f : A → List Lexeme) → IsLexeme (word m) → (xs : List A) → AllByRecursion (λ (x : A). AreLexemes (f x)) xs → AreLexemes (flat_map (λ (y : A). word m ∷ f y) xs)
more_real m f real [] all = tt
more_real {A = A} m f real (x ∷ xs) all = (real, both (f x) (flat_map (λ (y : A). word m ∷ f y) xs) all.0 (more_real m f real xs all.1))

pub joined_real : {A : Type 0} (m : Mark) (f : A → List Lexeme) → IsLexeme (word m) → (xs : List A) → AllByRecursion (λ (x : A). AreLexemes (f x)) xs → AreLexemes (join_by f (word m ∷ []) xs)
joined_real m f real [] all = tt
joined_real {A = A} m f real (x ∷ xs) all = both (f x) (flat_map (λ (y : A). word m ∷ f y) xs) all.0 (more_real m f real xs all.1)

pub comma_real : IsLexeme (word mark.Comma)
comma_real = (λ h. absurd cc, λ h. absurd cc)

open_real : IsLexeme (word mark.Open)
open_real = (λ h. absurd cc, λ h. absurd cc)

close_real : IsLexeme (word mark.Close)
close_real = (λ h. absurd cc, λ h. absurd cc)

and_real : IsLexeme (word mark.And)
and_real = (λ h. absurd cc, λ h. absurd cc)

or_real : IsLexeme (word mark.Or)
or_real = (λ h. absurd cc, λ h. absurd cc)

not_real : IsLexeme (word mark.Not)
not_real = (λ h. absurd cc, λ h. absurd cc)

pub literal_real : (v : Value) (ls : List Lexeme) → IsLiteral v ls → AreLexemes ls → AreLexemes (value_words v)
literal_real v ls is all = subst AreLexemes is all

-- a list of values, as it is and as it is printed
pub values_real : (vs : List Value) (ls : List Lexeme) → AreJoined mark.Comma IsLiteral vs ls → AreLexemes ls → AreLexemes (listed value_words vs)
values_real vs ls are all = joined_real mark.Comma value_words comma_real vs (members mark.Comma IsLiteral (λ (v : Value). AreLexemes (value_words v)) literal_real vs ls are all)

-- ---- conditions

-- a condition that may stand where so many brackets and NOTs are left
record Can (most n : ℕ) (c : Cond) : Type 0 where
  has : HasMembers c
  deep : deep_in most (spelled c) ≤ n
  words : AreLexemes (cond_words c)

bracketed_real : (most : ℕ) (s : Spelled) → AreLexemes s.words → AreLexemes (words_in most s)
bracketed_real most s all = by_case (nat_lt most s.loose)
  where
    by_case : (b : Bool) → AreLexemes (cond b (word mark.Open ∷ (s.words ++ word mark.Close ∷ [])) s.words)
    by_case true = (open_real, both s.words (word mark.Close ∷ []) all (close_real, tt))
    by_case false = all

-- under OR less is bracketed than under AND, and nothing alone
less_deep : (s : Spelled) (n : ℕ) → deep_in 0 s ≤ n → deep_in 1 s ≤ n
less_deep s n h = grind (arith, nat_tests)

least_deep : (most : ℕ) (s : Spelled) (n : ℕ) → deep_in most s ≤ n → s.deep ≤ n
least_deep most s n h = grind (arith, nat_tests)

one_deeper : (most : ℕ) (s : Spelled) (n : ℕ) → s.deep ≤ n → deep_in most s ≤ suc n
one_deeper most s n h = grind (arith, nat_tests)

-- tests
test_real : (t : Test) (ls : List Lexeme) → IsTest t ls → AreLexemes ls → HasValues t × AreLexemes (test_words t)
test_real (test.Compare c o v) ls is all = (tt, subst AreLexemes is all)
test_real (test.Columns l o r) ls is all = (tt, subst AreLexemes is all)
test_real (test.Between c negated low high) ls is all = (tt, subst AreLexemes is all)
test_real (test.OneOf c true values) ls (vs, are, is) all =
    (some mark.Comma IsLiteral values vs are, inside (name c ∷ word mark.Not ∷ word mark.In ∷ word mark.Open ∷ []) vs (listed value_words values) (word mark.Close ∷ []) (values_real values vs are) (subst AreLexemes is all))
test_real (test.OneOf c false values) ls (vs, are, is) all =
    (some mark.Comma IsLiteral values vs are, inside (name c ∷ word mark.In ∷ word mark.Open ∷ []) vs (listed value_words values) (word mark.Close ∷ []) (values_real values vs are) (subst AreLexemes is all))
test_real (test.Null c negated) ls is all = (tt, subst AreLexemes is all)

can_test : (n : ℕ) (c : Cond) (ls : List Lexeme) → IsTested c ls → AreLexemes ls → Can 0 n c
can_test n c ls (t, is, e) all =
    let here = test_real t ls is all in
    subst (λ (d : Cond). Can 0 n d) (sym e) (record { has = here.0; deep = omega arith; words = here.1 })

-- NOT
can_not : (n : ℕ) (c : Cond) → Can 0 n c → Can 0 (suc n) (Not c)
unfolding hidden-the_row-Cond-0 hidden
can_not n c can = record {
  has = (can.has, tt);
  deep = let h = can.deep in omega arith;
  words = (not_real, both (words_in 0 (spelled c)) [] (bracketed_real 0 (spelled c) can.words) tt);
}

-- AND and OR
have : (n : _) (row : Row_of-Cond n) → AllByRecursion HasMembers (items-the_row-Cond n row) → HaveMembers row
have n end_of-Cond all = tt
have n (more_of-Cond c rest) all = (all.0, have _ rest all.1)

has_of : (most n : ℕ) (cs : List Cond) → AllByRecursion (Can most n) cs → AllByRecursion HasMembers cs
has_of most n [] all = tt
has_of most n (c ∷ cs) all = (all.0.has, has_of most n cs all.1)

deep_of : (most n : ℕ) (cs : List Cond) → AllByRecursion (Can most n) cs → deepest most (map spelled cs) ≤ n
deep_of most n [] all = omega arith
deep_of most n (c ∷ cs) all = let h = all.0.deep in let k = deep_of most n cs all.1 in omega arith

words_of : (most n : ℕ) (cs : List Cond) → AllByRecursion (Can most n) cs → AllByRecursion (λ (s : Spelled). AreLexemes (words_in most s)) (map spelled cs)
words_of most n [] all = tt
words_of most n (c ∷ cs) all = (bracketed_real most (spelled c) all.0.words, words_of most n cs all.1)

count_of : (cs : List Cond) → length (map spelled cs) ≡ length cs
count_of [] = refl
count_of (c ∷ cs) = ap suc (count_of cs)

row_count : (cs : List Cond) → 1 < length cs → 1 < length (all_spelled (hidden-the_row-Cond-1 cs))
row_count cs two = omega (arith, ap length (all_is _ (hidden-the_row-Cond-1 cs)), ap (λ (l : List Cond). length (map spelled l)) (items_hidden-the_row-Cond-1 cs), count_of cs)

row_has : (cs : List Cond) → AllByRecursion HasMembers cs → HaveMembers (hidden-the_row-Cond-1 cs)
row_has cs all = have _ (hidden-the_row-Cond-1 cs) (subst (AllByRecursion HasMembers) (sym (items_hidden-the_row-Cond-1 cs)) all)

can_and : (n : ℕ) (cs : List Cond) → 1 < length cs → AllByRecursion (Can 0 n) cs → Can 1 n (And cs)
can_and n cs two all = record {
  has = (row_count cs two, row_has cs (has_of 0 n cs all));
  deep = subst (λ (s : Spelled). deep_in 1 s ≤ n) (sym (spelled_and cs)) (deep_of 0 n cs all);
  words = subst (λ (s : Spelled). AreLexemes s.words) (sym (spelled_and cs)) (joined_real mark.And (words_in 0) and_real (map spelled cs) (words_of 0 n cs all));
}

-- a condition that may stand alone
record Alone (n : ℕ) (c : Cond) : Type 0 where
  has : HasMembers c
  deep : (spelled c).deep ≤ n
  words : AreLexemes (cond_words c)

can_or : (n : ℕ) (cs : List Cond) → 1 < length cs → AllByRecursion (Can 1 n) cs → Alone n (Or cs)
can_or n cs two all = record {
  has = (row_count cs two, row_has cs (has_of 1 n cs all));
  deep = subst (λ (s : Spelled). s.deep ≤ n) (sym (spelled_or cs)) (deep_of 1 n cs all);
  words = subst (λ (s : Spelled). AreLexemes s.words) (sym (spelled_or cs)) (joined_real mark.Or (words_in 1) or_real (map spelled cs) (words_of 1 n cs all));
}

can_conjunction : (n : ℕ) → ((c : Cond) (ls : List Lexeme) → IsNegation n c ls → AreLexemes ls → Can 0 n c)
    → (c : Cond) (ls : List Lexeme) → IsConjunction (IsNegation n) c ls → AreLexemes ls → Can 1 n c
can_conjunction n negation c ls (cs, are, e) all = subst (λ (d : Cond). Can 1 n d) (sym e) (of cs (members mark.And (IsNegation n) (Can 0 n) negation cs ls are all) (some mark.And (IsNegation n) cs ls are))
  where
    of : (cs : List Cond) → AllByRecursion (Can 0 n) cs → 0 < length cs → Can 1 n (and_of cs)
    of [] can none = absurd (omega arith)
    of (d ∷ []) can none = record { has = can.0.has; deep = less_deep (spelled d) n can.0.deep; words = can.0.words }
    of (d ∷ e ∷ ds) can none = can_and n (d ∷ e ∷ ds) (omega arith) can

can_disjunction : (n : ℕ) → ((c : Cond) (ls : List Lexeme) → IsNegation n c ls → AreLexemes ls → Can 0 n c)
    → (c : Cond) (ls : List Lexeme) → IsDisjunction (IsNegation n) c ls → AreLexemes ls → Alone n c
can_disjunction n negation c ls (cs, are, e) all =
    let each = members mark.Or (IsConjunction (IsNegation n)) (Can 1 n) (can_conjunction n negation) cs ls are all in
    subst (λ (d : Cond). Alone n d) (sym e) (of cs each (some mark.Or (IsConjunction (IsNegation n)) cs ls are))
  where
    of : (cs : List Cond) → AllByRecursion (Can 1 n) cs → 0 < length cs → Alone n (or_of cs)
    of [] can none = absurd (omega arith)
    of (d ∷ []) can none = record { has = can.0.has; deep = least_deep 1 (spelled d) n can.0.deep; words = can.0.words }
    of (d ∷ e ∷ ds) can none = can_or n (d ∷ e ∷ ds) (omega arith) can

can_negation : (n : ℕ) (c : Cond) (ls : List Lexeme) → IsNegation n c ls → AreLexemes ls → Can 0 n c
can_negation zero c ls is all = can_test zero c ls is all
can_negation (suc n) c ls (inl (d, rest, p, e, is)) all =
    let here : AreLexemes (word mark.Not ∷ rest) = subst AreLexemes is all in
    subst (λ (x : Cond). Can 0 (suc n) x) (sym e) (can_not n d (can_negation n d rest p here.1))
can_negation (suc n) c ls (inr (inl (inner, p, is))) all =
    let here : AreLexemes (word mark.Open ∷ (inner ++ word mark.Close ∷ [])) = subst AreLexemes is all in
    let alone = can_disjunction n (can_negation n) c inner p (left inner (word mark.Close ∷ []) here.1) in
    record { has = alone.has; deep = one_deeper 0 (spelled c) n alone.deep; words = alone.words }
can_negation (suc n) c ls (inr (inr is)) all = can_test (suc n) c ls is all

pub condition_can : (c : Cond) (ls : List Lexeme) → IsCondition c ls → AreLexemes ls → IsSpellableCond c × AreLexemes (cond_words c)
condition_can c ls is all =
    let alone = can_disjunction 64 (can_negation 64) c ls is all in
    (record { members = alone.has; shallow = alone.deep }, alone.words)
