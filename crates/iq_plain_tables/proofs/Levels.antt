-- A condition's fold, by the list of the conditions in it.
use Rattle.std.proofs.Common.{◌≡◌, ◌<◌, ◌+◌, ℕ, List, [], ◌∷◌, map, drop, length, get_or, refl, ap, sym, ◌∙◌, arith}
use Rattle.std.proofs.lemmas.List.{drop_more}
use Rattle.iq_ast.specs.declared.conditions.Cond.{Cond, Not, And, Or, Row_of-Cond, end_of-Cond, more_of-Cond, items-the_row-Cond, items_hidden-the_row-Cond-1}
use Rattle.iq_ast.specs.declared.conditions.Cond as conds
use Rattle.iq_ast.specs.declared.conditions.Cond.TheBlock.{hidden-the_row-Cond-0}
use denote.Hole.Carrier.{hidden}
use Rattle.iq_truth.specs.declared.truth.Truth.{Truth}
use Rattle.iq_truth.specs.Truths.{truth_and, truth_or}
use Rattle.iq_conditions.specs.Conditions.{Levels, cond_fold, row_fold, all_truths, any_truth}

-- a row of conditions gives what its list gives
pub row_is : {A : Type 0} (levels : Levels A) (n : _) (k : Row_of-Cond n) → row_fold levels k ≡ map (cond_fold levels) (items-the_row-Cond n k)
row_is levels n end_of-Cond = refl
row_is {A = A} levels n (more_of-Cond cond rest) = ap (λ (xs : List A). cond_fold levels cond ∷ xs) (row_is levels _ rest)

-- the conditions in a condition, in text order
abbrev pub inside : Cond → List Cond
inside (conds.Test test) = []
inside (conds.Not' shape members) = items-the_row-Cond _ members
inside (conds.And' shape members) = items-the_row-Cond _ members
inside (conds.Or' shape members) = items-the_row-Cond _ members

-- what a condition's level gives of what the conditions in it gave
abbrev pub level_of : {A : Type 0} → Levels A → Cond → List A → A
level_of levels (conds.Test test) given = levels.test test
level_of levels (conds.Not' shape members) given = levels.not_of given
level_of levels (conds.And' shape members) given = levels.all_of given
level_of levels (conds.Or' shape members) given = levels.any_of given

pub fold_is : {A : Type 0} (levels : Levels A) (cond : Cond) → cond_fold levels cond ≡ level_of levels cond (map (cond_fold levels) (inside cond))
fold_is levels (conds.Test test) = refl
fold_is levels (conds.Not' shape members) = ap levels.not_of (row_is levels _ members)
fold_is levels (conds.And' shape members) = ap levels.all_of (row_is levels _ members)
fold_is levels (conds.Or' shape members) = ap levels.any_of (row_is levels _ members)

-- what the conditions behind NOT, AND and OR give
pub and_fold : {A : Type 0} (levels : Levels A) (members : List Cond) → cond_fold levels (And members) ≡ levels.all_of (map (cond_fold levels) members)
and_fold {A = A} levels members = fold_is levels (And members) ∙ ap (λ (xs : List Cond). levels.all_of (map (cond_fold levels) xs)) (items_hidden-the_row-Cond-1 members)

pub or_fold : {A : Type 0} (levels : Levels A) (members : List Cond) → cond_fold levels (Or members) ≡ levels.any_of (map (cond_fold levels) members)
or_fold {A = A} levels members = fold_is levels (Or members) ∙ ap (λ (xs : List Cond). levels.any_of (map (cond_fold levels) xs)) (items_hidden-the_row-Cond-1 members)

pub not_fold : {A : Type 0} (levels : Levels A) (inner : Cond) → cond_fold levels (Not inner) ≡ levels.not_of (cond_fold levels inner ∷ [])
unfolding hidden-the_row-Cond-0 hidden
not_fold levels inner = refl

-- AND and OR of three, either way
pub and_assoc : (a b c : Truth) → truth_and (truth_and a b) c ≡ truth_and a (truth_and b c)
and_assoc a b c = grind (arith)

pub or_assoc : (a b c : Truth) → truth_or (truth_or a b) c ≡ truth_or a (truth_or b c)
or_assoc a b c = grind (arith)

-- the members of a list from a place on: that one, and those behind it
pub rest_is : (members : List Cond) (i : ℕ) (member : Cond) → i < length members → member ≡ get_or members i member → drop i members ≡ member ∷ drop (i + 1) members
rest_is members i member low is = drop_more members i member low ∙ ap (λ (x : Cond). x ∷ drop (i + 1) members) (sym is)

-- AND and OR of one member more
pub and_more : (f : Cond → Truth) (members : List Cond) (i : ℕ) (member : Cond) (all : Truth) → i < length members → member ≡ get_or members i member
    → truth_and (truth_and all (f member)) (all_truths (map f (drop (i + 1) members))) ≡ truth_and all (all_truths (map f (drop i members)))
and_more f members i member all low is =
    and_assoc all (f member) _ ∙ sym (ap (λ (xs : List Cond). truth_and all (all_truths (map f xs))) (rest_is members i member low is))

pub or_more : (f : Cond → Truth) (members : List Cond) (i : ℕ) (member : Cond) (any : Truth) → i < length members → member ≡ get_or members i member
    → truth_or (truth_or any (f member)) (any_truth (map f (drop (i + 1) members))) ≡ truth_or any (any_truth (map f (drop i members)))
or_more f members i member any low is =
    or_assoc any (f member) _ ∙ sym (ap (λ (xs : List Cond). truth_or any (any_truth (map f xs))) (rest_is members i member low is))
