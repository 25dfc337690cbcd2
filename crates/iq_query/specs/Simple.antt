-- The queries that are answered.
use Rattle.std.specs.Prelude.{◌≡◌, ⊤, false, List, [], ◌∷◌, Option, Some, None}
use Rattle.std.specs.List.{AllByRecursion}
use Rattle.iq_ast.specs.declared.conditions.Cond.{Cond}
use Rattle.iq_ast.specs.declared.conditions.Cond as conds
use Rattle.iq_ast.specs.declared.statements.Item.{Item}
use Rattle.iq_ast.specs.declared.statements.Item.TheVariants as items
use Rattle.iq_ast.specs.declared.statements.Select.{Select}

-- a column by its name
abbrev pub IsColumnItem : Item → Type 0
IsColumnItem (items.Plain name) = ⊤
IsColumnItem items.CountAll = ⊥
IsColumnItem (items.Count name) = ⊥
IsColumnItem (items.Sum name) = ⊥
IsColumnItem (items.Min name) = ⊥
IsColumnItem (items.Max name) = ⊥

-- a member of a SELECT's list with those behind it: columns all, or the number of rows alone
abbrev pub AreSimpleMembers : Item → List Item → Type 0
AreSimpleMembers (items.Plain name) more = AllByRecursion IsColumnItem more
AreSimpleMembers items.CountAll more = more ≡ []
AreSimpleMembers (items.Count name) more = ⊥
AreSimpleMembers (items.Sum name) more = ⊥
AreSimpleMembers (items.Min name) more = ⊥
AreSimpleMembers (items.Max name) more = ⊥

-- all columns, some, or the number of rows
abbrev pub IsSimpleList : List Item → Type 0
IsSimpleList [] = ⊤
IsSimpleList (item ∷ more) = AreSimpleMembers item more

-- no condition, or one test
abbrev pub IsSimpleCondition : Option Cond → Type 0
IsSimpleCondition None = ⊤
IsSimpleCondition (Some (conds.Test test)) = ⊤
IsSimpleCondition (Some (conds.Not' shape members)) = ⊥
IsSimpleCondition (Some (conds.And' shape members)) = ⊥
IsSimpleCondition (Some (conds.Or' shape members)) = ⊥

-- all rows of a table or those of which one test is true, not grouped, not ordered, not explained
pub record IsSimple (select : Select) : Type 0 where
  pub list : IsSimpleList select.items
  pub answered : select.explain ≡ false
  pub condition : IsSimpleCondition select.cond
  pub not_grouped : select.group ≡ []
  pub not_ordered : select.order ≡ []
