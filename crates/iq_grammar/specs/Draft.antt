-- What each role does to the statement under way, and the rules: None where the token breaks one.
use Rattle.std.specs.Prelude.{◌≡◌, ℕ, zero, suc, ◌+◌, Bool, true, false, not, ◌&&◌, if◌then◌else◌, List, [], ◌∷◌, ◌++◌, length, Option, Some, None, nat_eq, nat_lt, nat_le, ℤ, pos, negsuc}
use Rattle.std.specs.List.{list_any}
use Rattle.std.specs.Cmp.Lexicographic.{pointwise}
use Rattle.iq_base.specs.declared.values.Value.{Value}
use Rattle.iq_base.specs.declared.values.Value.TheVariants as value
use Rattle.iq_base.specs.declared.values.Kind.TheVariants as column_kind
use Rattle.iq_base.specs.declared.schemas.Column.{Column}
use Rattle.iq_base.specs.declared.schemas.IndexKind.TheVariants as index
use Rattle.iq_ast.specs.declared.conditions.Op.TheVariants as op
use Rattle.iq_ast.specs.declared.conditions.Test.{Test}
use Rattle.iq_ast.specs.declared.conditions.Test.TheVariants as test
use Rattle.iq_ast.specs.declared.conditions.Cond.{Cond}
use Rattle.iq_ast.specs.declared.conditions.Cond.TheVariants as cond
use Rattle.iq_ast.specs.declared.statements.Item.{Item}
use Rattle.iq_ast.specs.declared.statements.Item.TheVariants as item
use Rattle.iq_ast.specs.declared.statements.Order.{Order}
use Rattle.iq_ast.specs.declared.statements.Change.{Change}
use Rattle.iq_tokens.specs.declared.tokens.Lexeme.{Lexeme}
use Rattle.iq_tokens.specs.declared.tokens.Lexeme.TheVariants as lexeme
use Rattle.iq_grammar.specs.declared.grammar.Form.TheVariants as form
use Rattle.iq_grammar.specs.declared.grammar.Order.TheVariants as the_order
use Rattle.iq_grammar.specs.declared.grammar.Aggregate.{Aggregate}
use Rattle.iq_grammar.specs.declared.grammar.Aggregate.TheVariants as aggregate
use Rattle.iq_grammar.specs.declared.draft.TheConstants.{MOST_COLUMNS, MOST_LENGTH, MOST_ROWS, MOST_DEPTH, MOST_NUMBER}
use Rattle.iq_grammar.specs.declared.draft.Level.{Level}
use Rattle.iq_grammar.specs.declared.draft.Draft.{Draft}
use Rattle.iq_grammar.specs.declared.grammar.Role.{Role}
use Rattle.iq_grammar.specs.declared.grammar.Role.TheVariants as role

infixl 10 ◌>>=◌
abbrev pub ◌>>=◌ : {A B : Type 0} → Option A → (A → Option B) → Option B
None >>= f = None
(Some x) >>= f = f x

-- a draft of nothing
abbrev pub no_level : Level
no_level = record { ands = []; ors = []; nots = 0; base = 0 }

abbrev pub empty : Draft
empty = record { form = form.Sync; directive = the_order.Space; explain = false; table = []; name = []; index = index.Lf; first = []; second = None; columns = []; row = []; rows = []; count = 0; changed = []; changes = []; items = []; aggregate = aggregate.Count; group = []; order = []; column = []; op = op.Eq; negated = false; low = value.Null; level = no_level; outer = [] }

-- ---- what a token holds

abbrev pub name_in : Lexeme → Option (List ℕ)
name_in (lexeme.Name n) = Some n
name_in (lexeme.Mark m) = None
name_in (lexeme.Number v) = None
name_in (lexeme.Text t) = None

abbrev pub number_in : Lexeme → Option ℤ
number_in (lexeme.Number v) = Some v
number_in (lexeme.Mark m) = None
number_in (lexeme.Name n) = None
number_in (lexeme.Text t) = None

-- the only mark where a value stands is NULL
abbrev pub value_in : Lexeme → Option Value
value_in (lexeme.Mark m) = Some value.Null
value_in (lexeme.Number v) = Some (value.Int v)
value_in (lexeme.Text t) = Some (value.Text t)
value_in (lexeme.Name n) = None

-- ---- columns: 32 at most, no name twice

abbrev pub has_column : List Column → List ℕ → Bool
has_column columns name = list_any (λ (c : Column). pointwise nat_eq c.name name) columns

abbrev pub with_column : Draft → List ℕ → Option Draft
with_column d name =
    if nat_lt (length d.columns) MOST_COLUMNS && not (has_column d.columns name)
    then Some (record d { columns = d.columns ++ record { name = name; kind = column_kind.Int; null = true } ∷ [] }) else None

-- a length of VARCHAR is from 1 to 255
abbrev pub length_in : ℤ → Option ℕ
length_in (pos n) = if nat_lt 0 n && nat_le n MOST_LENGTH then Some n else None
length_in (negsuc n) = None

-- a count of rows of LOAD is from 1 to 1,000,000
abbrev pub count_in : ℤ → Option ℕ
count_in (pos n) = if nat_lt 0 n && nat_le n MOST_ROWS then Some n else None
count_in (negsuc n) = None

-- a number of a step is from 0 to 4,294,967,295
abbrev pub step_number_in : ℤ → Option ℕ
step_number_in (pos n) = if nat_le n MOST_NUMBER then Some n else None
step_number_in (negsuc n) = None

-- the list with a change in its last member
abbrev pub change_last : {A : Type 0} → (A → A) → List A → List A
change_last f [] = []
change_last f (x ∷ []) = f x ∷ []
change_last f (x ∷ y ∷ ys) = x ∷ change_last f (y ∷ ys)

abbrev pub has_change : List Change → List ℕ → Bool
has_change changes name = list_any (λ (c : Change). pointwise nat_eq c.column name) changes

-- ---- items

abbrev pub item_of : Aggregate → List ℕ → Item
item_of aggregate.Count name = item.Count name
item_of aggregate.Sum name = item.Sum name
item_of aggregate.Min name = item.Min name
item_of aggregate.Max name = item.Max name

-- ---- conditions: brackets and NOT 64 deep at most

abbrev pub not_times : ℕ → Cond → Cond
not_times zero c = c
not_times (suc n) c = cond.Not (not_times n c)

abbrev pub and_of : List Cond → Cond
and_of (c ∷ []) = c
and_of cs = cond.And cs

abbrev pub or_of : List Cond → Cond
or_of (c ∷ []) = c
or_of cs = cond.Or cs

abbrev pub with_cond : Level → Cond → Level
with_cond l c = record l { ands = l.ands ++ not_times l.nots c ∷ []; nots = 0 }

abbrev pub turned : Level → Level
turned l = record l { ors = l.ors ++ and_of l.ands ∷ []; ands = [] }

abbrev pub whole : Level → Cond
whole l = or_of (l.ors ++ and_of l.ands ∷ [])

abbrev pub with_test : Draft → Test → Draft
with_test d t = record d { level = with_cond d.level (cond.Test t) }

-- whether a bracket or a NOT more is too deep
abbrev pub is_deep : Level → Bool
is_deep l = nat_le MOST_DEPTH (l.base + l.nots)

abbrev pub negate : Draft → Option Draft
negate d = if is_deep d.level then None else Some (record d { level = record d.level { nots = d.level.nots + 1 } })

abbrev pub opened : Draft → Option Draft
opened d = if is_deep d.level then None else Some (record d { level = record no_level { base = d.level.base + d.level.nots + 1 }; outer = d.level ∷ d.outer })

abbrev pub closed : Draft → List Level → Option Draft
closed d [] = None
closed d (l ∷ ls) = Some (record d { level = with_cond l (whole d.level); outer = ls })

-- ---- the roles

unfoldable pub put : Draft → Role → Lexeme → Option Draft
put d role.Skip l = Some d
put d (role.Form f) l = Some (record d { form = f })
put d (role.Order o) l = Some (record d { directive = o })
put d role.Number l = number_in l >>= λ (n : ℤ). step_number_in n >>= λ (m : ℕ). Some (record d { count = m })
put d role.Explain l = Some (record d { explain = true })
put d role.Table l = name_in l >>= λ (n : List ℕ). Some (record d { table = n })
put d role.Name l = name_in l >>= λ (n : List ℕ). Some (record d { name = n })
put d (role.Index i) l = Some (record d { form = form.CreateIndex; index = i })
put d role.Indexed l = name_in l >>= λ (n : List ℕ). Some (record d { first = n })
put d role.Second l = name_in l >>= λ (n : List ℕ). if pointwise nat_eq d.first n then None else Some (record d { second = Some n })
put d role.Column l = name_in l >>= λ (n : List ℕ). with_column d n
put d (role.Kind k) l = Some (record d { columns = change_last (λ (c : Column). record c { kind = k }) d.columns })
put d role.Length l = number_in l >>= λ (n : ℤ). length_in n >>= λ (m : ℕ). Some (record d { columns = change_last (λ (c : Column). record c { kind = column_kind.Varchar m }) d.columns })
put d role.NotNull l = Some (record d { columns = change_last (λ (c : Column). record c { null = false }) d.columns })
put d role.Value l = value_in l >>= λ (v : Value). Some (record d { row = d.row ++ v ∷ [] })
put d role.Row l = Some (record d { rows = d.rows ++ d.row ∷ []; row = [] })
put d role.Rows l = number_in l >>= λ (n : ℤ). count_in n >>= λ (m : ℕ). Some (record d { count = m })
put d role.Changed l = name_in l >>= λ (n : List ℕ). if has_change d.changes n then None else Some (record d { changed = n })
put d role.NewValue l = value_in l >>= λ (v : Value). Some (record d { changes = d.changes ++ record { column = d.changed; value = v } ∷ [] })
put d role.Item l = name_in l >>= λ (n : List ℕ). Some (record d { items = d.items ++ item.Plain n ∷ [] })
put d role.CountAll l = Some (record d { items = d.items ++ item.CountAll ∷ [] })
put d (role.Aggregate a) l = Some (record d { aggregate = a })
put d role.Aggregated l = name_in l >>= λ (n : List ℕ). Some (record d { items = d.items ++ item_of d.aggregate n ∷ [] })
put d role.Grouped l = name_in l >>= λ (n : List ℕ). Some (record d { group = d.group ++ n ∷ [] })
put d role.Ordered l = name_in l >>= λ (n : List ℕ). Some (record d { order = d.order ++ record { column = n; desc = false } ∷ [] })
put d role.Descending l = Some (record d { order = change_last (λ (o : Order). record o { desc = true }) d.order })
put d role.Negate l = negate d
put d role.Opened l = opened d
put d role.Closed l = closed d d.outer
put d role.OrNext l = Some (record d { level = turned d.level })
put d role.Tested l = name_in l >>= λ (n : List ℕ). Some (record d { column = n; negated = false; row = [] })
put d (role.Compare o) l = Some (record d { op = o })
put d role.Compared l = value_in l >>= λ (v : Value). Some (with_test d (test.Compare d.column d.op v))
put d role.ComparedColumn l = name_in l >>= λ (n : List ℕ). Some (with_test d (test.Columns d.column d.op n))
put d role.Outside l = Some (record d { negated = true })
put d role.Low l = value_in l >>= λ (v : Value). Some (record d { low = v })
put d role.High l = value_in l >>= λ (v : Value). Some (with_test d (test.Between d.column d.negated d.low v))
put d role.Member l = value_in l >>= λ (v : Value). Some (record d { row = d.row ++ v ∷ [] })
put d role.OneOf l = Some (with_test (record d { row = [] }) (test.OneOf d.column d.negated d.row))
put d role.IsNull l = Some (with_test d (test.Null d.column d.negated))

-- what a put tells: whether the token obeys the rules, and the new draft
abbrev pub Puts : Option Draft → Bool → Draft → Type 0
Puts None obeys e = obeys ≡ false
Puts (Some d) obeys e = (obeys ≡ true) × (e ≡ d)
