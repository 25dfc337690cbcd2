-- Values, tuples, columns and changes that are spelled, taken apart.
use Rattle.std.proofs.Common.{◌≡◌, ◌<◌, ℕ, ℤ, pos, negsuc, Bool, true, false, not, ◌&&◌, List, [], ◌∷◌, ◌++◌, length, Option, Some, None, refl, sym, ap, subst, ◌∙◌, append_assoc, inl, inr, arith}
use Rattle.std.specs.Prelude.{⊤, nat_lt}
use Rattle.std.proofs.lemmas.Bool.Decides.{nat_tests}
use Rattle.iq_base.specs.declared.values.Value.{Value}
use Rattle.iq_base.specs.declared.values.Value.TheVariants as value
use Rattle.iq_base.specs.declared.values.Kind.{Kind}
use Rattle.iq_base.specs.declared.values.Kind.TheVariants as kind
use Rattle.iq_base.specs.declared.schemas.Column.{Column}
use Rattle.iq_ast.specs.declared.statements.Change.{Change}
use Rattle.iq_tokens.specs.declared.tokens.Mark.TheVariants.{Varchar, Comma, Open, Close, Equal, Null, Not}
use Rattle.iq_tokens.specs.declared.tokens.Lexeme.{Lexeme}
use Rattle.iq_tokens.specs.declared.tokens.Lexeme.TheVariants as lexeme
use Rattle.iq_tokens.specs.declared.tokens.Kind.TheVariants.{Number, Text}
use Rattle.iq_grammar.specs.declared.grammar.Part.TheVariants as part
use Rattle.iq_grammar.specs.declared.grammar.Role.{Role}
use Rattle.iq_grammar.specs.declared.grammar.Role.TheVariants as role
use Rattle.iq_grammar.specs.declared.grammar.Symbol.{Symbol}
use Rattle.iq_grammar.specs.declared.grammar.Symbol.TheVariants.{Go}
use Rattle.iq_grammar.specs.declared.draft.Draft.{Draft}
use Rattle.iq_grammar.specs.Grammar.{Line, line, line_of, lines, may_lack, acts}
use Rattle.iq_grammar.specs.Draft.{◌>>=◌, put, value_in, length_in, change_last, has_column, has_change}
use Rattle.iq_grammar.specs.Reading.{Spells}
use Rattle.iq_grammar.proofs.Steps.{and_true, not_true}
use Rattle.iq_grammar.proofs.Lists.{change_last_end}
use Rattle.iq_spelling.specs.Lists.{word, name, literal, IsLiteral}
use Rattle.iq_spelling.specs.Texts.{kind_words, IsKind, IsNullness, IsColumn, IsNewColumn, IsTuple, IsChange, IsNewChange}
use Rattle.iq_spelling.proofs.Parts.{Free}
use Rattle.iq_spelling.proofs.Items.{with_columns, column, with_rows, with_changes}
use Rattle.iq_spelling.proofs.Apart.{◌&◌, Made, if_made, unless_made, bounded_made, Each, cases, words, Front, exactly}
use Rattle.iq_spelling.proofs.Members.{Listing, Next, marked, Listed, listed, listed_alike, Steps}

-- a list without a rule, and with nothing beside it
abbrev pub plain : {A : Type 0} → (A → List Lexeme → Type 0) → (List A → Draft) → Listing A
plain {A = A} P draft = record { mark = Comma; Says = P; Rule = Free {A = A}; Beside = λ xs. ⊤; draft = λ xs s. draft xs }

-- ---- values

-- a value in a role that makes of it the draft which f says, before other lines
pub values : (d : Draft) (r : Role) (f : Value → Option Draft) → ((l : Lexeme) → put d r l ≡ (value_in l >>= f)) → (more : List Line) (ss : List Symbol) (ls : List Lexeme) (e : Draft) (C : Type 0)
    → ((v : Value) → Made (f v) (λ (g : Draft). Front (IsLiteral v) g ss ls e) → C) → Each d more ss ls e C → Each d (line_of Number r [] ∷ line_of Text r [] ∷ line Null r [] ∷ more) ss ls e C
values d r f takes more ss ls e C each others =
    (λ (n, m). each (value.Int n) (at (lexeme.Number n) (value.Int n) refl refl m))
    & (λ (t, m). each (value.Text t) (at (lexeme.Text t) (value.Text t) refl refl m))
    & (λ m. each value.Null (at (word Null) value.Null refl refl m))
    & others
  where
    fronts : (l : Lexeme) (v : Value) (o : Option Draft) → l ≡ literal v → Made o (λ (g : Draft). (us : List Lexeme) × (ls ≡ l ∷ us) × Spells g ss us e) → Made o (λ (g : Draft). Front (IsLiteral v) g ss ls e)
    fronts l v None is m = absurd m
    fronts l v (Some g) is (us, text, left) = record { text = l ∷ []; rest = us; says = ap (λ (x : Lexeme). x ∷ []) is; is = text; left = left }

    at : (l : Lexeme) (v : Value) → l ≡ literal v → value_in l ≡ Some v → Made (put d r l) (λ (g : Draft). (us : List Lexeme) × (ls ≡ l ∷ us) × Spells g ss us e) → Made (f v) (λ (g : Draft). Front (IsLiteral v) g ss ls e)
    at l v is holds m =
        fronts l v (f v) is (subst (λ (o : Option Draft). Made o (λ (g : Draft). (us : List Lexeme) × (ls ≡ l ∷ us) × Spells g ss us e)) (takes l ∙ ap (λ (o : Option Value). o >>= f) holds) m)

-- the values of a tuple or of IN
abbrev pub row_of : Draft → Listing Value
row_of d = plain IsLiteral (λ vs. record d { row = vs })

value_apart : (d : Draft) (xs : List Value) (ss : List Symbol) (ls : List Lexeme) (e : Draft) → Spells (record d { row = xs }) (Go part.Value ∷ ss) ls e → Next (row_of d) xs IsLiteral ss ls e
unfolding lines may_lack put
value_apart d xs ss ls e sp =
    cases part.Value _ ss ls e _ (
    tt
    & values _ role.Value (λ v. Some (record d { row = xs ++ v ∷ [] })) (λ l. refl) [] ss ls e _ (λ v front. record { member = v; beside = tt; rule = tt; front = front }) tt
    ) sp

member_apart : (d : Draft) (xs : List Value) (ss : List Symbol) (ls : List Lexeme) (e : Draft) → Spells (record d { row = xs }) (Go part.Member ∷ ss) ls e → Next (row_of d) xs IsLiteral ss ls e
unfolding lines may_lack put
member_apart d xs ss ls e sp =
    cases part.Member _ ss ls e _ (
    tt
    & values _ role.Member (λ v. Some (record d { row = xs ++ v ∷ [] })) (λ l. refl) [] ss ls e _ (λ v front. record { member = v; beside = tt; rule = tt; front = front }) tt
    ) sp

pub values_apart : (d : Draft) (ss : List Symbol) (ls : List Lexeme) (e : Draft) → Spells (record d { row = [] }) (Go part.Value ∷ Go part.MoreValues ∷ ss) ls e → Listed (row_of d) ss ls e
unfolding lines may_lack
values_apart d ss ls e sp = listed_alike (row_of d) part.MoreValues part.Value ss ls e (refl, refl) (λ xs s us left. value_apart d xs (Go part.MoreValues ∷ ss) us e left) tt sp

pub members_apart : (d : Draft) (ss : List Symbol) (ls : List Lexeme) (e : Draft) → Spells (record d { row = [] }) (Go part.Member ∷ Go part.MoreMembers ∷ ss) ls e → Listed (row_of d) ss ls e
unfolding lines may_lack
members_apart d ss ls e sp = listed_alike (row_of d) part.MoreMembers part.Member ss ls e (refl, refl) (λ xs s us left. member_apart d xs (Go part.MoreMembers ∷ ss) us e left) tt sp

-- ---- tuples

abbrev pub rows_of : Draft → Listing (List Value)
rows_of d = plain IsTuple (λ rs. with_rows d rs)

tuple_apart : (d : Draft) (rs : List (List Value)) (ss : List Symbol) (ls : List Lexeme) (e : Draft) → Spells (with_rows d rs) (Go part.Tuple ∷ ss) ls e → Next (rows_of d) rs IsTuple ss ls e
unfolding lines may_lack put
tuple_apart d rs ss ls e sp = cases part.Tuple _ ss ls e _ (
    tt
    & (λ (us, is, left). opened us is (values_apart (record d { rows = rs }) (acts Close role.Row ∷ ss) us e left))
    & tt
    ) sp
  where
    opened : (us : List Lexeme) → ls ≡ word Open ∷ us → Listed (row_of (record d { rows = rs })) (acts Close role.Row ∷ ss) us e → Next (rows_of d) rs IsTuple ss ls e
    opened us is vs =
        let close = words _ (acts Close role.Row ∷ []) ss vs.front.rest e vs.front.left in
        record {
          member = vs.members;
          beside = tt;
          rule = tt;
          front = record {
            text = word Open ∷ (vs.front.text ++ word Close ∷ []);
            rest = close.0;
            says = (vs.front.text, vs.front.says, refl);
            is = is ∙ ap (λ (x : List Lexeme). word Open ∷ x) (vs.front.is ∙ ap (λ (x : List Lexeme). vs.front.text ++ x) close.1 ∙ sym (append_assoc vs.front.text (word Close ∷ []) close.0));
            left = close.2;
          };
        }

pub tuples_apart : (d : Draft) (ss : List Symbol) (ls : List Lexeme) (e : Draft) → Spells (with_rows d []) (Go part.Tuple ∷ Go part.MoreTuples ∷ ss) ls e → Listed (rows_of d) ss ls e
unfolding lines may_lack
tuples_apart d ss ls e sp = listed_alike (rows_of d) part.MoreTuples part.Tuple ss ls e (refl, refl) (λ xs s us left. tuple_apart d xs (Go part.MoreTuples ∷ ss) us e left) tt sp

-- ---- columns

abbrev pub columns_of : Draft → Listing Column
columns_of d = record { mark = Comma; Says = IsColumn; Rule = IsNewColumn; Beside = λ xs. ⊤; draft = λ xs s. with_columns d xs }

-- a length is from 1 to 255
length_made : (v : ℤ) (f : ℕ → Option Draft) (P : Draft → Type 0) → Made (length_in v >>= f) P → (n : ℕ) × (v ≡ pos n) × IsKind (kind.Varchar n) × Made (f n) P
length_made (pos n) f P m = let b = bounded_made 255 n f P m in (n, refl, (b.0, b.1), b.2)
length_made (negsuc n) f P m = absurd m

abbrev of_kind : Draft → List Column → Kind → Draft
of_kind d cs k = with_columns d (change_last (λ (c : Column). record c { kind = k }) cs)

kind_apart : (d : Draft) (cs : List Column) (ss : List Symbol) (ls : List Lexeme) (e : Draft) → Spells (with_columns d cs) (Go part.Kind ∷ ss) ls e
    → (k : Kind) × IsKind k × Front (λ (a : List Lexeme). a ≡ kind_words k) (of_kind d cs k) ss ls e
unfolding lines may_lack put
kind_apart d cs ss ls e sp =
    cases part.Kind _ ss ls e _ (
    tt
    & (λ (us, is, left). (kind.Int, tt, exactly (kind_words kind.Int) _ ss ls us e is left))
    & (λ (us, is, left). (kind.Big, tt, exactly (kind_words kind.Big) _ ss ls us e is left))
    & (λ (v, m). varchar v (length_made v _ _ m))
    & tt
    ) sp
  where
    varchar : (v : ℤ)
        → (n : ℕ) × (v ≡ pos n) × IsKind (kind.Varchar n) × ((us : List Lexeme) × (ls ≡ word Varchar ∷ word Open ∷ lexeme.Number v ∷ word Close ∷ us) × Spells (of_kind d cs (kind.Varchar n)) ss us e)
        → (k : Kind) × IsKind k × Front (λ (a : List Lexeme). a ≡ kind_words k) (of_kind d cs k) ss ls e
    varchar v (n, is, fits, (us, text, left)) =
        (kind.Varchar n, fits, exactly (kind_words (kind.Varchar n)) _ ss ls us e (text ∙ ap (λ (x : ℤ). word Varchar ∷ word Open ∷ lexeme.Number x ∷ word Close ∷ us) is) left)

nullness_apart : (d : Draft) (cs : List Column) (n : List ℕ) (k : Kind) (ss : List Symbol) (ls : List Lexeme) (e : Draft) → Spells (with_columns d (cs ++ column n k true ∷ [])) (Go part.Nullness ∷ ss) ls e
    → (b : Bool) × Front (IsNullness b) (with_columns d (cs ++ column n k b ∷ [])) ss ls e
unfolding lines may_lack put
nullness_apart d cs n k ss ls e sp =
    cases part.Nullness _ ss ls e _ (
    (λ left. (true, record { text = []; rest = ls; says = inl refl; is = refl; left = left }))
    & (λ (us, is, left). (true, record { text = word Null ∷ []; rest = us; says = inr refl; is = is; left = left }))
    & (λ (us, is, left). (false, exactly (word Not ∷ word Null ∷ []) _ ss ls us e is (subst (λ (l : List Column). Spells (with_columns d l) ss us e) (change_last_end (λ (c : Column). record c { null = false }) cs (column n k true)) left)))
    & tt
    ) sp

column_apart : (d : Draft) (cs : List Column) (ss : List Symbol) (ls : List Lexeme) (e : Draft) → Spells (with_columns d cs) (Go part.Column ∷ ss) ls e → Next (columns_of d) cs IsColumn ss ls e
unfolding lines may_lack put
column_apart d cs ss ls e sp = cases part.Column _ ss ls e _ (
    tt
    & (λ (n, m). let given = if_made _ _ _ m in named n given.0 given.1.0 given.1.1 given.1.2)
    & tt
    ) sp
  where
    named : (n : List ℕ) → nat_lt (length cs) 32 && not (has_column cs n) ≡ true → (us : List Lexeme) → ls ≡ name n ∷ us
        → Spells (with_columns d (cs ++ column n kind.Int true ∷ [])) (Go part.Kind ∷ Go part.Nullness ∷ ss) us e → Next (columns_of d) cs IsColumn ss ls e
    named n allowed us is left =
        let both = and_true (nat_lt (length cs) 32) (not (has_column cs n)) allowed in
        let few : length cs < 32 = grind (arith, nat_tests, both.0) in
        let kinds = kind_apart d (cs ++ column n kind.Int true ∷ []) (Go part.Nullness ∷ ss) us e left in
        let of_last = subst (λ (l : List Column). Spells (with_columns d l) (Go part.Nullness ∷ ss) kinds.2.rest e) (change_last_end (λ (c : Column). record c { kind = kinds.0 }) cs (column n kind.Int true)) kinds.2.left in
        let nulls = nullness_apart d cs n kinds.0 ss kinds.2.rest e of_last in
        record {
          member = column n kinds.0 nulls.0;
          beside = tt;
          rule = (few, not_true (has_column cs n) both.1);
          front = record {
            text = name n ∷ (kind_words kinds.0 ++ nulls.1.text);
            rest = nulls.1.rest;
            says = (nulls.1.text, kinds.1, nulls.1.says, refl);
            is = is ∙ ap (λ (x : List Lexeme). name n ∷ x) (kinds.2.is ∙ ap (λ (x : List Lexeme). x ++ kinds.2.rest) kinds.2.says ∙ ap (λ (x : List Lexeme). kind_words kinds.0 ++ x) nulls.1.is ∙ sym (append_assoc (kind_words kinds.0) nulls.1.text nulls.1.rest));
            left = nulls.1.left;
          };
        }

pub columns_apart : (d : Draft) (ss : List Symbol) (ls : List Lexeme) (e : Draft) → Spells (with_columns d []) (Go part.Column ∷ Go part.MoreColumns ∷ ss) ls e → Listed (columns_of d) ss ls e
unfolding lines may_lack
columns_apart d ss ls e sp = listed_alike (columns_of d) part.MoreColumns part.Column ss ls e (refl, refl) (λ xs s us left. column_apart d xs (Go part.MoreColumns ∷ ss) us e left) tt sp

-- ---- changes

abbrev pub changes_of : Draft → Listing Change
changes_of d = record { mark = Comma; Says = IsChange; Rule = IsNewChange; Beside = λ xs. List ℕ; draft = λ xs n. with_changes d n xs }

-- a change from the value on
new_value_apart : (d : Draft) (n : List ℕ) (cs : List Change) (ss : List Symbol) (ls : List Lexeme) (e : Draft) → Spells (with_changes d n cs) (Go part.NewValue ∷ ss) ls e
    → (v : Value) × Front (IsLiteral v) (with_changes d n (cs ++ record { column = n; value = v } ∷ [])) ss ls e
unfolding lines may_lack put
new_value_apart d n cs ss ls e sp =
    cases part.NewValue _ ss ls e _ (
    tt
    & values _ role.NewValue (λ v. Some (with_changes d n (cs ++ record { column = n; value = v } ∷ []))) (λ l. refl) [] ss ls e _ (λ v front. (v, front)) tt
    ) sp

-- a change, seen from its column on
change_apart : (d : Draft) (cs : List Change) (m : List ℕ) (ss : List Symbol) (ls us : List Lexeme) (e : Draft) → has_change cs m ≡ false → ls ≡ name m ∷ word Equal ∷ us
    → Spells (with_changes d m cs) (Go part.NewValue ∷ ss) us e → Next (changes_of d) cs IsChange ss ls e
change_apart d cs m ss ls us e new is left =
    let v = new_value_apart d m cs ss us e left in
    record {
      member = record { column = m; value = v.0 };
      beside = m;
      rule = new;
      front = record {
        text = name m ∷ word Equal ∷ literal v.0 ∷ [];
        rest = v.1.rest;
        says = refl;
        is = is ∙ ap (λ (x : List Lexeme). name m ∷ word Equal ∷ x) (v.1.is ∙ ap (λ (x : List Lexeme). x ++ v.1.rest) v.1.says);
        left = v.1.left;
      };
    }

next_change : (d : Draft) (ss : List Symbol) (e : Draft) → Steps (changes_of d) part.MoreChanges ss e
unfolding lines may_lack put
next_change d ss e xs n ls sp =
    cases part.MoreChanges _ ss ls e _ (
    (λ left. inl left)
    & (λ (m, made). let given = unless_made _ _ _ made in inr (marked (changes_of d) xs (Go part.MoreChanges ∷ ss) ls (name m ∷ word Equal ∷ given.1.0) e given.1.1
    (change_apart d xs m (Go part.MoreChanges ∷ ss) (name m ∷ word Equal ∷ given.1.0) given.1.0 e given.0 refl given.1.2)))
    & tt
    ) sp

-- all changes, from the first one's value on
pub changes_apart : (d : Draft) (m : List ℕ) (ss : List Symbol) (us : List Lexeme) (e : Draft) → Spells (with_changes d m []) (Go part.NewValue ∷ Go part.MoreChanges ∷ ss) us e
    → Listed (changes_of d) ss (name m ∷ word Equal ∷ us) e
changes_apart d m ss us e sp =
    listed (changes_of d) part.MoreChanges ss (name m ∷ word Equal ∷ us) e (next_change d ss e) (change_apart d [] m (Go part.MoreChanges ∷ ss) (name m ∷ word Equal ∷ us) us e refl refl sp)
