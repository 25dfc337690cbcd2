-- One token ahead is enough: what the tables say of each part, and that the step from left to right misses nothing.
use Rattle.std.proofs.Common.{◌≡◌, Bool, true, false, not, cond, ◌&&◌, ◌||◌, List, [], ◌∷◌, ◌++◌, Option, Some, None, refl, sym, ap, subst, inl, inr, ⊎_elim, append_assoc}
use Rattle.std.specs.Prelude.{⊤, map}
use Rattle.iq_tokens.specs.declared.tokens.Kind.{Kind}
use Rattle.iq_tokens.specs.declared.tokens.Kind.TheVariants.{Mark as the_mark, Name, Number, Text}
use Rattle.iq_tokens.specs.declared.tokens.Mark.{Mark}
use Rattle.iq_tokens.specs.declared.tokens.Mark.TheVariants.{From, Close, Comma, Null, Not, Group, Order, Where, And, Or, Semicolon, Other, Bad}
use Rattle.iq_tokens.specs.declared.tokens.Lexeme.{Lexeme}
use Rattle.iq_tokens.specs.Kinds.{same, kind_of, same_mark}
use Rattle.iq_grammar.specs.declared.grammar.Role.{Role}
use Rattle.iq_grammar.specs.declared.grammar.Part.{Part}
use Rattle.iq_grammar.specs.declared.grammar.Part.TheVariants as part
use Rattle.iq_grammar.specs.declared.grammar.Symbol.{Symbol}
use Rattle.iq_grammar.specs.declared.grammar.Symbol.TheVariants.{Word, Go}
use Rattle.iq_grammar.specs.Grammar.{Line, line_of, lines, may_lack, IsAmong, Sign, sign, Fits, taken, chosen, lacking, beginning, begun, after, can_end}
use Rattle.iq_grammar.proofs.Forms.{beginning_among}
use Rattle.iq_grammar.proofs.Steps.{not_true, and_true, or_true, or_left, or_right, some_is, chosen_some, same_is}

-- the marks that may stand behind a part
unfoldable pub marks_behind : Part → List Mark
marks_behind part.Statement = Semicolon ∷ []
marks_behind part.Directive = Semicolon ∷ []
marks_behind part.Declared = Semicolon ∷ []
marks_behind part.Status = Semicolon ∷ []
marks_behind part.BackTo = Semicolon ∷ []
marks_behind part.Created = Semicolon ∷ []
marks_behind part.OneColumn = Semicolon ∷ []
marks_behind part.Column = Comma ∷ Close ∷ []
marks_behind part.MoreColumns = Close ∷ []
marks_behind part.Kind = Null ∷ Not ∷ Comma ∷ Close ∷ []
marks_behind part.Nullness = Comma ∷ Close ∷ []
marks_behind part.Dropped = Semicolon ∷ []
marks_behind part.Tuple = Comma ∷ Semicolon ∷ []
marks_behind part.MoreTuples = Semicolon ∷ []
marks_behind part.Value = Comma ∷ Close ∷ []
marks_behind part.MoreValues = Close ∷ []
marks_behind part.NewValue = Comma ∷ Where ∷ Semicolon ∷ []
marks_behind part.MoreChanges = Where ∷ Semicolon ∷ []
marks_behind part.Query = Semicolon ∷ []
marks_behind part.From = Semicolon ∷ []
marks_behind part.MoreItems = From ∷ []
marks_behind part.Item = Comma ∷ From ∷ []
marks_behind part.Counted = Close ∷ []
marks_behind part.GroupBy = Order ∷ Semicolon ∷ []
marks_behind part.MoreGroups = Order ∷ Semicolon ∷ []
marks_behind part.OrderBy = Semicolon ∷ []
marks_behind part.MoreOrders = Semicolon ∷ []
marks_behind part.Way = Comma ∷ Semicolon ∷ []
marks_behind part.Where = Group ∷ Order ∷ Semicolon ∷ []
marks_behind part.Condition = And ∷ Or ∷ Group ∷ Order ∷ Close ∷ Semicolon ∷ []
marks_behind part.MoreAnd = Or ∷ Group ∷ Order ∷ Close ∷ Semicolon ∷ []
marks_behind part.MoreOr = Group ∷ Order ∷ Close ∷ Semicolon ∷ []
marks_behind part.Test = And ∷ Or ∷ Group ∷ Order ∷ Close ∷ Semicolon ∷ []
marks_behind part.Within = And ∷ Or ∷ Group ∷ Order ∷ Close ∷ Semicolon ∷ []
marks_behind part.Nulled = And ∷ Or ∷ Group ∷ Order ∷ Close ∷ Semicolon ∷ []
marks_behind part.Operand = And ∷ Or ∷ Group ∷ Order ∷ Close ∷ Semicolon ∷ []
marks_behind part.Low = And ∷ []
marks_behind part.High = And ∷ Or ∷ Group ∷ Order ∷ Close ∷ Semicolon ∷ []
marks_behind part.Member = Comma ∷ Close ∷ []
marks_behind part.MoreMembers = Close ∷ []
marks_behind part.End = []

unfoldable pub follow : Part → List Kind
follow p = map (λ (m : Mark). the_mark m) (marks_behind p)

-- ---- the test of the tables

abbrev pub has : List Kind → Kind → Bool
has [] k = false
has (j ∷ js) k = same k j || has js k

abbrev pub covers : List Kind → List Kind → Bool
covers js [] = true
covers js (k ∷ ks) = has js k && covers js ks

abbrev apart : List Line → List Kind → Bool
apart [] ks = true
apart (l ∷ ls) ks = not (has ks l.kind) && apart ls ks

abbrev begins : List Line → Kind → Bool
begins [] k = false
begins (l ∷ ls) k = same k l.kind || begins ls k

abbrev distinct : List Line → Bool
distinct [] = true
distinct (l ∷ ls) = not (begins ls l.kind) && distinct ls

abbrev pub kinds : List Line → List Kind
kinds [] = []
kinds (l ∷ ls) = l.kind ∷ kinds ls

unfoldable pub firsts : List Symbol → List Kind
firsts [] = []
firsts (Word k r ∷ ss) = k ∷ []
firsts (Go p ∷ ss) = kinds (lines p) ++ cond (may_lack p) (firsts ss) []

-- a kind that tokens of a text may have
abbrev pub is_real : Kind → Bool
is_real (the_mark m) = not (same_mark m Other) && not (same_mark m Bad)
is_real Name = true
is_real Number = true
is_real Text = true

-- what stands behind each part within these symbols is in its list, if the kinds behind them all are these
unfoldable pub closed : List Kind → List Symbol → Bool
closed f [] = true
closed f (Word k r ∷ ss) = is_real k && closed f ss
closed f (Go p ∷ ss) = covers (follow p) (firsts ss ++ cond (can_end ss) f []) && closed f ss

abbrev all_closed : List Kind → List Line → Bool
all_closed f [] = true
all_closed f (l ∷ ls) = closed f l.rest && all_closed f ls

abbrev part_is_sound : Part → Bool
part_is_sound p = all_closed (follow p) (lines p) && (distinct (lines p) && (not (may_lack p) || apart (lines p) (follow p)))

sound : (p : Part) → part_is_sound p ≡ true
unfolding lines may_lack follow marks_behind closed firsts can_end same same_mark
sound part.Statement = refl
sound _ = refl

-- ---- what it means

abbrev pub found : Option Line → Bool
found None = false
found (Some l) = true

-- whether a token of the kind may stand at these symbols
abbrev pub may_begin : List Symbol → Kind → Bool
may_begin ss k = found (after ss k)

abbrev pub Apart : List Symbol → Type 0
Apart [] = ⊤
Apart (Word k r ∷ ss) = (is_real k ≡ true) × Apart ss
Apart (Go p ∷ ss) = ((k : Kind) → may_begin ss k ≡ true → has (follow p) k ≡ true) × Apart ss

has-append_left : (js ks : List Kind) (k : Kind) → has js k ≡ true → has (js ++ ks) k ≡ true
has-append_left [] ks k h = absurd cc
has-append_left (j ∷ js) ks k h = ⊎_elim (or_left _ _) (λ rest. or_right _ _ (has-append_left js ks k rest)) (or_true _ _ h)

has-append_right : (js ks : List Kind) (k : Kind) → has ks k ≡ true → has (js ++ ks) k ≡ true
has-append_right [] ks k h = h
has-append_right (j ∷ js) ks k h = or_right _ _ (has-append_right js ks k h)

covers_has : (js ks : List Kind) (k : Kind) → covers js ks ≡ true → has ks k ≡ true → has js k ≡ true
covers_has js [] k c h = absurd cc
covers_has js (x ∷ xs) k c h =
    let both = and_true _ _ c in
    ⊎_elim (λ one. subst (λ (y : Kind). has js y ≡ true) (sym (same_is k x one)) both.0) (λ rest. covers_has js xs k both.1 rest) (or_true _ _ h)

-- a kind that begins one of the lines
beginning_has : (k : Kind) (ls : List Line) → found (beginning k ls) ≡ true → has (kinds ls) k ≡ true
beginning_has k [] h = absurd cc
beginning_has k (l ∷ ls) h = beginning_has_case (same k l.kind) (beginning k ls) (has (kinds ls) k) (beginning_has k ls) h
  where
    beginning_has_case : (b : Bool) (o : Option Line) (c : Bool) → (found o ≡ true → c ≡ true) → found (cond b (Some l) o) ≡ true → b || c ≡ true
    beginning_has_case true o c others h = refl
    beginning_has_case false o c others h = others h

-- what begins these symbols is in their list, or begins what stands behind them
go_says : (p : Part) (xs ss : List Symbol) (f : List Kind) (k : Kind) (b : Bool) (o : Option Line) → beginning k (lines p) ≡ o
    → (may_begin (xs ++ ss) k ≡ true → has (firsts xs ++ cond (can_end xs) f []) k ≡ true)
    → found (begun o b (xs ++ ss) (after (xs ++ ss) k)) ≡ true → has ((kinds (lines p) ++ cond b (firsts xs) []) ++ cond (b && can_end xs) f []) k ≡ true
go_says p xs ss f k b (Some l) is others h = has-append_left _ _ k (has-append_left _ _ k (beginning_has k (lines p) (rw is refl)))
go_says p xs ss f k true None is others h =
    subst (λ (ks : List Kind). has ks k ≡ true) (sym (append_assoc (kinds (lines p)) (firsts xs) (cond (can_end xs) f []))) (has-append_right (kinds (lines p)) _ k (others h))
go_says p xs ss f k false None is others h = absurd cc

word_says : (k j : Kind) (r : Role) (ss : List Symbol) → found (cond (same k j) (Some (line_of j r ss)) None) ≡ true → has (j ∷ []) k ≡ true
word_says k j r ss h = word_case (same k j) h
  where
    word_case : (b : Bool) → found (cond b (Some (line_of j r ss)) None) ≡ true → b || false ≡ true
    word_case true h = refl
    word_case false h = h

firsts_say : (xs ss : List Symbol) (f : List Kind) (k : Kind) → ((j : Kind) → may_begin ss j ≡ true → has f j ≡ true)
    → may_begin (xs ++ ss) k ≡ true → has (firsts xs ++ cond (can_end xs) f []) k ≡ true
unfolding after firsts can_end
firsts_say [] ss f k behind h = behind k h
firsts_say (Word j r ∷ xs) ss f k behind h = word_says k j r (xs ++ ss) h
firsts_say (Go p ∷ xs) ss f k behind h = go_says p xs ss f k (may_lack p) (beginning k (lines p)) refl (firsts_say xs ss f k behind) h

apart_append : (xs ss : List Symbol) (f : List Kind) → ((j : Kind) → may_begin ss j ≡ true → has f j ≡ true) → closed f xs ≡ true → Apart ss → Apart (xs ++ ss)
unfolding closed
apart_append [] ss f behind c a = a
apart_append (Word j r ∷ xs) ss f behind c a = let both = and_true (is_real j) (closed f xs) c in (both.0, apart_append xs ss f behind both.1 a)
apart_append (Go p ∷ xs) ss f behind c a =
    let both = and_true _ _ c in
    (λ k h. covers_has (follow p) _ k both.0 (firsts_say xs ss f k behind h), apart_append xs ss f behind both.1 a)

line_closed : (f : List Kind) (ls : List Line) (l : Line) → all_closed f ls ≡ true → IsAmong ls l → closed f l.rest ≡ true
line_closed f [] l c among = absurd among
line_closed f (x ∷ xs) l c (inl is) = subst (λ (y : Line). closed f y.rest ≡ true) is (and_true _ _ c).0
line_closed f (x ∷ xs) l c (inr among) = line_closed f xs l (and_true _ _ c).1 among

-- behind a line of a part
line_apart : (p : Part) (l : Line) (ss : List Symbol) → IsAmong (lines p) l → Apart (Go p ∷ ss) → Apart (l.rest ++ ss)
line_apart p l ss among a = apart_append l.rest ss (follow p) a.0 (line_closed (follow p) (lines p) l (and_true _ _ (sound p)).0 among) a.1

go_apart : (p : Part) (ss : List Symbol) (k : Kind) (l : Line) (o : Option Line) (b : Bool) → beginning k (lines p) ≡ o → Apart (Go p ∷ ss)
    → (after ss k ≡ Some l → Apart l.rest) → begun o b ss (after ss k) ≡ Some l → Apart l.rest
go_apart p ss k l (Some x) b is a others e = subst (λ (y : Line). Apart y.rest) (some_is _ _ e) (line_apart p x ss (beginning_among k (lines p) x is).0 a)
go_apart p ss k l None true is a others e = others e
go_apart p ss k l None false is a others e = absurd cc

-- what has to follow is apart again
pub after_apart : (ss : List Symbol) (k : Kind) (l : Line) → Apart ss → after ss k ≡ Some l → Apart l.rest
unfolding after
after_apart [] k l a e = absurd cc
after_apart (Word j r ∷ ss) k l a e = subst (λ (y : Line). Apart y.rest) (chosen_some _ _ _ e).1 a.1
after_apart (Go p ∷ ss) k l a e = go_apart p ss k l (beginning k (lines p)) (may_lack p) refl a (after_apart ss k l a.1) e

-- ---- nothing is missed

pub record StepsTo (ss : List Symbol) (r : Role) (t : Lexeme) (ms : List Sign) : Type 0 where
  pub to : Line
  pub is : after ss (kind_of t) ≡ Some to
  pub role : to.role ≡ r
  pub fits : Fits to.rest ms

pub word_taken : (k : Kind) (q : Role) (ss : List Symbol) (r : Role) (t : Lexeme) (ms : List Sign) → Fits (Word k q ∷ ss) (sign r t ∷ ms)
    → (same (kind_of t) k ≡ true) × (q ≡ r) × Fits ss ms
word_taken k q ss r t ms (taken _ _ _ _ _ is fit) = (is, refl, fit)

begins_among : (k : Kind) (ls : List Line) (l : Line) → IsAmong ls l → same k l.kind ≡ true → begins ls k ≡ true
begins_among k [] l among h = absurd among
begins_among k (x ∷ xs) l (inl is) h = or_left _ _ (subst (λ (y : Line). same k y.kind ≡ true) (sym is) h)
begins_among k (x ∷ xs) l (inr among) h = or_right _ _ (begins_among k xs l among h)

another_case : (k : Kind) (x : Line) (xs : List Line) (l : Line) (b : Bool) → same k x.kind ≡ b → begins xs x.kind ≡ false → begins xs k ≡ true
    → beginning k xs ≡ Some l → cond b (Some x) (beginning k xs) ≡ Some l
another_case k x xs l true here none some rest =
    let no : begins xs k ≡ false = subst (λ (j : Kind). begins xs j ≡ false) (sym (same_is k x.kind here)) none in absurd cc
another_case k x xs l false here none some rest = rest

beginning_is : (k : Kind) (ls : List Line) (l : Line) → distinct ls ≡ true → IsAmong ls l → same k l.kind ≡ true → beginning k ls ≡ Some l
beginning_is k [] l d among h = absurd among
beginning_is k (x ∷ xs) l d (inl is) h = let here : same k x.kind ≡ true = subst (λ (y : Line). same k y.kind ≡ true) (sym is) h in rw here (ap Some is)
beginning_is k (x ∷ xs) l d (inr among) h =
    let both = and_true (not (begins xs x.kind)) (distinct xs) d in
    another_case k x xs l (same k x.kind) refl (not_true (begins xs x.kind) both.0) (begins_among k xs l among h) (beginning_is k xs l both.1 among h)

-- no line of a part begins with a kind that may stand behind it, if it may lack
pub apart_none : (k : Kind) (ls : List Line) (ks : List Kind) → apart ls ks ≡ true → has ks k ≡ true → beginning k ls ≡ None
apart_none k [] ks a h = refl
apart_none k (x ∷ xs) ks a h =
    let both = and_true (not (has ks x.kind)) (apart xs ks) a in
    apart_case k x xs ks (same k x.kind) refl (not_true (has ks x.kind) both.0) h (apart_none k xs ks both.1 h)
  where
    apart_case : (k : Kind) (x : Line) (xs : List Line) (ks : List Kind) (b : Bool) → same k x.kind ≡ b → has ks x.kind ≡ false → has ks k ≡ true → beginning k xs ≡ None
        → cond b (Some x) (beginning k xs) ≡ None
    apart_case k x xs ks true here none some rest =
        let no : has ks k ≡ false = subst (λ (j : Kind). has ks j ≡ false) (sym (same_is k x.kind here)) none in absurd cc
    apart_case k x xs ks false here none some rest = rest

pub lack_apart : (p : Part) → may_lack p ≡ true → apart (lines p) (follow p) ≡ true
lack_apart p lack =
    let three = and_true (all_closed (follow p) (lines p)) _ (sound p) in
    let two = and_true (distinct (lines p)) (not (may_lack p) || apart (lines p) (follow p)) three.1 in
    ⊎_elim (λ no. absurd (lack_not (may_lack p) lack no)) (λ yes. yes) (or_true (not (may_lack p)) _ two.1)
  where
    lack_not : (b : Bool) → b ≡ true → not b ≡ true → ⊥
    lack_not true e f = let no : false ≡ true = f in cc
    lack_not false e f = let no : false ≡ true = e in cc

part_distinct : (p : Part) → distinct (lines p) ≡ true
part_distinct p = (and_true (distinct (lines p)) _ (and_true (all_closed (follow p) (lines p)) _ (sound p)).1).0

pub step_taken : (ss : List Symbol) (r : Role) (t : Lexeme) (ms : List Sign) → Fits ss (sign r t ∷ ms) → Apart ss → StepsTo ss r t ms
unfolding after
step_taken _ r t ms (taken k _ _ ss _ is fit) a = record { to = line_of k r ss; is = rw is refl; role = refl; fits = fit }
step_taken _ r t ms (chosen p l ss _ among fit) a =
    let w = word_taken l.kind l.role (l.rest ++ ss) r t ms fit in
    let here : beginning (kind_of t) (lines p) ≡ Some l = beginning_is (kind_of t) (lines p) l (part_distinct p) among w.0 in
    record { to = line_of l.kind l.role (l.rest ++ ss); is = rw here refl; role = w.1; fits = w.2 }
step_taken _ r t ms (lacking p ss _ lack fit) a =
    let s = step_taken ss r t ms fit a.1 in
    let may : may_begin ss (kind_of t) ≡ true = rw s.is refl in
    let none : beginning (kind_of t) (lines p) ≡ None = apart_none (kind_of t) (lines p) (follow p) (lack_apart p lack) (a.0 (kind_of t) may) in
    record { to = s.to; is = rw (none, lack) s.is; role = s.role; fits = s.fits }

none_behind : (j : Kind) → may_begin [] j ≡ true → has [] j ≡ true
unfolding after
none_behind j h = absurd cc

-- symbols whose parts are told by the tables, with nothing behind them
pub closed_apart : (ss : List Symbol) → closed [] ss ≡ true → Apart (ss ++ [])
closed_apart ss c = apart_append ss [] [] none_behind c tt
