-- Conditions that are spelled, taken apart.
use Rattle.std.proofs.Common.{◌≡◌, ℕ, zero, suc, ◌+◌, Bool, true, false, List, [], ◌∷◌, ◌++◌, Option, Some, None, refl, sym, ap, subst, ◌∙◌, append_assoc, inl, inr, arith}
use Rattle.std.specs.Prelude.{if◌then◌else◌}
use Rattle.std.proofs.lemmas.Bool.Decides.{nat_tests}
use Rattle.iq_base.specs.declared.values.Value.{Value}
use Rattle.iq_ast.specs.declared.conditions.Op.{Op}
use Rattle.iq_ast.specs.declared.conditions.Op.TheVariants as op
use Rattle.iq_ast.specs.declared.conditions.Test.{Test}
use Rattle.iq_ast.specs.declared.conditions.Test.TheVariants as test
use Rattle.iq_ast.specs.declared.conditions.Cond.{Cond}
use Rattle.iq_ast.specs.declared.conditions.Cond.TheVariants as cond
use Rattle.iq_tokens.specs.declared.tokens.Mark.TheVariants.{Where, And, Or, Not, Open, Close, Null, Between, In, Is}
use Rattle.iq_tokens.specs.declared.tokens.Kind.TheVariants.{Name}
use Rattle.iq_tokens.specs.declared.tokens.Lexeme.{Lexeme}
use Rattle.iq_grammar.specs.declared.grammar.Part.TheVariants as part
use Rattle.iq_grammar.specs.declared.grammar.Role.TheVariants as role
use Rattle.iq_grammar.specs.declared.grammar.Symbol.{Symbol}
use Rattle.iq_grammar.specs.declared.grammar.Symbol.TheVariants.{Go}
use Rattle.iq_grammar.specs.declared.draft.Draft.{Draft}
use Rattle.iq_grammar.specs.declared.draft.Level.{Level}
use Rattle.iq_grammar.specs.Grammar.{line_of, lines, may_lack, acts, word as passed}
use Rattle.iq_grammar.specs.Draft.{put, with_cond, with_test, and_of, or_of, whole, no_level, is_deep}
use Rattle.iq_grammar.specs.Reading.{Spells}
use Rattle.iq_spelling.specs.Lists.{word, name, literal, maybe_not, IsLiteral, AreJoined}
use Rattle.iq_spelling.specs.Conditions.{op_mark, IsTest, IsConjunction, IsDisjunction, IsNegation}
use Rattle.iq_grammar.specs.Statements.{where_of}
use Rattle.iq_spelling.specs.Texts.{IsWhere}
use Rattle.iq_spelling.proofs.Parts.{Free}
use Rattle.iq_spelling.proofs.Tested.{Scratch, with_level, tested, not_more}
use Rattle.iq_spelling.proofs.Clauses.{where_some}
use Rattle.iq_spelling.proofs.Apart.{◌&◌, Made, Each, cases, words, unless_made, Front, exactly}
use Rattle.iq_spelling.proofs.Members.{Listing, Next, marked, Listed, listed, listed_alike, Steps}
use Rattle.iq_spelling.proofs.ApartWrites.{values, members_apart}

-- ---- tests

-- the tokens behind the name of a column begin with the rest of a test, which is a member of the level
pub record Tests (d : Draft) (c : List ℕ) (ss : List Symbol) (ls : List Lexeme) (e : Draft) : Type 0 where
  pub test : Test
  pub scratch : Scratch
  pub front : Front (λ (a : List Lexeme). IsTest test (name c ∷ a)) (with_level d (with_cond d.level (cond.Test test)) scratch) ss ls e

-- what stands in a draft beside its level
abbrev scratch_of : Draft → Scratch
scratch_of d = record { column = d.column; op = d.op; negated = d.negated; low = d.low; row = d.row }

-- the rest of a test that is known
a_test : (d : Draft) (c : List ℕ) (t : Test) (s : Scratch) (a : List Lexeme) (ss : List Symbol) (ls us : List Lexeme) (e : Draft) → IsTest t (name c ∷ a) → ls ≡ a ++ us
    → Spells (with_level d (with_cond d.level (cond.Test t)) s) ss us e → Tests d c ss ls e
a_test d c t s a ss ls us e says is left = record { test = t; scratch = s; front = record { text = a; rest = us; says = says; is = is; left = left } }

-- a comparison with a value or a column
operand_apart : (d : Draft) (c : List ℕ) (o : Op) (ss : List Symbol) (ls us : List Lexeme) (e : Draft) → ls ≡ word (op_mark o) ∷ us → Spells (record (tested d c false) { op = o }) (Go part.Operand ∷ ss) us e → Tests d c ss ls e
unfolding lines may_lack put
operand_apart d c o ss ls us e is sp =
    cases part.Operand _ ss us e _ (
    tt
    & values _ role.Compared (λ v. Some (with_test (record (tested d c false) { op = o }) (test.Compare c o v))) (λ l. refl) (line_of Name role.ComparedColumn [] ∷ []) ss us e _
    (λ v front. a_test d c (test.Compare c o v) (scratch_of (record (tested d c false) { op = o })) (word (op_mark o) ∷ front.text) ss ls front.rest e
    (ap (λ (x : List Lexeme). name c ∷ word (op_mark o) ∷ x) front.says) (is ∙ ap (λ (x : List Lexeme). word (op_mark o) ∷ x) front.is) front.left) (
      λ (n, (vs, named, left)). a_test d c (test.Columns c o n) (scratch_of (record (tested d c false) { op = o })) (word (op_mark o) ∷ name n ∷ []) ss ls vs e refl (is ∙ ap (λ (x : List Lexeme). word (op_mark o) ∷ x) named) left,
      tt,
    )
    ) sp

-- the lower value of BETWEEN, and AND
low_apart : (d : Draft) (ss : List Symbol) (ls : List Lexeme) (e : Draft) → Spells d (Go part.Low ∷ passed And ∷ ss) ls e → (v : Value) × Front (λ (a : List Lexeme). a ≡ literal v ∷ word And ∷ []) (record d { low = v }) ss ls e
unfolding lines may_lack put
low_apart d ss ls e sp =
    cases part.Low _ (passed And ∷ ss) ls e _ (
    tt
    & values d role.Low (λ v. Some (record d { low = v })) (λ l. refl) [] (passed And ∷ ss) ls e _ (λ v front. behind v front) tt
    ) sp
  where
    behind : (v : Value) → Front (IsLiteral v) (record d { low = v }) (passed And ∷ ss) ls e → (w : Value) × Front (λ (a : List Lexeme). a ≡ literal w ∷ word And ∷ []) (record d { low = w }) ss ls e
    behind v front =
        let after = words _ (passed And ∷ []) ss front.rest e front.left in
        (v, exactly (literal v ∷ word And ∷ []) _ ss ls after.0 e (front.is ∙ ap (λ (x : List Lexeme). x ++ front.rest) front.says ∙ ap (λ (x : List Lexeme). literal v ∷ x) after.1) after.2)

-- BETWEEN from its lower value on
between_apart : (d : Draft) (c : List ℕ) (b : Bool) (ss : List Symbol) (ls us : List Lexeme) (e : Draft) → ls ≡ maybe_not b ++ word Between ∷ us
    → Spells (tested d c b) (Go part.Low ∷ passed And ∷ Go part.High ∷ ss) us e → Tests d c ss ls e
unfolding lines may_lack put
between_apart d c b ss ls us e is sp = with_low (low_apart (tested d c b) (Go part.High ∷ ss) us e sp)
  where
    with_low : (low : Value) × Front (λ (a : List Lexeme). a ≡ literal low ∷ word And ∷ []) (record (tested d c b) { low = low }) (Go part.High ∷ ss) us e → Tests d c ss ls e
    with_low (low, first) =
        cases part.High _ ss first.rest e _ (
        tt
        & values _ role.High (λ v. Some (with_test (record (tested d c b) { low = low }) (test.Between c b low v))) (λ l. refl) [] ss first.rest e _
        (λ high front. a_test d c (test.Between c b low high) (scratch_of (record (tested d c b) { low = low })) (maybe_not b ++ word Between ∷ literal low ∷ word And ∷ literal high ∷ []) ss ls front.rest e refl
        (is ∙ ap (λ (x : List Lexeme). maybe_not b ++ word Between ∷ x) (first.is ∙ ap (λ (x : List Lexeme). x ++ first.rest) first.says ∙ ap (λ (x : List Lexeme). literal low ∷ word And ∷ x) (front.is ∙ ap (λ (x : List Lexeme). x ++ front.rest) front.says))
        ∙ sym (append_assoc (maybe_not b) (word Between ∷ literal low ∷ word And ∷ literal high ∷ []) front.rest)) front.left)
        tt
        ) first.left

-- IN from its first member on
in_apart : (d : Draft) (c : List ℕ) (b : Bool) (ss : List Symbol) (ls us : List Lexeme) (e : Draft) → ls ≡ maybe_not b ++ word In ∷ word Open ∷ us
    → Spells (tested d c b) (Go part.Member ∷ Go part.MoreMembers ∷ acts Close role.OneOf ∷ ss) us e → Tests d c ss ls e
unfolding put
in_apart d c b ss ls us e is sp =
    let vs = members_apart (tested d c b) (acts Close role.OneOf ∷ ss) us e sp in
    let close = words _ (acts Close role.OneOf ∷ []) ss vs.front.rest e vs.front.left in
    a_test d c (test.OneOf c b vs.members) (scratch_of (tested d c b)) (maybe_not b ++ word In ∷ word Open ∷ (vs.front.text ++ word Close ∷ [])) ss ls close.0 e (vs.front.text, vs.front.says, refl)
    (is ∙ ap (λ (x : List Lexeme). maybe_not b ++ word In ∷ word Open ∷ x) (vs.front.is ∙ ap (λ (x : List Lexeme). vs.front.text ++ x) close.1 ∙ sym (append_assoc vs.front.text (word Close ∷ []) close.0))
    ∙ sym (append_assoc (maybe_not b) (word In ∷ word Open ∷ (vs.front.text ++ word Close ∷ [])) close.0)) close.2

-- the lines of BETWEEN and IN, wherever they stand
within_lines : (d : Draft) (c : List ℕ) (b : Bool) (ss : List Symbol) (ls us : List Lexeme) (e : Draft) → ls ≡ maybe_not b ++ us → Each (tested d c b) (lines part.Within) ss us e (Tests d c ss ls e)
unfolding lines put
within_lines d c b ss ls us e is =
    (λ (vs, between, left). between_apart d c b ss ls vs e (is ∙ ap (λ (x : List Lexeme). maybe_not b ++ x) between) left)
    & (λ (vs, one_of, left). in_apart d c b ss ls vs e (is ∙ ap (λ (x : List Lexeme). maybe_not b ++ x) one_of) left)
    & tt

-- IS NULL and IS NOT NULL
nulled_apart : (d : Draft) (c : List ℕ) (ss : List Symbol) (ls us : List Lexeme) (e : Draft) → ls ≡ word Is ∷ us → Spells (tested d c false) (Go part.Nulled ∷ ss) us e → Tests d c ss ls e
unfolding lines may_lack put
nulled_apart d c ss ls us e is sp =
    cases part.Nulled _ ss us e _ (
    tt
    & (λ (vs, null, left). a_test d c (test.Null c false) (scratch_of (tested d c false)) (word Is ∷ word Null ∷ []) ss ls vs e refl (is ∙ ap (λ (x : List Lexeme). word Is ∷ x) null) left)
    & (λ (vs, null, left). a_test d c (test.Null c true) (scratch_of (tested d c true)) (word Is ∷ word Not ∷ word Null ∷ []) ss ls vs e refl (is ∙ ap (λ (x : List Lexeme). word Is ∷ x) null) left)
    & tt
    ) sp

test_apart : (d : Draft) (c : List ℕ) (ss : List Symbol) (ls : List Lexeme) (e : Draft) → Spells (tested d c false) (Go part.Test ∷ ss) ls e → Tests d c ss ls e
unfolding lines may_lack put
test_apart d c ss ls e sp =
    let within = within_lines d c false ss ls ls e refl in
    cases part.Test _ ss ls e _ (
    tt
    & (λ (us, is, left). operand_apart d c op.Eq ss ls us e is left)
    & (λ (us, is, left). operand_apart d c op.Ne ss ls us e is left)
    & (λ (us, is, left). operand_apart d c op.Lt ss ls us e is left)
    & (λ (us, is, left). operand_apart d c op.Le ss ls us e is left)
    & (λ (us, is, left). operand_apart d c op.Gt ss ls us e is left)
    & (λ (us, is, left). operand_apart d c op.Ge ss ls us e is left)
    & (λ (us, is, left). cases part.Within _ ss us e _ (tt & within_lines d c true ss ls us e is) left)
    & within.0
    & within.1.0
    & (λ (us, is, left). nulled_apart d c ss ls us e is left)
    & tt
    ) sp

-- ---- NOT, AND, OR and brackets

-- the tokens begin with a condition under an operator, which is a member of the level
abbrev pub Negation : ℕ → Draft → List Symbol → List Lexeme → Draft → Type 0
Negation n d ss ls e = (c : Cond) × (s : Scratch) × Front (IsNegation n c) (with_level d (with_cond d.level c) s) ss ls e

-- conditions are taken apart where so many brackets and NOTs are left
abbrev pub TakenApart : ℕ → Type 0
TakenApart n = (d : Draft) (ss : List Symbol) (ls : List Lexeme) (e : Draft) → d.level.base + d.level.nots + n ≡ 64 → Spells d (Go part.Condition ∷ ss) ls e → Negation n d ss ls e

-- a level at a depth, with the members done of its OR and of its AND
abbrev pub level_of : ℕ → List Cond → List Cond → Level
level_of b done last = record { ands = last; ors = done; nots = 0; base = b }

-- the members of one AND
abbrev ands_of : ℕ → Draft → ℕ → List Cond → Listing Cond
ands_of n d b done = record { mark = And; Says = IsNegation n; Rule = Free {A = Cond}; Beside = λ cs. Scratch; draft = λ cs s. with_level d (level_of b done cs) s }

ands_apart : (n : ℕ) → TakenApart n → (d : Draft) (b : ℕ) (done : List Cond) (s : Scratch) (ss : List Symbol) (ls : List Lexeme) (e : Draft) → b + n ≡ 64
    → Spells (with_level d (level_of b done []) s) (Go part.Condition ∷ Go part.MoreAnd ∷ ss) ls e → Listed (ands_of n d b done) ss ls e
unfolding lines may_lack
ands_apart n apart d b done s ss ls e depth sp = listed_alike (ands_of n d b done) part.MoreAnd part.Condition ss ls e (refl, refl) member s sp
  where
    member : (cs : List Cond) (s : Scratch) (us : List Lexeme) → Spells (with_level d (level_of b done cs) s) (Go part.Condition ∷ Go part.MoreAnd ∷ ss) us e
        → Next (ands_of n d b done) cs (IsNegation n) (Go part.MoreAnd ∷ ss) us e
    member cs s us left =
        let c = apart (with_level d (level_of b done cs) s) (Go part.MoreAnd ∷ ss) us e (omega (arith, depth)) left in
        record { member = c.0; beside = c.1; rule = tt; front = c.2 }

-- Conjunctions under way: those done, and the members of the last one, are all of them.
record Turned (cs : List Cond) : Type 0 where
  done : List Cond
  last : List Cond
  scratch : Scratch
  is : done ++ and_of last ∷ [] ≡ cs
  some : last ≡ [] → ⊥

-- the conjunctions of one OR
abbrev ors_of : ℕ → Draft → ℕ → Listing Cond
ors_of n d b = record { mark = Or; Says = IsConjunction (IsNegation n); Rule = Free {A = Cond}; Beside = Turned; draft = λ cs t. with_level d (level_of b t.done t.last) t.scratch }

-- what is joined has members
some_members : {A : Type 0} (P : A → List Lexeme → Type 0) (xs : List A) (ls : List Lexeme) → AreJoined And P xs ls → xs ≡ [] → ⊥
some_members P [] ls are e = are
some_members P (x ∷ xs) ls are e = cc

-- a conjunction is the next one of a level
conjunction_apart : (n : ℕ) → TakenApart n → (d : Draft) (b : ℕ) (done : List Cond) (s : Scratch) (ss : List Symbol) (ls : List Lexeme) (e : Draft) → b + n ≡ 64
    → Spells (with_level d (level_of b done []) s) (Go part.Condition ∷ Go part.MoreAnd ∷ ss) ls e → Next (ors_of n d b) done (IsConjunction (IsNegation n)) ss ls e
conjunction_apart n apart d b done s ss ls e depth sp =
    let cs = ands_apart n apart d b done s ss ls e depth sp in
    record {
      member = and_of cs.members;
      beside = record { done = done; last = cs.members; scratch = cs.beside; is = refl; some = some_members (IsNegation n) cs.members cs.front.text cs.front.says };
      rule = tt;
      front = record { text = cs.front.text; rest = cs.front.rest; says = (cs.members, cs.front.says, refl); is = cs.front.is; left = cs.front.left };
    }

-- behind OR the conjunction under way is done, and the next one begins
next_conjunction : (n : ℕ) → TakenApart n → (d : Draft) (b : ℕ) (ss : List Symbol) (e : Draft) → b + n ≡ 64 → Steps (ors_of n d b) part.MoreOr ss e
unfolding lines may_lack put
next_conjunction n apart d b ss e depth cs t ls sp = cases part.MoreOr _ ss ls e _ (
    (λ left. inl left)
    & (λ (us, is, left). inr (marked (ors_of n d b) cs (Go part.MoreOr ∷ ss) ls us e is (turned_next us left)))
    & tt
    ) sp
  where
    turned_next : (us : List Lexeme) → Spells (with_level d (level_of b (t.done ++ and_of t.last ∷ []) []) t.scratch) (Go part.Condition ∷ Go part.MoreAnd ∷ Go part.MoreOr ∷ ss) us e
        → Next (ors_of n d b) cs (IsConjunction (IsNegation n)) (Go part.MoreOr ∷ ss) us e
    turned_next us left = subst (λ (xs : List Cond). Next (ors_of n d b) xs (IsConjunction (IsNegation n)) (Go part.MoreOr ∷ ss) us e) t.is (conjunction_apart n apart d b (t.done ++ and_of t.last ∷ []) t.scratch (Go part.MoreOr ∷ ss) us e depth left)

-- the tokens begin with a whole condition, which the level is
pub record Whole (P : Cond → List Lexeme → Type 0) (d : Draft) (b : ℕ) (ss : List Symbol) (ls : List Lexeme) (e : Draft) : Type 0 where
  pub condition : Cond
  pub done : List Cond
  pub last : List Cond
  pub scratch : Scratch
  pub is : whole (level_of b done last) ≡ condition
  pub some : last ≡ [] → ⊥
  pub front : Front (IsDisjunction P condition) (with_level d (level_of b done last) scratch) ss ls e

whole_apart : (n : ℕ) → TakenApart n → (d : Draft) (b : ℕ) (s : Scratch) (ss : List Symbol) (ls : List Lexeme) (e : Draft) → b + n ≡ 64
    → Spells (with_level d (level_of b [] []) s) (Go part.Condition ∷ Go part.MoreAnd ∷ Go part.MoreOr ∷ ss) ls e → Whole (IsNegation n) d b ss ls e
whole_apart n apart d b s ss ls e depth sp =
    let cs = listed (ors_of n d b) part.MoreOr ss ls e (next_conjunction n apart d b ss e depth) (conjunction_apart n apart d b [] s (Go part.MoreOr ∷ ss) ls e depth sp) in
    record {
      condition = or_of cs.members;
      done = cs.beside.done;
      last = cs.beside.last;
      scratch = cs.beside.scratch;
      is = ap or_of cs.beside.is;
      some = cs.beside.some;
      front = record { text = cs.front.text; rest = cs.front.rest; says = (cs.members, cs.front.says, refl); is = cs.front.is; left = cs.front.left };
    }

-- a test is a condition at any depth
of_test : (n : ℕ) (t : Test) (ls : List Lexeme) → IsTest t ls → IsNegation n (cond.Test t) ls
of_test zero t ls says = (t, says, refl)
of_test (suc n) t ls says = inr (inr (t, says, refl))

tested_apart : (n : ℕ) (d : Draft) (c : List ℕ) (ss : List Symbol) (ls us : List Lexeme) (e : Draft) → ls ≡ name c ∷ us → Spells (tested d c false) (Go part.Test ∷ ss) us e → Negation n d ss ls e
tested_apart n d c ss ls us e is sp =
    let t = test_apart d c ss us e sp in (
      cond.Test t.test,
      t.scratch,
      record { text = name c ∷ t.front.text; rest = t.front.rest; says = of_test n t.test (name c ∷ t.front.text) t.front.says; is = is ∙ ap (λ (x : List Lexeme). name c ∷ x) t.front.is; left = t.front.left },
    )

-- a condition behind NOT, and one in brackets, is one level deeper
negated_apart : (n : ℕ) → TakenApart n → (d : Draft) (ss : List Symbol) (ls us : List Lexeme) (e : Draft) → d.level.base + d.level.nots + suc n ≡ 64 → ls ≡ word Not ∷ us
    → Spells (record d { level = record d.level { nots = d.level.nots + 1 } }) (Go part.Condition ∷ ss) us e → Negation (suc n) d ss ls e
negated_apart n apart d ss ls us e depth is sp =
    let c = apart (record d { level = record d.level { nots = d.level.nots + 1 } }) ss us e (omega (arith, depth)) sp in (
      cond.Not c.0,
      c.1,
      record {
        text = word Not ∷ c.2.text;
        rest = c.2.rest;
        says = inl (c.0, c.2.text, c.2.says, refl, refl);
        is = is ∙ ap (λ (x : List Lexeme). word Not ∷ x) c.2.is;
        left = subst (λ (x : Cond). Spells (with_level d (record d.level { ands = d.level.ands ++ x ∷ []; nots = 0 }) c.1) ss c.2.rest e) (not_more d.level.nots c.0) c.2.left;
      },
    )

bracketed_apart : (n : ℕ) → TakenApart n → (d : Draft) (ss : List Symbol) (ls us : List Lexeme) (e : Draft) → d.level.base + d.level.nots + suc n ≡ 64 → ls ≡ word Open ∷ us
    → Spells (record d { level = record no_level { base = d.level.base + d.level.nots + 1 }; outer = d.level ∷ d.outer }) (Go part.Condition ∷ Go part.MoreAnd ∷ Go part.MoreOr ∷ acts Close role.Closed ∷ ss) us e
    → Negation (suc n) d ss ls e
unfolding put
bracketed_apart n apart d ss ls us e depth is sp =
    let c = whole_apart n apart (record d { outer = d.level ∷ d.outer }) (d.level.base + d.level.nots + 1) (scratch_of d) (acts Close role.Closed ∷ ss) us e (omega (arith, depth)) sp in
    let close = words _ (acts Close role.Closed ∷ []) ss c.front.rest e c.front.left in (
      c.condition,
      c.scratch,
      record {
        text = word Open ∷ (c.front.text ++ word Close ∷ []);
        rest = close.0;
        says = inr (inl (c.front.text, c.front.says, refl));
        is = is ∙ ap (λ (x : List Lexeme). word Open ∷ x) (c.front.is ∙ ap (λ (x : List Lexeme). c.front.text ++ x) close.1 ∙ sym (append_assoc c.front.text (word Close ∷ []) close.0));
        left = subst (λ (x : Cond). Spells (with_level d (with_cond d.level x) c.scratch) ss close.0 e) c.is close.2;
      },
    )

-- at the last depth nothing more opens
none_deeper : (l : Level) (d : Draft) (P : Draft → Type 0) → l.base + l.nots + zero ≡ 64 → Made (if is_deep l then None else Some d) P → ⊥
none_deeper l d P depth m = let shallow : is_deep l ≡ false = (unless_made (is_deep l) d P m).0 in grind (arith, nat_tests)

-- conditions are taken apart at each depth
pub condition_apart : (n : ℕ) → TakenApart n
unfolding lines may_lack put
condition_apart zero d ss ls e depth sp =
    cases part.Condition _ ss ls e _ (
    tt
    & (λ m. absurd (none_deeper d.level _ _ depth m))
    & (λ m. absurd (none_deeper d.level _ _ depth m))
    & (λ (c, (us, is, left)). tested_apart zero d c ss ls us e is left)
    & tt
    ) sp
condition_apart (suc n) d ss ls e depth sp =
    cases part.Condition _ ss ls e _ (
    tt
    & (λ m. let given = unless_made (is_deep d.level) _ _ m in negated_apart n (condition_apart n) d ss ls given.1.0 e depth given.1.1 given.1.2)
    & (λ m. let given = unless_made (is_deep d.level) _ _ m in bracketed_apart n (condition_apart n) d ss ls given.1.0 e depth given.1.1 given.1.2)
    & (λ (c, (us, is, left)). tested_apart (suc n) d c ss ls us e is left)
    & tt
    ) sp

-- ---- WHERE

-- the tokens begin with a WHERE, or with none
pub record Filters (d : Draft) (ss : List Symbol) (ls : List Lexeme) (e : Draft) : Type 0 where
  pub condition : Option Cond
  pub level : Level
  pub scratch : Scratch
  pub is : where_of level.ands level ≡ condition
  pub front : Front (IsWhere condition) (with_level d level scratch) ss ls e

pub where_apart : (d : Draft) (ss : List Symbol) (ls : List Lexeme) (e : Draft) → Spells (record d { level = no_level }) (Go part.Where ∷ ss) ls e → Filters d ss ls e
unfolding lines may_lack put
where_apart d ss ls e sp =
    cases part.Where _ ss ls e _ (
    (λ left. record { condition = None; level = no_level; scratch = scratch_of d; is = refl; front = record { text = []; rest = ls; says = refl; is = refl; left = left } })
    & (λ (us, is, left). filtered us is (whole_apart 64 (condition_apart 64) d 0 (scratch_of d) ss us e refl left))
    & tt
    ) sp
  where
    filtered : (us : List Lexeme) → ls ≡ word Where ∷ us → Whole (IsNegation 64) d 0 ss us e → Filters d ss ls e
    filtered us is c =
        record {
          condition = Some c.condition;
          level = level_of 0 c.done c.last;
          scratch = c.scratch;
          is = where_some c.last (level_of 0 c.done c.last) c.some ∙ ap Some c.is;
          front = record {
            text = word Where ∷ c.front.text;
            rest = c.front.rest;
            says = (c.front.text, c.front.says, refl);
            is = is ∙ ap (λ (x : List Lexeme). word Where ∷ x) c.front.is;
            left = c.front.left;
          };
        }
