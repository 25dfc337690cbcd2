-- Reading conditions.
use Rattle.std.proofs.Common.{◌≡◌, ◌≤◌, ℕ, zero, suc, ◌+◌, Bool, true, false, List, [], ◌∷◌, ◌++◌, refl, sym, ap, subst, ◌∙◌, append_assoc, inl, inr, arith}
use Rattle.std.proofs.lemmas.Bool.Decides.{nat_tests}
use Rattle.std.proofs.lemmas.List.{append-nil}
use Rattle.iq_base.specs.declared.values.Value.{Value}
use Rattle.iq_base.specs.declared.values.Value.TheVariants as value
use Rattle.iq_ast.specs.declared.conditions.Op.{Op}
use Rattle.iq_ast.specs.declared.conditions.Op.TheVariants as op
use Rattle.iq_ast.specs.declared.conditions.Test.{Test}
use Rattle.iq_ast.specs.declared.conditions.Test.TheVariants as test
use Rattle.iq_ast.specs.declared.conditions.Cond.{Cond}
use Rattle.iq_ast.specs.declared.conditions.Cond.TheVariants as cond
use Rattle.iq_tokens.specs.declared.tokens.Mark.TheVariants.{And, Or, Not, Open, Close, Null, Between, In, Is}
use Rattle.iq_tokens.specs.declared.tokens.Lexeme.{Lexeme}
use Rattle.iq_tokens.specs.Kinds.{same, same_mark}
use Rattle.iq_grammar.specs.declared.grammar.Part.TheVariants as part
use Rattle.iq_grammar.specs.declared.grammar.Role.TheVariants as role
use Rattle.iq_grammar.specs.declared.grammar.Symbol.{Symbol}
use Rattle.iq_grammar.specs.declared.grammar.Symbol.TheVariants.{Go}
use Rattle.iq_grammar.specs.declared.draft.Draft.{Draft}
use Rattle.iq_grammar.specs.declared.draft.Level.{Level}
use Rattle.iq_grammar.specs.Grammar.{lines, may_lack, after, acts}
use Rattle.iq_grammar.specs.Draft.{put, with_cond, not_times, and_of, or_of, whole, turned, no_level, is_deep}
use Rattle.iq_grammar.specs.Reading.{run, next}
use Rattle.iq_spelling.specs.Lists.{word, name, literal, maybe_not, AreMore}
use Rattle.iq_spelling.specs.Conditions.{op_mark, IsTest, IsConjunction, IsDisjunction, IsTested, IsNegated, IsBracketed, IsNegation}
use Rattle.iq_spelling.proofs.Parts.{reads}
use Rattle.iq_spelling.proofs.Items.{members_read}

-- what a condition leaves in a draft beside its level
pub record Scratch : Type 0 where
  pub column : List ℕ
  pub op : Op
  pub negated : Bool
  pub low : Value
  pub row : List Value

-- the draft with another level
abbrev pub with_level : Draft → Level → Scratch → Draft
with_level d l s = record d { level = l; column = s.column; op = s.op; negated = s.negated; low = s.low; row = s.row }

-- a condition was read, and is a member of the level
abbrev pub Adds : Draft → List Symbol → List Lexeme → List Lexeme → Cond → Type 0
Adds d ss ls ts c = (s : Scratch) × (reads d (Go part.Condition ∷ ss) (ls ++ ts) ≡ reads (with_level d (with_cond d.level c) s) ss ts)

-- ---- tests

compare_reads : (d : Draft) (c : List ℕ) (o : Op) (v : Value) (ss : List Symbol) (ts : List Lexeme)
    → reads d (Go part.Condition ∷ ss) (name c ∷ word (op_mark o) ∷ literal v ∷ ts) ≡ reads (with_level d (with_cond d.level (cond.Test (test.Compare c o v))) (record { column = c; op = o; negated = false; low = d.low; row = [] })) ss ts
unfolding run next after lines may_lack same same_mark put
compare_reads d c op.Eq value.Null ss ts = refl
compare_reads d c op.Ne value.Null ss ts = refl
compare_reads d c op.Lt value.Null ss ts = refl
compare_reads d c op.Le value.Null ss ts = refl
compare_reads d c op.Gt value.Null ss ts = refl
compare_reads d c op.Ge value.Null ss ts = refl
compare_reads d c op.Eq (value.Int n) ss ts = refl
compare_reads d c op.Ne (value.Int n) ss ts = refl
compare_reads d c op.Lt (value.Int n) ss ts = refl
compare_reads d c op.Le (value.Int n) ss ts = refl
compare_reads d c op.Gt (value.Int n) ss ts = refl
compare_reads d c op.Ge (value.Int n) ss ts = refl
compare_reads d c op.Eq (value.Text t) ss ts = refl
compare_reads d c op.Ne (value.Text t) ss ts = refl
compare_reads d c op.Lt (value.Text t) ss ts = refl
compare_reads d c op.Le (value.Text t) ss ts = refl
compare_reads d c op.Gt (value.Text t) ss ts = refl
compare_reads d c op.Ge (value.Text t) ss ts = refl

columns_read : (d : Draft) (c : List ℕ) (o : Op) (r : List ℕ) (ss : List Symbol) (ts : List Lexeme)
    → reads d (Go part.Condition ∷ ss) (name c ∷ word (op_mark o) ∷ name r ∷ ts) ≡ reads (with_level d (with_cond d.level (cond.Test (test.Columns c o r))) (record { column = c; op = o; negated = false; low = d.low; row = [] })) ss ts
unfolding run next after lines may_lack same same_mark put
columns_read d c op.Eq r ss ts = refl
columns_read d c op.Ne r ss ts = refl
columns_read d c op.Lt r ss ts = refl
columns_read d c op.Le r ss ts = refl
columns_read d c op.Gt r ss ts = refl
columns_read d c op.Ge r ss ts = refl

-- the column and NOT of a test, with a draft's other scratch
abbrev pub tested : Draft → List ℕ → Bool → Draft
tested d c b = record d { column = c; negated = b; row = [] }

between_begins : (d : Draft) (c : List ℕ) (b : Bool) (ss : List Symbol) (ts : List Lexeme)
    → reads d (Go part.Condition ∷ ss) (name c ∷ (maybe_not b ++ word Between ∷ ts)) ≡ reads (tested d c b) (Go part.Low ∷ acts And role.Skip ∷ Go part.High ∷ ss) ts
unfolding run next after lines may_lack same same_mark put
between_begins d c true ss ts = refl
between_begins d c false ss ts = refl

low_reads : (d : Draft) (v : Value) (ss : List Symbol) (ts : List Lexeme) → reads d (Go part.Low ∷ acts And role.Skip ∷ ss) (literal v ∷ word And ∷ ts) ≡ reads (record d { low = v }) ss ts
unfolding run next after lines may_lack same same_mark put
low_reads d value.Null ss ts = refl
low_reads d (value.Int n) ss ts = refl
low_reads d (value.Text t) ss ts = refl

high_reads : (d : Draft) (v : Value) (ss : List Symbol) (ts : List Lexeme)
    → reads d (Go part.High ∷ ss) (literal v ∷ ts) ≡ reads (record d { level = with_cond d.level (cond.Test (test.Between d.column d.negated d.low v)) }) ss ts
unfolding run next after lines may_lack same same_mark put
high_reads d value.Null ss ts = refl
high_reads d (value.Int n) ss ts = refl
high_reads d (value.Text t) ss ts = refl

in_begins : (d : Draft) (c : List ℕ) (b : Bool) (ss : List Symbol) (ts : List Lexeme)
    → reads d (Go part.Condition ∷ ss) (name c ∷ (maybe_not b ++ word In ∷ word Open ∷ ts)) ≡ reads (tested d c b) (Go part.Member ∷ Go part.MoreMembers ∷ acts Close role.OneOf ∷ ss) ts
unfolding run next after lines may_lack same same_mark put
in_begins d c true ss ts = refl
in_begins d c false ss ts = refl

in_ends : (d : Draft) (vs : List Value) (ss : List Symbol) (ts : List Lexeme)
    → reads (record d { row = vs }) (Go part.MoreMembers ∷ acts Close role.OneOf ∷ ss) (word Close ∷ ts) ≡ reads (record d { row = []; level = with_cond d.level (cond.Test (test.OneOf d.column d.negated vs)) }) ss ts
unfolding run next after lines may_lack same same_mark put
in_ends d vs ss ts = refl

null_reads : (d : Draft) (c : List ℕ) (b : Bool) (ss : List Symbol) (ts : List Lexeme)
    → reads d (Go part.Condition ∷ ss) (name c ∷ word Is ∷ (maybe_not b ++ word Null ∷ ts)) ≡ reads (with_level d (with_cond d.level (cond.Test (test.Null c b))) (record { column = c; op = d.op; negated = b; low = d.low; row = [] })) ss ts
unfolding run next after lines may_lack same same_mark put
null_reads d c true ss ts = refl
null_reads d c false ss ts = refl

test_reads : (d : Draft) (t : Test) (ls : List Lexeme) (ss : List Symbol) (ts : List Lexeme) → IsTest t ls → Adds d ss ls ts (cond.Test t)
test_reads d (test.Compare c o v) ls ss ts is =
    (record { column = c; op = o; negated = false; low = d.low; row = [] }, ap (λ (l : List Lexeme). reads d (Go part.Condition ∷ ss) (l ++ ts)) is ∙ compare_reads d c o v ss ts)
test_reads d (test.Columns c o r) ls ss ts is =
    (record { column = c; op = o; negated = false; low = d.low; row = [] }, ap (λ (l : List Lexeme). reads d (Go part.Condition ∷ ss) (l ++ ts)) is ∙ columns_read d c o r ss ts)
test_reads d (test.Between c b low high) ls ss ts is =
    let text : ls ++ ts ≡ name c ∷ (maybe_not b ++ word Between ∷ literal low ∷ word And ∷ literal high ∷ ts) =
    ap (λ (l : List Lexeme). l ++ ts) is ∙ ap (λ (l : List Lexeme). name c ∷ l) (append_assoc (maybe_not b) (word Between ∷ literal low ∷ word And ∷ literal high ∷ []) ts) in (
      record { column = c; op = d.op; negated = b; low = low; row = [] },
      ap (λ (l : List Lexeme). reads d (Go part.Condition ∷ ss) l) text
          ∙ between_begins d c b ss (literal low ∷ word And ∷ literal high ∷ ts)
          ∙ low_reads (tested d c b) low (Go part.High ∷ ss) (literal high ∷ ts)
          ∙ high_reads (record (tested d c b) { low = low }) high ss ts,
    )
test_reads d (test.OneOf c b vs) ls ss ts (vl, are, is) =
    let text : ls ++ ts ≡ name c ∷ (maybe_not b ++ word In ∷ word Open ∷ (vl ++ (word Close ∷ ts))) =
    ap (λ (l : List Lexeme). l ++ ts) is
    ∙ ap (λ (l : List Lexeme). name c ∷ l) (append_assoc (maybe_not b) (word In ∷ word Open ∷ (vl ++ word Close ∷ [])) ts ∙ ap (λ (l : List Lexeme). maybe_not b ++ word In ∷ word Open ∷ l) (append_assoc vl (word Close ∷ []) ts)) in (
      record { column = c; op = d.op; negated = b; low = d.low; row = [] },
      ap (λ (l : List Lexeme). reads d (Go part.Condition ∷ ss) l) text
          ∙ in_begins d c b ss (vl ++ (word Close ∷ ts))
          ∙ members_read (tested d c b) vs vl (acts Close role.OneOf ∷ ss) (word Close ∷ ts) are
          ∙ in_ends (tested d c b) vs ss ts,
    )
test_reads d (test.Null c b) ls ss ts is =
    let text : ls ++ ts ≡ name c ∷ word Is ∷ (maybe_not b ++ word Null ∷ ts) =
    ap (λ (l : List Lexeme). l ++ ts) is ∙ ap (λ (l : List Lexeme). name c ∷ word Is ∷ l) (append_assoc (maybe_not b) (word Null ∷ []) ts) in
    (record { column = c; op = d.op; negated = b; low = d.low; row = [] }, ap (λ (l : List Lexeme). reads d (Go part.Condition ∷ ss) l) text ∙ null_reads d c b ss ts)

-- ---- NOT, AND, OR and brackets

pub not_more : (n : ℕ) (c : Cond) → not_times (n + 1) c ≡ not_times n (cond.Not c)
not_more zero c = refl
not_more (suc n) c = let next : suc n + 1 ≡ suc (n + 1) = omega arith in ap (λ k. not_times k c) next ∙ ap (λ (x : Cond). cond.Not x) (not_more n c)

shallow : (l : Level) (n : ℕ) → l.base + l.nots + suc n ≤ 64 → is_deep l ≡ false
shallow l n fits = grind (arith, nat_tests)

not_begins : (d : Draft) (ss : List Symbol) (ts : List Lexeme) → is_deep d.level ≡ false
    → reads d (Go part.Condition ∷ ss) (word Not ∷ ts) ≡ reads (record d { level = record d.level { nots = d.level.nots + 1 } }) (Go part.Condition ∷ ss) ts
unfolding run next after lines may_lack same same_mark put
not_begins d ss ts h = rw h refl

open_begins : (d : Draft) (ss : List Symbol) (ts : List Lexeme) → is_deep d.level ≡ false
    → reads d (Go part.Condition ∷ ss) (word Open ∷ ts)
    ≡ reads (record d { level = record no_level { base = d.level.base + d.level.nots + 1 }; outer = d.level ∷ d.outer }) (Go part.Condition ∷ Go part.MoreAnd ∷ Go part.MoreOr ∷ acts Close role.Closed ∷ ss) ts
unfolding run next after lines may_lack same same_mark put
open_begins d ss ts h = rw h refl

close_ends : (d : Draft) (l : Level) (ls : List Level) (ss : List Symbol) (ts : List Lexeme)
    → reads (record d { outer = l ∷ ls }) (Go part.MoreAnd ∷ Go part.MoreOr ∷ acts Close role.Closed ∷ ss) (word Close ∷ ts) ≡ reads (record d { level = with_cond l (whole d.level); outer = ls }) ss ts
unfolding run next after lines may_lack same same_mark put
close_ends d l ls ss ts = refl

and_begins : (d : Draft) (ss : List Symbol) (ts : List Lexeme) → reads d (Go part.MoreAnd ∷ ss) (word And ∷ ts) ≡ reads d (Go part.Condition ∷ Go part.MoreAnd ∷ ss) ts
unfolding run next after lines may_lack same same_mark put
and_begins d ss ts = refl

or_begins : (d : Draft) (ss : List Symbol) (ts : List Lexeme)
    → reads d (Go part.MoreAnd ∷ Go part.MoreOr ∷ ss) (word Or ∷ ts) ≡ reads (record d { level = turned d.level }) (Go part.Condition ∷ Go part.MoreAnd ∷ Go part.MoreOr ∷ ss) ts
unfolding run next after lines may_lack same same_mark put
or_begins d ss ts = refl

-- conditions of one depth are read
abbrev pub Reading : ℕ → Type 0
Reading n = (d : Draft) (c : Cond) (ls : List Lexeme) (ss : List Symbol) (ts : List Lexeme) → IsNegation n c ls → d.level.base + d.level.nots + n ≤ 64 → Adds d ss ls ts c

-- the level after more members of AND
abbrev and_more : Level → List Cond → Level
and_more l cs = record l { ands = l.ands ++ cs; nots = 0 }

ands_read : (n : ℕ) → Reading n → (d : Draft) (cs : List Cond) (ls : List Lexeme) (ss : List Symbol) (ts : List Lexeme) → AreMore And (IsNegation n) cs ls → d.level.nots ≡ 0 → d.level.base + n ≤ 64
    → (s : Scratch) × (reads d (Go part.MoreAnd ∷ ss) (ls ++ ts) ≡ reads (with_level d (and_more d.level cs) s) (Go part.MoreAnd ∷ ss) ts)
ands_read n read d [] ls ss ts none zero_nots fits = (
  record { column = d.column; op = d.op; negated = d.negated; low = d.low; row = d.row },
  ap (λ (l : List Lexeme). reads d (Go part.MoreAnd ∷ ss) (l ++ ts)) none ∙ ap (λ (l : Level). reads (record d { level = l }) (Go part.MoreAnd ∷ ss) ts) same_level,
)
  where
    same_level : d.level ≡ and_more d.level []
    same_level = rw (append-nil d.level.ands, ← zero_nots) refl
ands_read n read d (c ∷ cs) ls ss ts (a, b, one, more, is) zero_nots fits =
    let here = read d c a (Go part.MoreAnd ∷ ss) (b ++ ts) one (rw zero_nots (omega (arith, fits))) in
    let rest = ands_read n read (with_level d (with_cond d.level c) here.0) cs b ss ts more refl fits in
    let text : ls ++ ts ≡ word And ∷ (a ++ (b ++ ts)) = ap (λ (l : List Lexeme). l ++ ts) is ∙ ap (λ (l : List Lexeme). word And ∷ l) (append_assoc a b ts) in
    let one_member : not_times d.level.nots c ≡ c = ap (λ k. not_times k c) zero_nots in (
      rest.0,
      ap (λ (l : List Lexeme). reads d (Go part.MoreAnd ∷ ss) l) text ∙ and_begins d ss (a ++ (b ++ ts)) ∙ here.1 ∙ rest.1
          ∙ ap (λ (x : List Cond). reads (with_level d (record d.level { ands = x; nots = 0 }) rest.0) (Go part.MoreAnd ∷ ss) ts)
          (ap (λ (x : Cond). (d.level.ands ++ x ∷ []) ++ cs) one_member ∙ append_assoc d.level.ands (c ∷ []) cs),
    )

-- a conjunction from its first word on, in a level without members of AND
conjunction_reads : (n : ℕ) → Reading n → (d : Draft) (c : Cond) (ls : List Lexeme) (ss : List Symbol) (ts : List Lexeme) → IsConjunction (IsNegation n) c ls
    → d.level.ands ≡ [] → d.level.nots ≡ 0 → d.level.base + n ≤ 64
    → (s : Scratch) × (cs : List Cond) × (reads d (Go part.Condition ∷ Go part.MoreAnd ∷ ss) (ls ++ ts) ≡ reads (with_level d (record d.level { ands = cs; nots = 0 }) s) (Go part.MoreAnd ∷ ss) ts)
    × (c ≡ and_of cs) × (cs ≡ [] → ⊥)
conjunction_reads n read d c ls ss ts ([], none, is_and) no_ands no_nots fits = absurd none
conjunction_reads n read d c ls ss ts (x ∷ xs, (a, b, one, more, is), is_and) no_ands no_nots fits =
    let here = read d x a (Go part.MoreAnd ∷ ss) (b ++ ts) one (rw no_nots (omega (arith, fits))) in
    let rest = ands_read n read (with_level d (with_cond d.level x) here.0) xs b ss ts more refl fits in
    let text : ls ++ ts ≡ a ++ (b ++ ts) = ap (λ (l : List Lexeme). l ++ ts) is ∙ append_assoc a b ts in
    let members : (d.level.ands ++ not_times d.level.nots x ∷ []) ++ xs ≡ x ∷ xs =
    ap (λ k. (d.level.ands ++ not_times k x ∷ []) ++ xs) no_nots ∙ ap (λ (l : List Cond). (l ++ x ∷ []) ++ xs) no_ands in (
      rest.0,
      x ∷ xs,
      ap (λ (l : List Lexeme). reads d (Go part.Condition ∷ Go part.MoreAnd ∷ ss) l) text ∙ here.1 ∙ rest.1
          ∙ ap (λ (l : List Cond). reads (with_level d (record d.level { ands = l; nots = 0 }) rest.0) (Go part.MoreAnd ∷ ss) ts) members,
      is_and,
      λ e. cc,
    )

-- a level with members of OR done, and those of the AND under way
abbrev pub halfway : Level → List Cond → List Cond → Level
halfway l done last = record l { ands = last; ors = done; nots = 0 }

-- conjunctions behind OR, one by one: those done and the last one's members are all of them
ors_read : (n : ℕ) → Reading n → (d : Draft) (done : List Cond) (last : Cond) (cs : List Cond) (ls : List Lexeme) (ss : List Symbol) (ts : List Lexeme) → AreMore Or (IsConjunction (IsNegation n)) cs ls
    → d.level.nots ≡ 0 → d.level.base + n ≤ 64 → d.level.ors ≡ done → last ≡ and_of d.level.ands → (d.level.ands ≡ [] → ⊥)
    → (s : Scratch) × (ors : List Cond) × (ands : List Cond) × (reads d (Go part.MoreAnd ∷ Go part.MoreOr ∷ ss) (ls ++ ts) ≡ reads (with_level d (halfway d.level ors ands) s) (Go part.MoreAnd ∷ Go part.MoreOr ∷ ss) ts)
    × (ors ++ and_of ands ∷ [] ≡ done ++ last ∷ cs) × (ands ≡ [] → ⊥)
ors_read n read d done last [] ls ss ts none no_nots fits is_done is_last some = (
  record { column = d.column; op = d.op; negated = d.negated; low = d.low; row = d.row },
  d.level.ors,
  d.level.ands,
  ap (λ (l : List Lexeme). reads d (Go part.MoreAnd ∷ Go part.MoreOr ∷ ss) (l ++ ts)) none ∙ ap (λ (l : Level). reads (record d { level = l }) (Go part.MoreAnd ∷ Go part.MoreOr ∷ ss) ts) same_level,
  ap (λ (x : List Cond). x ++ and_of d.level.ands ∷ []) is_done ∙ ap (λ (x : Cond). done ++ x ∷ []) (sym is_last),
  some,
)
  where
    same_level : d.level ≡ halfway d.level d.level.ors d.level.ands
    same_level = ap (λ k. record d.level { nots = k }) no_nots
ors_read n read d done last (c ∷ cs) ls ss ts (a, b, one, more, is) no_nots fits is_done is_last some =
    let to = record d { level = turned d.level } in
    let here = conjunction_reads n read to c a (Go part.MoreOr ∷ ss) (b ++ ts) one refl no_nots fits in
    let rest = ors_read n read (with_level to (record to.level { ands = here.1; nots = 0 }) here.0) (done ++ last ∷ []) c cs b ss ts more refl fits
    (ap (λ (x : List Cond). x ++ and_of d.level.ands ∷ []) is_done ∙ ap (λ (x : Cond). done ++ x ∷ []) (sym is_last)) here.3 here.4 in
    let text : ls ++ ts ≡ word Or ∷ (a ++ (b ++ ts)) = ap (λ (l : List Lexeme). l ++ ts) is ∙ ap (λ (l : List Lexeme). word Or ∷ l) (append_assoc a b ts) in (
      rest.0,
      rest.1,
      rest.2,
      ap (λ (l : List Lexeme). reads d (Go part.MoreAnd ∷ Go part.MoreOr ∷ ss) l) text ∙ or_begins d ss (a ++ (b ++ ts)) ∙ here.2 ∙ rest.3,
      rest.4 ∙ append_assoc done (last ∷ []) (c ∷ cs),
      rest.5,
    )

-- a whole condition is read, from a level without members on
pub record Whole (d : Draft) (from : List Symbol) (ls : List Lexeme) (ss : List Symbol) (ts : List Lexeme) (c : Cond) : Type 0 where
  pub scratch : Scratch
  pub ors : List Cond
  pub ands : List Cond
  pub goes : reads d from (ls ++ ts) ≡ reads (with_level d (halfway d.level ors ands) scratch) (Go part.MoreAnd ∷ Go part.MoreOr ∷ ss) ts
  pub is : whole (halfway d.level ors ands) ≡ c
  pub some : ands ≡ [] → ⊥

pub condition_reads : (n : ℕ) → Reading n → (d : Draft) (c : Cond) (ls : List Lexeme) (ss : List Symbol) (ts : List Lexeme) → IsDisjunction (IsNegation n) c ls
    → d.level.ands ≡ [] → d.level.ors ≡ [] → d.level.nots ≡ 0 → d.level.base + n ≤ 64 → Whole d (Go part.Condition ∷ Go part.MoreAnd ∷ Go part.MoreOr ∷ ss) ls ss ts c
condition_reads n read d c ls ss ts ([], none, is_or) no_ands no_ors no_nots fits = absurd none
condition_reads n read d c ls ss ts (x ∷ xs, (a, b, one, more, is), is_or) no_ands no_ors no_nots fits =
    let here = conjunction_reads n read d x a (Go part.MoreOr ∷ ss) (b ++ ts) one no_ands no_nots fits in
    let rest = ors_read n read (with_level d (record d.level { ands = here.1; nots = 0 }) here.0) [] x xs b ss ts more refl fits no_ors here.3 here.4 in
    let text : ls ++ ts ≡ a ++ (b ++ ts) = ap (λ (l : List Lexeme). l ++ ts) is ∙ append_assoc a b ts in
    record {
      scratch = rest.0;
      ors = rest.1;
      ands = rest.2;
      goes = ap (λ (l : List Lexeme). reads d (Go part.Condition ∷ Go part.MoreAnd ∷ Go part.MoreOr ∷ ss) l) text ∙ here.2 ∙ rest.3;
      is = ap or_of rest.4 ∙ sym is_or;
      some = rest.5;
    }

tested_reads : (d : Draft) (c : Cond) (ls : List Lexeme) (ss : List Symbol) (ts : List Lexeme) → IsTested c ls → Adds d ss ls ts c
tested_reads d c ls ss ts (t, says, is) = subst (λ (x : Cond). Adds d ss ls ts x) (sym is) (test_reads d t ls ss ts says)

negated_reads : (n : ℕ) → Reading n → (d : Draft) (c : Cond) (ls : List Lexeme) (ss : List Symbol) (ts : List Lexeme) → IsNegated (IsNegation n) c ls
    → d.level.base + d.level.nots + suc n ≤ 64 → Adds d ss ls ts c
negated_reads n read d c ls ss ts (e, rest, says, is_not, is) fits =
    let to = record d { level = record d.level { nots = d.level.nots + 1 } } in
    let here = read to e rest ss ts says (omega (arith, fits)) in (
      here.0,
      ap (λ (l : List Lexeme). reads d (Go part.Condition ∷ ss) (l ++ ts)) is ∙ not_begins d ss (rest ++ ts) (shallow d.level n fits) ∙ here.1
          ∙ ap (λ (x : Cond). reads (with_level d (record d.level { ands = d.level.ands ++ x ∷ []; nots = 0 }) here.0) ss ts) (not_more d.level.nots e ∙ ap (not_times d.level.nots) (sym is_not)),
    )

bracketed_reads : (n : ℕ) → Reading n → (d : Draft) (c : Cond) (ls : List Lexeme) (ss : List Symbol) (ts : List Lexeme) → IsBracketed (IsDisjunction (IsNegation n)) c ls
    → d.level.base + d.level.nots + suc n ≤ 64 → Adds d ss ls ts c
bracketed_reads n read d c ls ss ts (inner, says, is) fits =
    let to = record d { level = record no_level { base = d.level.base + d.level.nots + 1 }; outer = d.level ∷ d.outer } in
    let here = condition_reads n read to c inner (acts Close role.Closed ∷ ss) (word Close ∷ ts) says refl refl refl (omega (arith, fits)) in
    let text : ls ++ ts ≡ word Open ∷ (inner ++ (word Close ∷ ts)) = ap (λ (l : List Lexeme). l ++ ts) is ∙ ap (λ (l : List Lexeme). word Open ∷ l) (append_assoc inner (word Close ∷ []) ts) in (
      here.scratch,
      ap (λ (l : List Lexeme). reads d (Go part.Condition ∷ ss) l) text ∙ open_begins d ss (inner ++ (word Close ∷ ts)) (shallow d.level n fits) ∙ here.goes
          ∙ close_ends (with_level to (halfway to.level here.ors here.ands) here.scratch) d.level d.outer ss ts
          ∙ ap (λ (x : Cond). reads (with_level d (with_cond d.level x) here.scratch) ss ts) here.is,
    )

pub negation_reads : (n : ℕ) → Reading n
negation_reads zero d c ls ss ts says fits = tested_reads d c ls ss ts says
negation_reads (suc n) d c ls ss ts (inl not) fits = negated_reads n (negation_reads n) d c ls ss ts not fits
negation_reads (suc n) d c ls ss ts (inr (inl brackets)) fits = bracketed_reads n (negation_reads n) d c ls ss ts brackets fits
negation_reads (suc n) d c ls ss ts (inr (inr one)) fits = tested_reads d c ls ss ts one
