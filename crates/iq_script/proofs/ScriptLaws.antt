-- The laws about scripts and faults.
use Rattle.std.proofs.Common.{◌≡◌, ℕ, zero, suc, ◌+◌, ◌<◌, Bool, true, false, List, [], ◌∷◌, Option, Some, None, Result, Ok, Err, refl, sym, ap, subst, ◌∙◌, ◌⊎◌, inl, inr, drop, arith}
use Rattle.std.specs.Prelude.{MatchBool}
use Rattle.std.specs.List.{AllByRecursion}
use Rattle.iq_ast.specs.declared.statements.Statement.{Statement as TheStatement}
use Rattle.iq_model.specs.declared.scripts.Line.{Line}
use Rattle.iq_model.specs.declared.scripts.Script.{Script}
use Rattle.iq_model.specs.Scripts.{IsRunnableLine}
use Rattle.iq_grammar.specs.declared.directives.Directive.{Directive as TheDirective}
use Rattle.iq_grammar.specs.Statements.{statement_of, IsStatementOf}
use Rattle.iq_grammar.specs.Directives.{directive_of, IsDirectiveOf}
use Rattle.iq_grammar.proofs.Laws.{spells_one, directive_one, read_or_faulty, one_faulty, directive_or_faulty, directive_one_faulty}
use Rattle.iq_script.specs.declared.faults.LineFault.{LineFault}
use Rattle.iq_script.specs.declared.faults.LineFault.TheVariants.{TooManyLines, NotUtf8, Syntax, LateDeclaration, NoCoordinator, SecondCoordinator, NodeTwice, TooManyNodes, SessionTwice, UnknownNode, TooManySessions, UnknownSession, ShortLoad, Unbuilt}
use Rattle.iq_script.specs.declared.pieces.Front.{Front}
use Rattle.iq_script.specs.declared.pieces.Front.TheVariants as fronts
use Rattle.iq_script.specs.declared.pieces.Piece.{Piece}
use Rattle.iq_script.specs.declared.pieces.Piece.TheVariants.{Statement, Directive}
use Rattle.iq_script.specs.declared.reading.Reading.{Reading}
use Rattle.iq_script.specs.Lines.{lines_of, text_of, is_doing}
use Rattle.iq_script.specs.Pieces.{front_of, Says, Fails}
use Rattle.iq_script.specs.Putting.{Onward, on, put}
use Rattle.iq_script.specs.Scripts.{start, LeadsOn, Leads, IsMisplaced, IsWrong, IsNotUtf8, IsFault, LeadTo, Stops, script_of, IsScriptOf, IsFirstFault, IsFirstUnbuilt, IsUnbuiltAt, IsRunScriptOf, IsRefused}

-- ---- what a line says

same_statement : (text : List ℕ) (s t : TheStatement) → IsStatementOf text s → IsStatementOf text t → s ≡ t
same_statement text s t p q = sym p.is ∙ ap statement_of (spells_one _ p.draft q.draft p.spelled q.spelled) ∙ q.is

same_directive : (text : List ℕ) (s t : TheDirective) → IsDirectiveOf text s → IsDirectiveOf text t → s ≡ t
same_directive text s t p q = sym p.is ∙ ap directive_of (directive_one _ p.draft q.draft p.spelled q.spelled) ∙ q.is

statement_piece : (a b : Option (List ℕ)) (s t : TheStatement) → a ≡ b → s ≡ t → Statement a s ≡ Statement b t
statement_piece a b s t e f = λ i. Statement (e i) (f i)

says_one : (f : Front) (text : List ℕ) (p q : Piece) → Says f text p → Says f text q → p ≡ q
says_one (fronts.Session x) text (Statement a s) (Statement b t) h k = statement_piece a b s t (h.0 ∙ sym k.0) (same_statement (drop x.bytes text) s t h.1 k.1)
says_one (fronts.Session x) text (Statement a s) (Directive d) h k = absurd k
says_one (fronts.Session x) text (Directive d) q h k = absurd h
says_one fronts.Directive text (Statement a s) q h k = absurd h
says_one fronts.Directive text (Directive d) (Statement b t) h k = absurd k
says_one fronts.Directive text (Directive d) (Directive e) h k = ap (λ (x : TheDirective). Directive x) (same_directive text d e h k)
says_one fronts.Statement text (Statement a s) (Statement b t) h k = statement_piece a b s t (h.0 ∙ sym k.0) (same_statement text s t h.1 k.1)
says_one fronts.Statement text (Statement a s) (Directive d) h k = absurd k
says_one fronts.Statement text (Directive d) q h k = absurd h

says_or_fails : (f : Front) (text : List ℕ) (p : Piece) (place : ℕ) → Says f text p → Fails f text place → ⊥
says_or_fails (fronts.Session x) text (Statement a s) place h k = read_or_faulty _ _ h.1.draft k.within h.1.spelled k.fault
says_or_fails (fronts.Session x) text (Directive d) place h k = h
says_or_fails fronts.Directive text (Statement a s) place h k = h
says_or_fails fronts.Directive text (Directive d) place h k = directive_or_faulty _ _ h.draft place h.spelled k
says_or_fails fronts.Statement text (Statement a s) place h k = read_or_faulty _ _ h.1.draft place h.1.spelled k
says_or_fails fronts.Statement text (Directive d) place h k = h

fails_one : (f : Front) (text : List ℕ) (m n : ℕ) → Fails f text m → Fails f text n → m ≡ n
fails_one (fronts.Session x) text m n h k = h.is ∙ ap (λ (w : ℕ). x.bytes + w) (one_faulty _ _ h.within k.within h.fault k.fault) ∙ sym k.is
fails_one fronts.Directive text m n h k = directive_one_faulty _ _ m n h k
fails_one fronts.Statement text m n h k = one_faulty _ _ m n h k

-- ---- one line leads to one reading

abbrev ok_of : Result Onward LineFault → Option Onward
ok_of (Ok x) = Some x
ok_of (Err e) = None

abbrev err_of : Result Onward LineFault → Option LineFault
err_of (Ok x) = None
err_of (Err e) = Some e

some_is : {A : Type 0} (x y : A) → Some x ≡ Some y → x ≡ y
some_is x y h = cc

no_some : {A : Type 0} (x : A) → Some x ≡ None → ⊥
no_some x h = cc

same_ok : (p : Result Onward LineFault) (a b : Onward) → p ≡ Ok a → p ≡ Ok b → a ≡ b
same_ok p a b h k = some_is a b (ap ok_of (sym h ∙ k))

same_err : (p : Result Onward LineFault) (x y : LineFault) → p ≡ Err x → p ≡ Err y → x ≡ y
same_err p x y h k = some_is x y (ap err_of (sym h ∙ k))

ok_or_err : (p : Result Onward LineFault) (a : Onward) (x : LineFault) → p ≡ Ok a → p ≡ Err x → ⊥
ok_or_err p a x h k = no_some a (ap ok_of (sym h ∙ k))

text_one : (n : ℕ) (text : List ℕ) (behind : List (List ℕ)) (old : Reading) (a b : Onward) → LeadsOn n text behind old a → LeadsOn n text behind old b → a ≡ b
text_one n text behind old a b h k =
    let same = says_one (front_of text) text h.piece k.piece h.says k.says in
    same_ok (put n k.piece behind old) a b (subst (λ (p : Piece). put n p behind old ≡ Ok a) same h.put) k.put

line_one : (n : ℕ) (line : List ℕ) (behind : List (List ℕ)) (old : Reading) (a b : Onward) → Leads n line behind old a → Leads n line behind old b → a ≡ b
line_one n line behind old a b h k = by_doing (is_doing (text_of line)) h k
  where
    by_doing : (d : Bool) → MatchBool d (LeadsOn n (text_of line) behind old a) (a ≡ on old 0) → MatchBool d (LeadsOn n (text_of line) behind old b) (b ≡ on old 0) → a ≡ b
    by_doing true h k = text_one n (text_of line) behind old a b h k
    by_doing false h k = h ∙ sym k

doing_leads : (n : ℕ) (line : List ℕ) (behind : List (List ℕ)) (old : Reading) (a : Onward) → is_doing (text_of line) ≡ true → Leads n line behind old a → LeadsOn n (text_of line) behind old a
doing_leads n line behind old a doing h = subst (λ (d : Bool). MatchBool d (LeadsOn n (text_of line) behind old a) (a ≡ on old 0)) doing h

-- ---- one cause

-- the four kinds of faults
abbrev Kinds : LineFault → ℕ → List ℕ → List (List ℕ) → Reading → Type 0
Kinds x n text behind old =
    ((x ≡ TooManyLines) × (old.taken ≡ 100000)) ⊎ (((x ≡ NotUtf8) × IsNotUtf8 text old) ⊎ (((place : ℕ) × (x ≡ Syntax place) × IsWrong place text old) ⊎ IsMisplaced x n text behind old))

kinds : (x : LineFault) (n : ℕ) (text : List ℕ) (behind : List (List ℕ)) (old : Reading) → IsFault x n text behind old → Kinds x n text behind old
kinds TooManyLines n text behind old h = inl (refl, h)
kinds NotUtf8 n text behind old h = inr (inl (refl, h))
kinds (Syntax place) n text behind old h = inr (inr (inl (place, refl, h)))
kinds LateDeclaration n text behind old h = inr (inr (inr h))
kinds NoCoordinator n text behind old h = inr (inr (inr h))
kinds SecondCoordinator n text behind old h = inr (inr (inr h))
kinds (NodeTwice name) n text behind old h = inr (inr (inr h))
kinds TooManyNodes n text behind old h = inr (inr (inr h))
kinds (SessionTwice name) n text behind old h = inr (inr (inr h))
kinds (UnknownNode name) n text behind old h = inr (inr (inr h))
kinds TooManySessions n text behind old h = inr (inr (inr h))
kinds (UnknownSession name) n text behind old h = inr (inr (inr h))
kinds ShortLoad n text behind old h = inr (inr (inr h))
kinds Unbuilt n text behind old h = absurd h

full : (n : ℕ) → n < 100000 → n ≡ 100000 → ⊥
full n less is = absurd (omega arith)

kinds_one : (n : ℕ) (text : List ℕ) (behind : List (List ℕ)) (old : Reading) (x y : LineFault) → Kinds x n text behind old → Kinds y n text behind old → x ≡ y
kinds_one n text behind old x y (inl h) (inl k) = h.0 ∙ sym k.0
kinds_one n text behind old x y (inl h) (inr (inl k)) = absurd (full old.taken k.1.room h.1)
kinds_one n text behind old x y (inl h) (inr (inr (inl k))) = absurd (full old.taken k.2.room h.1)
kinds_one n text behind old x y (inl h) (inr (inr (inr k))) = absurd (full old.taken k.room h.1)
kinds_one n text behind old x y (inr (inl h)) (inl k) = absurd (full old.taken h.1.room k.1)
kinds_one n text behind old x y (inr (inl h)) (inr (inl k)) = h.0 ∙ sym k.0
kinds_one n text behind old x y (inr (inl h)) (inr (inr (inl k))) = absurd (h.1.not_utf8 k.2.utf8)
kinds_one n text behind old x y (inr (inl h)) (inr (inr (inr k))) = absurd (h.1.not_utf8 k.utf8)
kinds_one n text behind old x y (inr (inr (inl h))) (inl k) = absurd (full old.taken h.2.room k.1)
kinds_one n text behind old x y (inr (inr (inl h))) (inr (inl k)) = absurd (k.1.not_utf8 h.2.utf8)
kinds_one n text behind old x y (inr (inr (inl h))) (inr (inr (inl k))) = h.1 ∙ ap (λ (p : ℕ). Syntax p) (fails_one (front_of text) text h.0 k.0 h.2.fault k.2.fault) ∙ sym k.1
kinds_one n text behind old x y (inr (inr (inl h))) (inr (inr (inr k))) = absurd (says_or_fails (front_of text) text k.piece h.0 k.says h.2.fault)
kinds_one n text behind old x y (inr (inr (inr h))) (inl k) = absurd (full old.taken h.room k.1)
kinds_one n text behind old x y (inr (inr (inr h))) (inr (inl k)) = absurd (k.1.not_utf8 h.utf8)
kinds_one n text behind old x y (inr (inr (inr h))) (inr (inr (inl k))) = absurd (says_or_fails (front_of text) text h.piece k.0 h.says k.2.fault)
kinds_one n text behind old x y (inr (inr (inr h))) (inr (inr (inr k))) =
    let same = says_one (front_of text) text h.piece k.piece h.says k.says in
    same_err (put n k.piece behind old) x y (subst (λ (p : Piece). put n p behind old ≡ Err x) same h.put) k.put

leads_or_kinds : (n : ℕ) (text : List ℕ) (behind : List (List ℕ)) (old : Reading) (a : Onward) (x : LineFault) → LeadsOn n text behind old a → Kinds x n text behind old → ⊥
leads_or_kinds n text behind old a x h (inl k) = full old.taken h.room k.1
leads_or_kinds n text behind old a x h (inr (inl k)) = k.1.not_utf8 h.utf8
leads_or_kinds n text behind old a x h (inr (inr (inl k))) = says_or_fails (front_of text) text h.piece k.0 h.says k.2.fault
leads_or_kinds n text behind old a x h (inr (inr (inr k))) =
    let same = says_one (front_of text) text h.piece k.piece h.says k.says in
    ok_or_err (put n k.piece behind old) a x (subst (λ (p : Piece). put n p behind old ≡ Ok a) same h.put) k.put

fault_one : (n : ℕ) (text : List ℕ) (behind : List (List ℕ)) (old : Reading) (x y : LineFault) → IsFault x n text behind old → IsFault y n text behind old → x ≡ y
fault_one n text behind old x y h k = kinds_one n text behind old x y (kinds x n text behind old h) (kinds y n text behind old k)

leads_or_fault : (n : ℕ) (line : List ℕ) (behind : List (List ℕ)) (old : Reading) (a : Onward) (x : LineFault) → is_doing (text_of line) ≡ true → Leads n line behind old a
    → IsFault x n (text_of line) behind old → ⊥
leads_or_fault n line behind old a x doing h k = leads_or_kinds n (text_of line) behind old a x (doing_leads n line behind old a doing h) (kinds x n (text_of line) behind old k)

-- ---- all lines

lead_one : (lines : List (List ℕ)) (n d : ℕ) (old a b : Reading) → LeadTo n d lines old a → LeadTo n d lines old b → a ≡ b
lead_one [] n d old a b h k = sym h ∙ k
lead_one (l ∷ ls) n (suc d) old a b h k = lead_one ls (n + 1) d old a b h k
lead_one (l ∷ ls) n zero old a b h k =
    let same = line_one n l ls old h.0 k.0 h.1 k.1 in
    lead_one ls (n + 1) k.0.data_lines k.0.reading a b (subst (λ (x : Onward). LeadTo (n + 1) x.data_lines ls x.reading a) same h.2) k.2

stops_one : (lines : List (List ℕ)) (n d : ℕ) (old : Reading) (a b : ℕ) (x y : LineFault) → Stops n d lines old a x → Stops n d lines old b y → (a ≡ b) × (x ≡ y)
stops_one [] n d old a b x y h k = absurd h
stops_one (l ∷ ls) n (suc d) old a b x y h k = stops_one ls (n + 1) d old a b x y h k
stops_one (l ∷ ls) n zero old a b x y (inl h) (inl k) = (h.0 ∙ sym k.0, fault_one n (text_of l) ls old x y h.2 k.2)
stops_one (l ∷ ls) n zero old a b x y (inl h) (inr k) = absurd (leads_or_fault n l ls old k.0 x h.1 k.1 h.2)
stops_one (l ∷ ls) n zero old a b x y (inr h) (inl k) = absurd (leads_or_fault n l ls old h.0 y k.1 h.1 k.2)
stops_one (l ∷ ls) n zero old a b x y (inr h) (inr k) =
    let same = line_one n l ls old h.0 k.0 h.1 k.1 in
    stops_one ls (n + 1) k.0.data_lines k.0.reading a b x y (subst (λ (z : Onward). Stops (n + 1) z.data_lines ls z.reading a x) same h.2) k.2

lead_or_stop : (lines : List (List ℕ)) (n d : ℕ) (old a : Reading) (b : ℕ) (x : LineFault) → LeadTo n d lines old a → Stops n d lines old b x → ⊥
lead_or_stop [] n d old a b x h k = k
lead_or_stop (l ∷ ls) n (suc d) old a b x h k = lead_or_stop ls (n + 1) d old a b x h k
lead_or_stop (l ∷ ls) n zero old a b x h (inl k) = leads_or_fault n l ls old h.0 x k.1 h.1 k.2
lead_or_stop (l ∷ ls) n zero old a b x h (inr k) =
    let same = line_one n l ls old h.0 k.0 h.1 k.1 in
    lead_or_stop ls (n + 1) k.0.data_lines k.0.reading a b x (subst (λ (z : Onward). LeadTo (n + 1) z.data_lines ls z.reading a) same h.2) k.2

-- ---- the laws

pub one_script : (bytes : List ℕ) (a b : Script) → IsScriptOf bytes a → IsScriptOf bytes b → a ≡ b
one_script bytes a b h k = h.is ∙ ap script_of (lead_one (lines_of bytes) 1 0 start h.end k.end h.lead k.lead) ∙ sym k.is

pub script_or_fault : (bytes : List ℕ) (script : Script) (line : ℕ) (cause : LineFault) → IsScriptOf bytes script → IsFirstFault bytes line cause → ⊥
script_or_fault bytes script line cause h k = lead_or_stop (lines_of bytes) 1 0 start h.end line cause h.lead k

first_one : (lines : List Line) (a b : ℕ) → IsFirstUnbuilt lines a → IsFirstUnbuilt lines b → a ≡ b
first_one [] a b h k = absurd h
first_one (l ∷ ls) a b (inl h) (inl k) = h.1 ∙ sym k.1
first_one (l ∷ ls) a b (inl h) (inr k) = absurd (h.0 k.0)
first_one (l ∷ ls) a b (inr h) (inl k) = absurd (k.0 h.0)
first_one (l ∷ ls) a b (inr h) (inr k) = first_one ls a b h.1 k.1

at_one : (o : Option ℕ) (lines : List Line) (a b : ℕ) → IsUnbuiltAt o lines a → IsUnbuiltAt o lines b → a ≡ b
at_one (Some first) lines a b h k = h ∙ sym k
at_one None lines a b h k = first_one lines a b h k

pub one_fault : (bytes : List ℕ) (a b : ℕ) (x y : LineFault) → IsRefused bytes a x → IsRefused bytes b y → (a ≡ b) × (x ≡ y)
one_fault bytes a b x y (inl h) (inl k) = stops_one (lines_of bytes) 1 0 start a b x y h k
one_fault bytes a b x y (inl h) (inr k) = absurd (lead_or_stop (lines_of bytes) 1 0 start k.1.end a x k.1.lead h)
one_fault bytes a b x y (inr h) (inl k) = absurd (lead_or_stop (lines_of bytes) 1 0 start h.1.end b y h.1.lead k)
one_fault bytes a b x y (inr h) (inr k) =
    let same = lead_one (lines_of bytes) 1 0 start h.1.end k.1.end h.1.lead k.1.lead in
    (at_one k.1.end.declared k.1.end.lines a b (subst (λ (r : Reading). IsUnbuiltAt r.declared r.lines a) same h.1.first) k.1.first, h.0 ∙ sym k.0)

run_or_first : (lines : List Line) (a : ℕ) → AllByRecursion IsRunnableLine lines → IsFirstUnbuilt lines a → ⊥
run_or_first [] a h k = k
run_or_first (l ∷ ls) a h (inl k) = k.0 h.0
run_or_first (l ∷ ls) a h (inr k) = run_or_first ls a h.1 k.1

run_or_at : (o : Option ℕ) (lines : List Line) (a : ℕ) → o ≡ None → AllByRecursion IsRunnableLine lines → IsUnbuiltAt o lines a → ⊥
run_or_at (Some first) lines a none h k = let bad : Some first ≡ None = none in cc
run_or_at None lines a none h k = run_or_first lines a h k

pub run_or_refused : (bytes : List ℕ) (script : Script) (line : ℕ) (cause : LineFault) → IsRunScriptOf bytes script → IsRefused bytes line cause → ⊥
run_or_refused bytes script line cause h (inl k) = lead_or_stop (lines_of bytes) 1 0 start h.end line cause h.lead k
run_or_refused bytes script line cause h (inr k) =
    let same = lead_one (lines_of bytes) 1 0 start h.end k.1.end h.lead k.1.lead in
    run_or_at h.end.declared h.end.lines line h.none h.each (subst (λ (r : Reading). IsUnbuiltAt r.declared r.lines line) (sym same) k.1.first)
