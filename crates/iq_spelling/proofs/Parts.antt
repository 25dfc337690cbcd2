-- Reading tokens whose places don't matter, part by part.
use Rattle.std.proofs.Common.{◌≡◌, ℕ, true, List, [], ◌∷◌, ◌++◌, None, Result, refl, sym, ap, subst, ◌∙◌, append_assoc}
use Rattle.std.specs.Prelude.{⊤}
use Rattle.std.proofs.lemmas.List.{append-nil}
use Rattle.iq_tokens.specs.declared.tokens.Mark.{Mark}
use Rattle.iq_tokens.specs.declared.tokens.Lexeme.{Lexeme}
use Rattle.iq_tokens.specs.Kinds.{kind_of}
use Rattle.iq_grammar.specs.declared.grammar.Part.{Part}
use Rattle.iq_grammar.specs.declared.grammar.Symbol.{Symbol}
use Rattle.iq_grammar.specs.declared.grammar.Symbol.TheVariants.{Go}
use Rattle.iq_grammar.specs.declared.draft.Draft.{Draft}
use Rattle.iq_grammar.specs.Grammar.{lines, may_lack, beginning, after, can_end}
use Rattle.iq_grammar.specs.Reading.{run, next}
use Rattle.iq_grammar.proofs.Laws.{placed}
use Rattle.iq_grammar.proofs.Sound.{has, follow, apart_none, lack_apart}
use Rattle.iq_spelling.specs.Lists.{word, AreMore, AreJoined, Obey}

-- what reading the tokens gives
abbrev pub reads : Draft → List Symbol → List Lexeme → Result Draft ℕ
reads d ss ls = run 0 d ss (placed ls)

-- what may stand behind a part
abbrev pub Behind : Part → List Lexeme → Type 0
Behind p [] = ⊤
Behind p (l ∷ ls) = has (follow p) (kind_of l) ≡ true

-- a part that is left out
pub skip : (p : Part) (d : Draft) (ss : List Symbol) (ts : List Lexeme) → may_lack p ≡ true → Behind p ts → reads d (Go p ∷ ss) ts ≡ reads d ss ts
unfolding run next after can_end
skip p d ss [] lack behind = rw lack refl
skip p d ss (l ∷ ts) lack behind =
    let none : beginning (kind_of l) (lines p) ≡ None = apart_none (kind_of l) (lines p) (follow p) (lack_apart p lack) behind in
    rw (none, lack) refl

-- what stands behind a member: a comma, or what stands behind the list
pub behind_member : {A : Type 0} (m : Mark) (P : A → List Lexeme → Type 0) (B : List Lexeme → Type 0) → ((us : List Lexeme) → B (word m ∷ us))
    → (xs : List A) (ls ts : List Lexeme) → AreMore m P xs ls → B ts → B (ls ++ ts)
behind_member m P B comma [] ls ts none b = subst B (sym (ap (λ (l : List Lexeme). l ++ ts) none)) b
behind_member m P B comma (x ∷ xs) ls ts (a, c, one, more, is) b = subst B (sym (ap (λ (l : List Lexeme). l ++ ts) is)) (comma ((a ++ c) ++ ts))

-- A list's members behind the first, one by one. Beside the list something else of the draft may change; a member is read before what B says.
pub more_reads : {A S : Type 0} (m : Mark) (P : A → List Lexeme → Type 0) (p : Part) (ss : List Symbol) (with_list : S → List A → Draft) (Q : List A → A → Type 0)
    (B : List Lexeme → Type 0) → ((us : List Lexeme) → B (word m ∷ us))
    → ((s : S) (xs : List A) (x : A) (a ts : List Lexeme) → P x a → Q xs x → B ts → (t : S) × (reads (with_list s xs) (Go p ∷ ss) (word m ∷ (a ++ ts)) ≡ reads (with_list t (xs ++ x ∷ [])) (Go p ∷ ss) ts))
    → (s : S) (ys xs : List A) (ls ts : List Lexeme) → AreMore m P xs ls → Obey Q ys xs → B ts
    → (t : S) × (reads (with_list s ys) (Go p ∷ ss) (ls ++ ts) ≡ reads (with_list t (ys ++ xs)) (Go p ∷ ss) ts)
more_reads {A = A} m P p ss with_list Q B comma each s ys [] ls ts none obey behind =
    (s, ap (λ (x : List Lexeme). reads (with_list s ys) (Go p ∷ ss) (x ++ ts)) none ∙ ap (λ (x : List A). reads (with_list s x) (Go p ∷ ss) ts) (sym (append-nil ys)))
more_reads {A = A} m P p ss with_list Q B comma each s ys (x ∷ xs) ls ts (a, b, one, more, is) obey behind =
    let here = each s ys x a (b ++ ts) one obey.0 (behind_member m P B comma xs b ts more behind) in
    let rest = more_reads m P p ss with_list Q B comma each here.0 (ys ++ x ∷ []) xs b ts more obey.1 behind in
    let text : ls ++ ts ≡ word m ∷ (a ++ (b ++ ts)) = ap (λ (l : List Lexeme). l ++ ts) is ∙ ap (λ (l : List Lexeme). word m ∷ l) (append_assoc a b ts) in
    (rest.0, ap (λ (l : List Lexeme). reads (with_list s ys) (Go p ∷ ss) l) text ∙ here.1 ∙ rest.1 ∙ ap (λ (l : List A). reads (with_list rest.0 l) (Go p ∷ ss) ts) (append_assoc ys (x ∷ []) xs))

-- the first member is read as it may, and then the others
pub listed_reads : {A S : Type 0} (m : Mark) (P : A → List Lexeme → Type 0) (p : Part) (now ss : List Symbol) (d : Draft) (with_list : S → List A → Draft) (Q : List A → A → Type 0)
    (B : List Lexeme → Type 0) → ((us : List Lexeme) → B (word m ∷ us))
    → ((x : A) (a ts : List Lexeme) → P x a → Q [] x → B ts → (t : S) × (reads d now (a ++ ts) ≡ reads (with_list t (x ∷ [])) (Go p ∷ ss) ts))
    → ((s : S) (xs : List A) (x : A) (a ts : List Lexeme) → P x a → Q xs x → B ts → (t : S) × (reads (with_list s xs) (Go p ∷ ss) (word m ∷ (a ++ ts)) ≡ reads (with_list t (xs ++ x ∷ [])) (Go p ∷ ss) ts))
    → (xs : List A) (ls ts : List Lexeme) → AreJoined m P xs ls → Obey Q [] xs → B ts
    → (t : S) × (reads d now (ls ++ ts) ≡ reads (with_list t xs) (Go p ∷ ss) ts)
listed_reads m P p now ss d with_list Q B comma first each [] ls ts none obey behind = absurd none
listed_reads m P p now ss d with_list Q B comma first each (x ∷ xs) ls ts (a, b, one, more, is) obey behind =
    let here = first x a (b ++ ts) one obey.0 (behind_member m P B comma xs b ts more behind) in
    let rest = more_reads m P p ss with_list Q B comma each here.0 (x ∷ []) xs b ts more obey.1 behind in
    let text : ls ++ ts ≡ a ++ (b ++ ts) = ap (λ (l : List Lexeme). l ++ ts) is ∙ append_assoc a b ts in
    (rest.0, ap (λ (l : List Lexeme). reads d now l) text ∙ here.1 ∙ rest.1)

-- nothing is asked of what stands behind
abbrev pub Any : List Lexeme → Type 0
Any ls = ⊤

pub any : (us : List Lexeme) → Any us
any us = tt

-- no rule
abbrev pub Free : {A : Type 0} → List A → A → Type 0
Free xs x = ⊤

pub all_free : {A : Type 0} (ys xs : List A) → Obey Free ys xs
all_free ys [] = tt
all_free ys (x ∷ xs) = (tt, all_free (ys ++ x ∷ []) xs)
