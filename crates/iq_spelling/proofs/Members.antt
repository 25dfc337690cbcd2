-- Lists that are spelled, taken apart member by member.
use Rattle.std.proofs.Common.{◌≡◌, true, ◌≤◌, ◌<◌, ℕ, zero, suc, ◌+◌, List, [], ◌∷◌, ◌++◌, length, refl, sym, ap, subst, ◌∙◌, append_assoc, length-append, inl, inr, arith}
use Rattle.std.specs.Prelude.{◌⊎◌}
use Rattle.std.proofs.lemmas.List.{append-nil}
use Rattle.iq_tokens.specs.declared.tokens.Mark.{Mark}
use Rattle.iq_tokens.specs.declared.tokens.Lexeme.{Lexeme}
use Rattle.iq_grammar.specs.declared.grammar.Part.{Part}
use Rattle.iq_grammar.specs.declared.grammar.Symbol.{Symbol}
use Rattle.iq_grammar.specs.declared.grammar.Symbol.TheVariants.{Go}
use Rattle.iq_grammar.specs.declared.draft.Draft.{Draft}
use Rattle.iq_grammar.specs.declared.grammar.Role.TheVariants as role
use Rattle.iq_grammar.specs.Grammar.{line, lines, may_lack}
use Rattle.iq_grammar.specs.Draft.{put}
use Rattle.iq_grammar.specs.Reading.{Spells}
use Rattle.iq_spelling.specs.Lists.{word, AreMore, AreJoined, Obey}
use Rattle.iq_spelling.proofs.Apart.{OrLacks, Each, cases, Front}

-- A list of As under way in a draft, which may hold something beside it; its members are joined by a mark, and each obeys a rule on those before it.
pub record Listing (A : Type 0) : Type 1 where
  pub mark : Mark
  pub Says : A → List Lexeme → Type 0
  pub Rule : List A → A → Type 0
  pub Beside : List A → Type 0
  pub draft : (xs : List A) → Beside xs → Draft

-- a text of the member, behind the mark
abbrev pub IsMarked : {A : Type 0} → Listing A → A → List Lexeme → Type 0
IsMarked l x ls = (a : List Lexeme) × l.Says x a × (ls ≡ word l.mark ∷ a)

-- the next member is there, and the rest spells what is left
pub record Next {A : Type 0} (l : Listing A) (xs : List A) (Text : A → List Lexeme → Type 0) (ss : List Symbol) (ls : List Lexeme) (e : Draft) : Type 0 where
  pub member : A
  pub beside : l.Beside (xs ++ member ∷ [])
  pub rule : l.Rule xs member
  pub front : Front (Text member) (l.draft (xs ++ member ∷ []) beside) ss ls e

-- a member, seen from the mark before it
pub marked : {A : Type 0} (l : Listing A) (xs : List A) (ss : List Symbol) (ls us : List Lexeme) (e : Draft) → ls ≡ word l.mark ∷ us → Next l xs l.Says ss us e → Next l xs (IsMarked l) ss ls e
marked l xs ss ls us e is n =
    record {
      member = n.member;
      beside = n.beside;
      rule = n.rule;
      front = record {
        text = word l.mark ∷ n.front.text;
        rest = n.front.rest;
        says = (n.front.text, n.front.says, refl);
        is = is ∙ ap (λ (x : List Lexeme). word l.mark ∷ x) n.front.is;
        left = n.front.left;
      };
    }

-- the rest of the members is there
abbrev Ends : {A : Type 0} → Listing A → (List Lexeme → Type 0) → List Symbol → List Lexeme → Draft → List A → Type 0
Ends l P ss ls e xs = (s : l.Beside xs) × Front P (l.draft xs s) ss ls e

abbrev pub Rest : {A : Type 0} → Listing A → List A → List Symbol → List Lexeme → Draft → Type 0
Rest {A = A} l ys ss ls e = (xs : List A) × Obey l.Rule ys xs × Ends l (AreMore l.mark l.Says xs) ss ls e (ys ++ xs)

-- where the list goes on from a draft that holds some members: it ends there, or with the next member before those behind it
go_on : {A : Type 0} (l : Listing A) (p : Part) (ss : List Symbol) (e : Draft) (n : ℕ)
    → ((ys : List A) (s : l.Beside ys) (us : List Lexeme) → length us < n → Spells (l.draft ys s) (Go p ∷ ss) us e → Rest l ys ss us e)
    → (ys : List A) (s : l.Beside ys) (ls : List Lexeme) → length ls ≤ n → Spells (l.draft ys s) ss ls e ⊎ Next l ys (IsMarked l) (Go p ∷ ss) ls e → Rest l ys ss ls e
go_on l p ss e n again ys s ls short (inl left) = ([], tt, subst (Ends l (λ (a : List Lexeme). a ≡ []) ss ls e) (sym (append-nil ys)) (s, record { text = []; rest = ls; says = refl; is = refl; left = left }))
go_on {A = A} l p ss e n again ys s ls short (inr here) =
    let rest = again (ys ++ here.member ∷ []) here.beside here.front.rest (shorter here.front.text here.front.says.0 here.front.rest here.front.is here.front.says.2) here.front.left in
    let text : here.front.text ++ rest.2.1.text ≡ word l.mark ∷ (here.front.says.0 ++ rest.2.1.text) = ap (λ (a : List Lexeme). a ++ rest.2.1.text) here.front.says.2 in (
      here.member ∷ rest.0,
      (here.rule, rest.1),
      subst (Ends l (AreMore l.mark l.Says (here.member ∷ rest.0)) ss ls e) (append_assoc ys (here.member ∷ []) rest.0) (
        rest.2.0,
        record {
          text = here.front.text ++ rest.2.1.text;
          rest = rest.2.1.rest;
          says = (here.front.says.0, rest.2.1.text, here.front.says.1, rest.2.1.says, text);
          is = here.front.is ∙ ap (λ (a : List Lexeme). here.front.text ++ a) rest.2.1.is ∙ sym (append_assoc here.front.text rest.2.1.text rest.2.1.rest);
          left = rest.2.1.left;
        },
      ),
    )
  where
    shorter : (a b vs : List Lexeme) → ls ≡ a ++ vs → a ≡ word l.mark ∷ b → length vs < n
    shorter a b vs p q =
        let whole : length ls ≡ length a + length vs = ap length p ∙ length-append a vs in
        let front : length a ≡ suc (length b) = ap length q in
        omega arith

-- how a member behind the first is found
abbrev pub Steps : {A : Type 0} → Listing A → Part → List Symbol → Draft → Type 0
Steps {A = A} l p ss e = (xs : List A) (s : l.Beside xs) (ls : List Lexeme) → Spells (l.draft xs s) (Go p ∷ ss) ls e → Spells (l.draft xs s) ss ls e ⊎ Next l xs (IsMarked l) (Go p ∷ ss) ls e

pub more_members : {A : Type 0} (l : Listing A) (p : Part) (ss : List Symbol) (e : Draft) → Steps l p ss e
    → (n : ℕ) (ys : List A) (s : l.Beside ys) (ls : List Lexeme) → length ls ≤ n → Spells (l.draft ys s) (Go p ∷ ss) ls e → Rest l ys ss ls e
more_members l p ss e step zero ys s ls short sp = go_on l p ss e zero (λ zs t us few left. absurd (omega arith)) ys s ls short (step ys s ls sp)
more_members l p ss e step (suc n) ys s ls short sp = go_on l p ss e (suc n) (λ zs t us few left. more_members l p ss e step n zs t us (omega arith) left) ys s ls short (step ys s ls sp)

-- a whole list, its first member and those behind it
pub record Listed {A : Type 0} (l : Listing A) (ss : List Symbol) (ls : List Lexeme) (e : Draft) : Type 0 where
  pub members : List A
  pub beside : l.Beside members
  pub rules : Obey l.Rule [] members
  pub front : Front (AreJoined l.mark l.Says members) (l.draft members beside) ss ls e

pub listed : {A : Type 0} (l : Listing A) (p : Part) (ss : List Symbol) (ls : List Lexeme) (e : Draft)
    → Steps l p ss e → Next l [] l.Says (Go p ∷ ss) ls e → Listed l ss ls e
listed l p ss ls e step first =
    let rest = more_members l p ss e step (length first.front.rest) (first.member ∷ []) first.beside first.front.rest (omega arith) first.front.left in
    record {
      members = first.member ∷ rest.0;
      beside = rest.2.0;
      rules = (first.rule, rest.1);
      front = record {
        text = first.front.text ++ rest.2.1.text;
        rest = rest.2.1.rest;
        says = (first.front.text, rest.2.1.text, first.front.says, rest.2.1.says, refl);
        is = first.front.is ∙ ap (λ (a : List Lexeme). first.front.text ++ a) rest.2.1.is ∙ sym (append_assoc first.front.text rest.2.1.text rest.2.1.rest);
        left = rest.2.1.left;
      };
    }

-- ---- members behind a comma

-- a part that is one line: the mark, a part of a member and itself again
abbrev pub IsList : Mark → Part → Part → Type 0
IsList m p q = (lines p ≡ line m role.Skip (Go q ∷ Go p ∷ []) ∷ []) × (may_lack p ≡ true)

-- how each member is found, the first or a later one
abbrev pub Members : {A : Type 0} → Listing A → Part → Part → List Symbol → Draft → Type 0
Members {A = A} l p q ss e = (xs : List A) (s : l.Beside xs) (ls : List Lexeme) → Spells (l.draft xs s) (Go q ∷ Go p ∷ ss) ls e → Next l xs l.Says (Go p ∷ ss) ls e

pub next_member : {A : Type 0} (l : Listing A) (p q : Part) (ss : List Symbol) (e : Draft) → IsList l.mark p q → Members l p q ss e → Steps l p ss e
unfolding put
next_member {A = A} l p q ss e is member xs s ls sp = cases p (l.draft xs s) ss ls e _ (lack, each) sp
  where
    lack : OrLacks (may_lack p) (Spells (l.draft xs s) ss ls e → Spells (l.draft xs s) ss ls e ⊎ Next l xs (IsMarked l) (Go p ∷ ss) ls e)
    lack = rw is.1 (λ left. inl left)

    each : Each (l.draft xs s) (lines p) ss ls e (Spells (l.draft xs s) ss ls e ⊎ Next l xs (IsMarked l) (Go p ∷ ss) ls e)
    each = rw is.0 (λ (us, text, left). inr (marked l xs (Go p ∷ ss) ls us e text (member xs s us left)), tt)

-- a list whose members are found alike
pub listed_alike : {A : Type 0} (l : Listing A) (p q : Part) (ss : List Symbol) (ls : List Lexeme) (e : Draft) → IsList l.mark p q → Members l p q ss e → (s : l.Beside [])
    → Spells (l.draft [] s) (Go q ∷ Go p ∷ ss) ls e → Listed l ss ls e
listed_alike l p q ss ls e is member s sp = listed l p ss ls e (next_member l p q ss e is member) (member [] s ls sp)
