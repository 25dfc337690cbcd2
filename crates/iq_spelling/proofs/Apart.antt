-- What symbols spell, taken apart from left to right: each lemma of the way back says of a part that the tokens begin with a text of it, and that
-- the rest spells the symbols behind it in the draft that the part leaves.
use Rattle.std.proofs.Common.{◌≡◌, ◌<◌, ◌≤◌, ℕ, Bool, true, false, ◌&&◌, List, [], ◌∷◌, ◌++◌, Option, Some, None, refl, sym, ap, subst, ◌∙◌, inl, inr, arith, ℤ}
use Rattle.std.specs.Prelude.{◌⊎◌, ⊤, if◌then◌else◌, nat_lt, nat_le}
use Rattle.std.proofs.lemmas.Bool.Decides.{nat_tests}
use Rattle.iq_tokens.specs.declared.tokens.Kind.{Kind}
use Rattle.iq_tokens.specs.declared.tokens.Kind.TheVariants as kind
use Rattle.iq_tokens.specs.declared.tokens.Lexeme.{Lexeme}
use Rattle.iq_tokens.specs.declared.tokens.Lexeme.TheVariants as lexeme
use Rattle.iq_tokens.specs.Kinds.{same, kind_of}
use Rattle.iq_grammar.specs.declared.grammar.Role.{Role}
use Rattle.iq_grammar.specs.declared.grammar.Part.{Part}
use Rattle.iq_grammar.specs.declared.grammar.Symbol.{Symbol}
use Rattle.iq_grammar.specs.declared.grammar.Symbol.TheVariants.{Word, Go}
use Rattle.iq_grammar.specs.declared.draft.Draft.{Draft}
use Rattle.iq_grammar.specs.Grammar.{Line, lines, may_lack, IsAmong, Sign, Fits, done, taken, chosen, lacking}
use Rattle.iq_grammar.specs.Draft.{◌>>=◌, put}
use Rattle.iq_grammar.specs.Reading.{built, text_of, Spells}
use Rattle.iq_grammar.proofs.Steps.{bind_some, some_is, same_is, and_true}

-- ---- one symbol

-- a token of the kind, whatever it holds
abbrev pub OfKind : Kind → (Lexeme → Type 0) → Type 0
OfKind (kind.Mark m) P = P (lexeme.Mark m)
OfKind kind.Name P = (n : List ℕ) × P (lexeme.Name n)
OfKind kind.Number P = (v : ℤ) × P (lexeme.Number v)
OfKind kind.Text P = (t : List ℕ) × P (lexeme.Text t)

-- the draft that there is
abbrev pub Made : Option Draft → (Draft → Type 0) → Type 0
Made None P = ⊥
Made (Some d) P = P d

-- a token is of its kind
of_own_kind : (l : Lexeme) (P : Lexeme → Type 0) → P l → OfKind (kind_of l) P
of_own_kind (lexeme.Mark m) P p = p
of_own_kind (lexeme.Name n) P p = (n, p)
of_own_kind (lexeme.Number v) P p = (v, p)
of_own_kind (lexeme.Text t) P p = (t, p)

of_kind : (k : Kind) (l : Lexeme) (P : Lexeme → Type 0) → same (kind_of l) k ≡ true → P l → OfKind k P
of_kind k l P is p = subst (λ (j : Kind). OfKind j P) (same_is (kind_of l) k is) (of_own_kind l P p)

made : (o : Option Draft) (d : Draft) (P : Draft → Type 0) → o ≡ Some d → P d → Made o P
made o d P is p = subst (λ (x : Option Draft). Made x P) (sym is) p

-- the first token, in its role
record First (d : Draft) (k : Kind) (r : Role) (ss : List Symbol) (ls : List Lexeme) (e : Draft) : Type 0 where
  token : Lexeme
  rest : List Lexeme
  draft : Draft
  kind : same (kind_of token) k ≡ true
  puts : put d r token ≡ Some draft
  is : ls ≡ token ∷ rest
  left : Spells draft ss rest e

-- where a word is due, the tokens begin with one
word_first : (d : Draft) (k : Kind) (r : Role) (ss : List Symbol) (ls : List Lexeme) (e : Draft) (ms : List Sign) → Fits (Word k r ∷ ss) ms → text_of ms ≡ ls → built d ms ≡ Some e
    → First d k r ss ls e
word_first d k r ss ls e _ (taken _ _ l _ ms same fit) text makes =
    let b = bind_some (put d r l) (λ (f : Draft). built f ms) e makes in
    record {
      token = l;
      rest = text_of ms;
      draft = b.0;
      kind = same;
      puts = b.1;
      is = sym text;
      left = record { signs = ms; fits = fit; text = refl; makes = b.2 };
    }

-- where nothing is due, nothing is left
pub spells_none : (d : Draft) (ls : List Lexeme) (e : Draft) → Spells d [] ls e → (ls ≡ []) × (d ≡ e)
spells_none d ls e sp = none sp.signs sp.fits sp.text sp.makes
  where
    none : (ms : List Sign) → Fits [] ms → text_of ms ≡ ls → built d ms ≡ Some e → (ls ≡ []) × (d ≡ e)
    none _ done text makes = (sym text, some_is d e makes)

-- ---- the words of a line

-- the tokens begin with these words up to the first part, behind a front, and the rest spells what is left
abbrev pub Begins : Draft → List Symbol → List Symbol → (List Lexeme → List Lexeme) → List Lexeme → Draft → Type 0
Begins d [] ss front ls e = (us : List Lexeme) × (ls ≡ front us) × Spells d ss us e
Begins d (Go p ∷ xs) ss front ls e = (us : List Lexeme) × (ls ≡ front us) × Spells d (Go p ∷ (xs ++ ss)) us e
Begins d (Word k r ∷ xs) ss front ls e = OfKind k (λ (l : Lexeme). Made (put d r l) (λ (f : Draft). Begins f xs ss (λ (us : List Lexeme). front (l ∷ us)) ls e))

begins : (d : Draft) (xs ss : List Symbol) (front : List Lexeme → List Lexeme) (ls us : List Lexeme) (e : Draft) → ls ≡ front us → Spells d (xs ++ ss) us e → Begins d xs ss front ls e
begins d [] ss front ls us e is sp = (us, is, sp)
begins d (Go p ∷ xs) ss front ls us e is sp = (us, is, sp)
begins d (Word k r ∷ xs) ss front ls us e is sp =
    let w = word_first d k r (xs ++ ss) us e sp.signs sp.fits sp.text sp.makes in
    let rest = begins w.draft xs ss (λ (vs : List Lexeme). front (w.token ∷ vs)) ls w.rest e (is ∙ ap front w.is) w.left in
    of_kind k w.token (λ (l : Lexeme). Made (put d r l) (λ (f : Draft). Begins f xs ss (λ (vs : List Lexeme). front (l ∷ vs)) ls e)) w.kind
    (made (put d r w.token) w.draft (λ (f : Draft). Begins f xs ss (λ (vs : List Lexeme). front (w.token ∷ vs)) ls e) w.puts rest)

-- the words up to the first part, taken off
pub words : (d : Draft) (xs ss : List Symbol) (ls : List Lexeme) (e : Draft) → Spells d (xs ++ ss) ls e → Begins d xs ss (λ (us : List Lexeme). us) ls e
words d xs ss ls e sp = begins d xs ss (λ (us : List Lexeme). us) ls ls e refl sp

-- ---- the lines of a part

-- the tokens begin with the words of a line
abbrev pub BeginsWith : Draft → Line → List Symbol → List Lexeme → Draft → Type 0
BeginsWith d l ss ls e = Begins d (Word l.kind l.role ∷ l.rest) ss (λ (us : List Lexeme). us) ls e

infixr 5 ◌&◌
-- a proof, and those behind it
abbrev pub ◌&◌ : {A B : Type 0} → A → B → A × B
a & b = (a, b)

-- a proof for each line
abbrev pub Each : Draft → List Line → List Symbol → List Lexeme → Draft → Type 0 → Type 0
Each d [] ss ls e C = ⊤
Each d (l ∷ more) ss ls e C = (BeginsWith d l ss ls e → C) × Each d more ss ls e C

-- a proof where the part is left out, if it may be
abbrev pub OrLacks : Bool → Type 0 → Type 0
OrLacks true C = C
OrLacks false C = ⊤

-- proofs for each line, of what follows from what they prove
pub each_to : (d : Draft) (all : List Line) (ss : List Symbol) (ls : List Lexeme) (e : Draft) (B C : Type 0) → (B → C) → Each d all ss ls e B → Each d all ss ls e C
each_to d [] ss ls e B C f each = tt
each_to d (l ∷ more) ss ls e B C f each = (λ b. f (each.0 b), each_to d more ss ls e B C f each.1)

-- the proof for the line that was chosen
one_of : (d : Draft) (all : List Line) (l : Line) (ss : List Symbol) (ls : List Lexeme) (e : Draft) (C : Type 0) → IsAmong all l → Spells d (Word l.kind l.role ∷ (l.rest ++ ss)) ls e
    → Each d all ss ls e C → C
one_of d [] l ss ls e C among sp each = absurd among
one_of d (x ∷ xs) l ss ls e C (inl is) sp each =
    each.0 (words d (Word x.kind x.role ∷ x.rest) ss ls e (subst (λ (y : Line). Spells d (Word y.kind y.role ∷ (y.rest ++ ss)) ls e) (sym is) sp))
one_of d (x ∷ xs) l ss ls e C (inr among) sp each = one_of d xs l ss ls e C among sp each.1

-- a part is one of its lines, or left out
part_fits : (p : Part) (ss : List Symbol) (ms : List Sign) → Fits (Go p ∷ ss) ms
    → ((l : Line) × IsAmong (lines p) l × Fits (Word l.kind l.role ∷ (l.rest ++ ss)) ms) ⊎ ((may_lack p ≡ true) × Fits ss ms)
part_fits p ss ms (chosen _ l _ _ among fit) = inl (l, among, fit)
part_fits p ss ms (lacking _ _ _ lack fit) = inr (lack, fit)

-- What follows from each line of a part, and from nothing where it may be left out, follows where the part is due.
pub cases : (p : Part) (d : Draft) (ss : List Symbol) (ls : List Lexeme) (e : Draft) (C : Type 0) → OrLacks (may_lack p) (Spells d ss ls e → C) × Each d (lines p) ss ls e C
    → Spells d (Go p ∷ ss) ls e → C
cases p d ss ls e C proofs sp = of_fits (part_fits p ss sp.signs sp.fits)
  where
    lacks : (b : Bool) → OrLacks b (Spells d ss ls e → C) → b ≡ true → Spells d ss ls e → C
    lacks true f is left = f left
    lacks false f is left = absurd cc

    of_fits : ((l : Line) × IsAmong (lines p) l × Fits (Word l.kind l.role ∷ (l.rest ++ ss)) sp.signs) ⊎ ((may_lack p ≡ true) × Fits ss sp.signs) → C
    of_fits (inl (l, among, fit)) = one_of d (lines p) l ss ls e C among (record { signs = sp.signs; fits = fit; text = sp.text; makes = sp.makes }) proofs.1
    of_fits (inr (lack, fit)) = lacks (may_lack p) proofs.0 lack (record { signs = sp.signs; fits = fit; text = sp.text; makes = sp.makes })

-- ---- the rules

-- a draft under a test
pub if_made : (b : Bool) (d : Draft) (P : Draft → Type 0) → Made (if b then Some d else None) P → (b ≡ true) × P d
if_made true d P m = (refl, m)
if_made false d P m = absurd m

pub unless_made : (b : Bool) (d : Draft) (P : Draft → Type 0) → Made (if b then None else Some d) P → (b ≡ false) × P d
unless_made true d P m = absurd m
unless_made false d P m = (refl, m)

-- a number from 1 to the most
pub bounded_made : (most n : ℕ) (f : ℕ → Option Draft) (P : Draft → Type 0) → Made ((if nat_lt 0 n && nat_le n most then Some n else None) >>= f) P → (0 < n) × (n ≤ most) × Made (f n) P
bounded_made most n f P m = by_test (nat_lt 0 n && nat_le n most) refl m
  where
    by_test : (b : Bool) → nat_lt 0 n && nat_le n most ≡ b → Made ((if b then Some n else None) >>= f) P → (0 < n) × (n ≤ most) × Made (f n) P
    by_test true is m =
        let both = and_true (nat_lt 0 n) (nat_le n most) is in
        let some : 0 < n = grind (arith, nat_tests, both.0) in
        let few : n ≤ most = grind (arith, nat_tests, both.1) in
        (some, few, m)
    by_test false is m = absurd m

-- ---- a front of the tokens

-- the tokens begin with a text that P says, and the rest spells what is left
pub record Front (P : List Lexeme → Type 0) (d : Draft) (ss : List Symbol) (ls : List Lexeme) (e : Draft) : Type 0 where
  pub text : List Lexeme
  pub rest : List Lexeme
  pub says : P text
  pub is : ls ≡ text ++ rest
  pub left : Spells d ss rest e

-- a front that is known
pub exactly : (a : List Lexeme) (d : Draft) (ss : List Symbol) (ls us : List Lexeme) (e : Draft) → ls ≡ a ++ us → Spells d ss us e → Front (λ (x : List Lexeme). x ≡ a) d ss ls e
exactly a d ss ls us e is left = record { text = a; rest = us; says = refl; is = is; left = left }
