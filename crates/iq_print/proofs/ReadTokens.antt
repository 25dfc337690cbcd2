-- Tokens that the grammar takes: none of them is a mark that no text has. So what is read can be printed.
use Rattle.std.proofs.Common.{◌≡◌, ℕ, Bool, true, false, ◌&&◌, List, [], ◌∷◌, ◌++◌, refl, sym, subst, inl, inr}
use Rattle.std.specs.List.{AllByRecursion}
use Rattle.iq_ast.specs.declared.statements.Statement.{Statement}
use Rattle.iq_tokens.specs.declared.tokens.Mark.{Mark}
use Rattle.iq_tokens.specs.declared.tokens.Kind.{Kind}
use Rattle.iq_tokens.specs.declared.tokens.Kind.TheVariants as kind
use Rattle.iq_tokens.specs.declared.tokens.Lexeme.{Lexeme}
use Rattle.iq_tokens.specs.declared.tokens.Lexeme.TheVariants as lexeme
use Rattle.iq_tokens.specs.Kinds.{same_mark, kind_of}
use Rattle.iq_tokens.specs.Tokens.{IsLexeme, lexemes, tokens_of}
use Rattle.iq_grammar.specs.declared.grammar.Part.{Part}
use Rattle.iq_grammar.specs.declared.grammar.Part.TheVariants as part
use Rattle.iq_grammar.specs.declared.grammar.Symbol.{Symbol}
use Rattle.iq_grammar.specs.declared.grammar.Symbol.TheVariants.{Word, Go}
use Rattle.iq_grammar.specs.Grammar.{Line, lines, IsAmong, Sign, Fits, done, taken, chosen, lacking}
use Rattle.iq_grammar.specs.Reading.{text_of}
use Rattle.iq_grammar.specs.Statements.{IsStatementOf}
use Rattle.iq_grammar.proofs.Steps.{and_true, same_is}
use Rattle.iq_grammar.proofs.Sound.{is_real}
use Rattle.iq_spelling.proofs.ApartStatements.{text_told}
use Rattle.iq_token_text.specs.Tokens.{AreLexemes}
use Rattle.iq_print.specs.Words.{statement_text}
use Rattle.iq_print.specs.Spellable.{IsSpellable}
use Rattle.iq_print.proofs.StatementForms.{text_is_read}
use Rattle.iq_print.proofs.CutTokens.{IsCut, tokens_cut}
use Rattle.iq_print.proofs.StatementsSpelled.{text_can}

-- ---- no symbol is of such a mark

abbrev all_real : List Symbol → Bool
all_real [] = true
all_real (Word k r ∷ ss) = is_real k && all_real ss
all_real (Go p ∷ ss) = all_real ss

abbrev lines_real : List Line → Bool
lines_real [] = true
lines_real (l ∷ ls) = (is_real l.kind && all_real l.rest) && lines_real ls

each_real : (p : Part) → lines_real (lines p) ≡ true
unfolding lines same_mark
each_real part.Statement = refl
each_real _ = refl

line_real : (ls : List Line) (l : Line) → lines_real ls ≡ true → IsAmong ls l → (is_real l.kind && all_real l.rest) ≡ true
line_real [] l real among = absurd among
line_real (x ∷ xs) l real (inl is) = subst (λ (y : Line). (is_real y.kind && all_real y.rest) ≡ true) is (and_true _ _ real).0
line_real (x ∷ xs) l real (inr among) = line_real xs l (and_true _ _ real).1 among

real_append : (xs ys : List Symbol) → all_real xs ≡ true → all_real ys ≡ true → all_real (xs ++ ys) ≡ true
real_append [] ys p q = q
real_append (Word k r ∷ xs) ys p q = let both = and_true (is_real k) (all_real xs) p in rw (both.0, real_append xs ys both.1 q) refl
real_append (Go part ∷ xs) ys p q = real_append xs ys p q

-- ---- no token is

abbrev IsTaken : Lexeme → Type 0
IsTaken l = is_real (kind_of l) ≡ true

taken_real : (ss : List Symbol) (ms : List Sign) → Fits ss ms → all_real ss ≡ true → AllByRecursion IsTaken (text_of ms)
taken_real _ _ done real = tt
taken_real _ _ (taken k r l ss ms is fit) real =
    let both = and_true (is_real k) (all_real ss) real in
    (subst (λ (j : Kind). is_real j ≡ true) (sym (same_is (kind_of l) k is)) both.0, taken_real ss ms fit both.1)
taken_real _ _ (chosen p l ss ms among fit) real =
    let both = and_true (is_real l.kind) (all_real l.rest) (line_real (lines p) l (each_real p) among) in
    taken_real (Word l.kind l.role ∷ (l.rest ++ ss)) ms fit (rw (both.0, real_append l.rest ss both.1 real) refl)
taken_real _ _ (lacking p ss ms lack fit) real = taken_real ss ms fit real

is_lexeme : (l : Lexeme) → IsCut l → IsTaken l → IsLexeme l
unfolding same_mark
is_lexeme (lexeme.Mark m) is real = (
  λ e. let never : false ≡ true = subst (λ (n : Mark). is_real (kind.Mark n) ≡ true) e real in absurd cc,
  λ e. let never : false ≡ true = subst (λ (n : Mark). is_real (kind.Mark n) ≡ true) e real in absurd cc,
)
is_lexeme (lexeme.Name n) is real = is
is_lexeme (lexeme.Number v) is real = is
is_lexeme (lexeme.Text t) is real = is

are_lexemes : (ls : List Lexeme) → AllByRecursion IsCut ls → AllByRecursion IsTaken ls → AreLexemes ls
are_lexemes [] are real = tt
are_lexemes (l ∷ ls) are real = (is_lexeme l are.0 real.0, are_lexemes ls are.1 real.1)

-- the tokens of a text that is read as a statement
tokens_real : (text : List ℕ) (s : Statement) → IsStatementOf text s → AreLexemes (lexemes (tokens_of text))
tokens_real text s says =
    are_lexemes (lexemes (tokens_of text)) (tokens_cut 1 0 text)
    (subst (AllByRecursion IsTaken) says.spelled.text (taken_real _ says.spelled.signs says.spelled.fits refl))

pub read_can : (text : List ℕ) (s : Statement) → IsStatementOf text s → IsSpellable s
read_can text s says = text_can s (lexemes (tokens_of text)) (text_told s (lexemes (tokens_of text)) says) (tokens_real text s says)

pub read_again : (text : List ℕ) (s : Statement) → IsStatementOf text s → IsStatementOf (statement_text s) s
read_again text s says = text_is_read s (read_can text s says)
