-- The laws of reading: what is read is spelled so, what is spelled is read, and the fault is where nothing goes on.
use Rattle.std.proofs.Common.{◌≡◌, ℕ, ◌+◌, Bool, true, false, List, [], ◌∷◌, ◌++◌, Option, Some, None, Result, Ok, Err, refl, sym, ap, subst, ◌∙◌}
use Rattle.std.specs.Prelude.{IfOk}
use Rattle.iq_tokens.specs.declared.tokens.Token.{Token}
use Rattle.iq_tokens.specs.declared.tokens.Lexeme.{Lexeme}
use Rattle.iq_tokens.specs.Kinds.{same, kind_of, same_mark}
use Rattle.iq_tokens.specs.Tokens.{lexemes}
use Rattle.iq_grammar.specs.declared.grammar.Symbol.{Symbol}
use Rattle.iq_grammar.specs.declared.faults.ParseFault.{ParseFault}
use Rattle.iq_grammar.specs.declared.faults.ParseFault.TheVariants.{Syntax}
use Rattle.iq_grammar.specs.Grammar.{Line, Sign, sign, Fits, after, can_end, lines, may_lack}
use Rattle.iq_grammar.specs.Draft.{◌>>=◌, empty, put}
use Rattle.iq_grammar.specs.declared.draft.Draft.{Draft}
use Rattle.iq_grammar.specs.Reading.{built, text_of, Spells, GoesOn, IsStuck, place_of, IsFault, State, state, next, ended, going, run, Gives, statement, directive, IsSpelled, IsFaultAt}
use Rattle.iq_grammar.proofs.Steps.{bind_some, some_is}
use Rattle.iq_grammar.proofs.Forms.{after_fits, end_fits, fits_end}
use Rattle.iq_grammar.proofs.Sound.{Apart, after_apart, step_taken, follow, marks_behind, closed, firsts, closed_apart}
use Rattle.iq_grammar.proofs.Ends.{has_text}

-- what a step to the next state is
record Stepped (d : Draft) (ss : List Symbol) (l : Lexeme) (s : State) : Type 0 where
  to : Line
  moves : after ss (kind_of l) ≡ Some to
  puts : put d to.role l ≡ Some s.draft
  left : to.rest ≡ s.symbols

stepped : (d : Draft) (ss : List Symbol) (l : Lexeme) (s : State) → next d ss l ≡ Some s → Stepped d ss l s
unfolding next
stepped d ss l s e =
    let a = bind_some (after ss (kind_of l)) (λ (to : Line). put d to.role l >>= λ (e : Draft). Some (state e to.rest)) s e in
    let b = bind_some (put d a.0.role l) (λ (e : Draft). Some (state e a.0.rest)) s a.2 in
    let is : state b.0 a.0.rest ≡ s = some_is _ _ b.2 in
    record { to = a.0; moves = a.1; puts = b.1 ∙ ap (λ (x : State). Some x.draft) is; left = ap (λ (x : State). x.symbols) is }

-- a token before those of the next state
spells_before : (d : Draft) (ss : List Symbol) (l : Lexeme) (s : State) (ls : List Lexeme) (e : Draft) → Stepped d ss l s → Spells s.draft s.symbols ls e → Spells d ss (l ∷ ls) e
spells_before d ss l s ls e step sp =
    record {
      signs = sign step.to.role l ∷ sp.signs;
      fits = after_fits ss l step.to sp.signs step.moves (subst (λ (x : List Symbol). Fits x sp.signs) (sym step.left) sp.fits);
      text = ap (λ (x : List Lexeme). l ∷ x) sp.text;
      makes = rw step.puts sp.makes;
    }

goes_before : (d : Draft) (ss : List Symbol) (l : Lexeme) (s : State) (ls : List Lexeme) → Stepped d ss l s → GoesOn s.draft s.symbols ls → GoesOn d ss (l ∷ ls)
goes_before d ss l s ls step g =
    record {
      signs = sign step.to.role l ∷ g.signs;
      more = g.more;
      made = g.made;
      real = g.real;
      fits = after_fits ss l step.to (g.signs ++ g.more) step.moves (subst (λ (x : List Symbol). Fits x (g.signs ++ g.more)) (sym step.left) g.fits);
      text = ap (λ (x : List Lexeme). l ∷ x) g.text;
      makes = rw step.puts g.makes;
    }

-- ---- what is read is spelled so

ended_ok : (b : Bool) (end : ℕ) (d e : Draft) → ended b end d ≡ Ok e → (b ≡ true) × (d ≡ e)
ended_ok true end d e h = (refl, cc)
ended_ok false end d e h = absurd cc

found_step : (end : ℕ) (t : Token) (ts : List Token) (d : Draft) (ss : List Symbol) (e : Draft) (o : Option State) → next d ss t.lexeme ≡ o
    → ((s : State) → run end s.draft s.symbols ts ≡ Ok e → Spells s.draft s.symbols (lexemes ts) e)
    → going o (λ (s : State). run end s.draft s.symbols ts) t.place ≡ Ok e → Spells d ss (lexemes (t ∷ ts)) e
found_step end t ts d ss e None is others h = absurd cc
found_step end t ts d ss e (Some s) is others h = spells_before d ss t.lexeme s (lexemes ts) e (stepped d ss t.lexeme s is) (others s h)

pub run_found : (end : ℕ) (ts : List Token) (d : Draft) (ss : List Symbol) (e : Draft) → run end d ss ts ≡ Ok e → Spells d ss (lexemes ts) e
unfolding run
run_found end [] d ss e h =
    let c = ended_ok (can_end ss) end d e h in
    record { signs = []; fits = end_fits ss c.0; text = refl; makes = ap Some c.1 }
run_found end (t ∷ ts) d ss e h = found_step end t ts d ss e (next d ss t.lexeme) refl (λ s. run_found end ts s.draft s.symbols e) h

-- ---- what is spelled is read

-- what the first of some tokens does
takes : (d : Draft) (ss : List Symbol) (m : Sign) (ms ns : List Sign) (e : Draft) → Fits ss (m ∷ ms) → Apart ss → built d (m ∷ ns) ≡ Some e
    → (to : State) × (next d ss m.lexeme ≡ Some to) × Apart to.symbols × Fits to.symbols ms × (built to.draft ns ≡ Some e)
unfolding next
takes d ss m ms ns e fit a makes =
    let s = step_taken ss m.role m.lexeme ms fit a in
    let b = bind_some (put d m.role m.lexeme) (λ (x : Draft). built x ns) e makes in
    let puts : put d s.to.role m.lexeme ≡ Some b.0 = rw s.role b.1 in
    (state b.0 s.to.rest, rw (s.is, puts) refl, after_apart ss (kind_of m.lexeme) s.to a s.is, s.fits, b.2)

pub run_only : (end : ℕ) (ms : List Sign) (ts : List Token) (d : Draft) (ss : List Symbol) (e : Draft) → Fits ss ms → Apart ss → built d ms ≡ Some e → text_of ms ≡ lexemes ts
    → run end d ss ts ≡ Ok e
unfolding run
run_only end [] [] d ss e fit a makes text = rw (fits_end ss [] fit refl) (ap Ok (some_is d e makes))
run_only end [] (t ∷ ts) d ss e fit a makes text = absurd cc
run_only end (m ∷ ms) [] d ss e fit a makes text = absurd cc
run_only end (m ∷ ms) (t ∷ ts) d ss e fit a makes text =
    let s = takes d ss m ms ms e fit a makes in
    let one : m.lexeme ≡ t.lexeme = cc in
    let to : next d ss t.lexeme ≡ Some s.0 = subst (λ (x : Lexeme). next d ss x ≡ Some s.0) one s.1 in
    rw to (run_only end ms ts s.0.draft s.0.symbols e s.3 s.2 s.4 cc)

-- ---- the place of the fault

-- nothing behind a first token that leads nowhere
no_first : (d : Draft) (ss : List Symbol) (l : Lexeme) → Apart ss → next d ss l ≡ None → GoesOn d ss (l ∷ []) → ⊥
no_first d ss l a none g = no_signs d ss l a none g.signs g.more g.made g.fits g.text g.makes
  where
    no_signs : (d : Draft) (ss : List Symbol) (l : Lexeme) → Apart ss → next d ss l ≡ None → (ms more : List Sign) (made : Draft) → Fits ss (ms ++ more) → text_of ms ≡ l ∷ [] → built d ms ≡ Some made → ⊥
    no_signs d ss l a none [] more made fit text makes = cc
    no_signs d ss l a none (m ∷ ms) more made fit text makes =
        let s = takes d ss m (ms ++ more) ms made fit a makes in
        let one : m.lexeme ≡ l = cc in
        let some : next d ss l ≡ Some s.0 = subst (λ (x : Lexeme). next d ss x ≡ Some s.0) one s.1 in
        cc

-- what goes on behind a first token that leads somewhere
goes_behind : (d : Draft) (ss : List Symbol) (l : Lexeme) (s : State) (ls : List Lexeme) → Apart ss → next d ss l ≡ Some s → GoesOn d ss (l ∷ ls) → GoesOn s.draft s.symbols ls
goes_behind d ss l s ls a is g = behind_signs g.signs g.fits g.text g.makes
  where
    behind_signs : (ms : List Sign) → Fits ss (ms ++ g.more) → text_of ms ≡ l ∷ ls → built d ms ≡ Some g.made → GoesOn s.draft s.symbols ls
    behind_signs [] fit text makes = absurd cc
    behind_signs (m ∷ ms) fit text makes =
        let n = takes d ss m (ms ++ g.more) ms g.made fit a makes in
        let one : m.lexeme ≡ l = cc in
        let some : next d ss l ≡ Some n.0 = subst (λ (x : Lexeme). next d ss x ≡ Some n.0) one n.1 in
        let to : n.0 ≡ s = some_is n.0 s (sym some ∙ is) in
        subst (λ (x : State). GoesOn x.draft x.symbols ls) to (record {
          signs = ms;
          more = g.more;
          made = g.made;
          real = g.real;
          fits = n.3;
          text = cc;
          makes = n.4;
        })

spells_behind : (d : Draft) (ss : List Symbol) (l : Lexeme) (s : State) (ls : List Lexeme) (e : Draft) → Apart ss → next d ss l ≡ Some s → Spells d ss (l ∷ ls) e → Spells s.draft s.symbols ls e
spells_behind d ss l s ls e a is g = behind_signs g.signs g.fits g.text g.makes
  where
    behind_signs : (ms : List Sign) → Fits ss ms → text_of ms ≡ l ∷ ls → built d ms ≡ Some e → Spells s.draft s.symbols ls e
    behind_signs [] fit text makes = absurd cc
    behind_signs (m ∷ ms) fit text makes =
        let n = takes d ss m ms ms e fit a makes in
        let one : m.lexeme ≡ l = cc in
        let some : next d ss l ≡ Some n.0 = subst (λ (x : Lexeme). next d ss x ≡ Some n.0) one n.1 in
        let to : n.0 ≡ s = some_is n.0 s (sym some ∙ is) in
        subst (λ (x : State). Spells x.draft x.symbols ls e) to (record { signs = ms; fits = n.3; text = cc; makes = n.4 })

goes_nowhere : (d : Draft) (ss : List Symbol) → Apart ss → GoesOn d ss []
goes_nowhere d ss a = let more = has_text ss a in record { signs = []; more = more.0; made = d; real = more.2; fits = more.1; text = refl; makes = refl }

-- the fault of the next state, seen from this one
stuck_before : (d : Draft) (ss : List Symbol) (l : Lexeme) (s : State) (front : List Lexeme) (rest : List Token) → Apart ss → next d ss l ≡ Some s
    → IsStuck s.draft s.symbols front rest → IsStuck d ss (l ∷ front) rest
stuck_before d ss l s front [] a is stuck = λ e sp. stuck e (spells_behind d ss l s front e a is sp)
stuck_before d ss l s front (r ∷ rest) a is stuck = λ g. stuck (goes_behind d ss l s (front ++ r.lexeme ∷ []) a is g)

fault_before : (end : ℕ) (d : Draft) (ss : List Symbol) (t : Token) (s : State) (ts : List Token) (n : ℕ) → Apart ss → next d ss t.lexeme ≡ Some s
    → IsFault end s.draft s.symbols ts n → IsFault end d ss (t ∷ ts) n
fault_before end d ss t s ts n a is f =
    record {
      front = t ∷ f.front;
      rest = f.rest;
      whole = ap (λ (x : List Token). t ∷ x) f.whole;
      is = f.is;
      goes = goes_before d ss t.lexeme s (lexemes f.front) (stepped d ss t.lexeme s is) f.goes;
      stuck = stuck_before d ss t.lexeme s (lexemes f.front) f.rest a is f.stuck;
    }

next_apart : (d : Draft) (ss : List Symbol) (l : Lexeme) (s : State) → Apart ss → next d ss l ≡ Some s → Apart s.symbols
next_apart d ss l s a is = let step = stepped d ss l s is in subst Apart step.left (after_apart ss (kind_of l) step.to a step.moves)

place_step : (end : ℕ) (t : Token) (ts : List Token) (d : Draft) (ss : List Symbol) (n : ℕ) (o : Option State) → next d ss t.lexeme ≡ o → Apart ss
    → ((s : State) → Apart s.symbols → run end s.draft s.symbols ts ≡ Err n → IsFault end s.draft s.symbols ts n)
    → going o (λ (s : State). run end s.draft s.symbols ts) t.place ≡ Err n → IsFault end d ss (t ∷ ts) n
place_step end t ts d ss n None is a others h =
    let count : n ≡ t.place = cc in
    record { front = []; rest = t ∷ ts; whole = refl; is = count; goes = goes_nowhere d ss a; stuck = no_first d ss t.lexeme a is }
place_step end t ts d ss n (Some s) is a others h = fault_before end d ss t s ts n a is (others s (next_apart d ss t.lexeme s a is) h)

end_step : (end : ℕ) (d : Draft) (ss : List Symbol) (n : ℕ) (b : Bool) → Apart ss → can_end ss ≡ b → ended b end d ≡ Err n → IsFault end d ss [] n
end_step end d ss n true a is h = absurd cc
end_step end d ss n false a is h =
    let count : n ≡ end + 1 = cc in
    record { front = []; rest = []; whole = refl; is = count; goes = goes_nowhere d ss a; stuck = λ e sp. no_end e sp }
  where
    none_left : (ms : List Sign) → text_of ms ≡ [] → ms ≡ []
    none_left [] e = refl
    none_left (m ∷ ms) e = absurd cc

    no_end : (e : Draft) → Spells d ss [] e → ⊥
    no_end e sp = let yes : can_end ss ≡ true = fits_end ss sp.signs sp.fits (none_left sp.signs sp.text) in cc

pub run_place : (end : ℕ) (ts : List Token) (d : Draft) (ss : List Symbol) (n : ℕ) → Apart ss → run end d ss ts ≡ Err n → IsFault end d ss ts n
unfolding run
run_place end [] d ss n a h = end_step end d ss n (can_end ss) a refl h
run_place end (t ∷ ts) d ss n a h = place_step end t ts d ss n (next d ss t.lexeme) refl a (λ s b. run_place end ts s.draft s.symbols n b) h

-- ---- a fault is told at its place

-- the state behind a first token that goes on
goes_next : (d : Draft) (ss : List Symbol) (l : Lexeme) (ls : List Lexeme) → Apart ss → GoesOn d ss (l ∷ ls) → (s : State) × (next d ss l ≡ Some s)
goes_next d ss l ls a g = by_signs g.signs g.fits g.text g.makes
  where
    by_signs : (ms : List Sign) → Fits ss (ms ++ g.more) → text_of ms ≡ l ∷ ls → built d ms ≡ Some g.made → (s : State) × (next d ss l ≡ Some s)
    by_signs [] fit text makes = absurd cc
    by_signs (m ∷ ms) fit text makes =
        let n = takes d ss m (ms ++ g.more) ms g.made fit a makes in
        let one : m.lexeme ≡ l = cc in
        (n.0, subst (λ (x : Lexeme). next d ss x ≡ Some n.0) one n.1)

stuck_behind : (d : Draft) (ss : List Symbol) (l : Lexeme) (s : State) (front : List Lexeme) (rest : List Token) → next d ss l ≡ Some s
    → IsStuck d ss (l ∷ front) rest → IsStuck s.draft s.symbols front rest
stuck_behind d ss l s front [] is stuck = λ e sp. stuck e (spells_before d ss l s front e (stepped d ss l s is) sp)
stuck_behind d ss l s front (r ∷ rest) is stuck = λ g. stuck (goes_before d ss l s (front ++ r.lexeme ∷ []) (stepped d ss l s is) g)

told_first : (end : ℕ) (t : Token) (ts : List Token) (d : Draft) (ss : List Symbol) (n : ℕ) (o : Option State) → next d ss t.lexeme ≡ o → Apart ss
    → (GoesOn d ss (t.lexeme ∷ []) → ⊥) → n ≡ t.place → going o (λ (s : State). run end s.draft s.symbols ts) t.place ≡ Err n
told_first end t ts d ss n None is a stuck place = ap Err (sym place)
told_first end t ts d ss n (Some s) is a stuck place =
    absurd (stuck (goes_before d ss t.lexeme s [] (stepped d ss t.lexeme s is) (goes_nowhere s.draft s.symbols (next_apart d ss t.lexeme s a is))))

told_end : (end : ℕ) (d : Draft) (ss : List Symbol) (n : ℕ) (b : Bool) → can_end ss ≡ b → ((e : Draft) → Spells d ss [] e → ⊥) → n ≡ end + 1 → ended b end d ≡ Err n
told_end end d ss n true is stuck place = absurd (stuck d (record { signs = []; fits = end_fits ss is; text = refl; makes = refl }))
told_end end d ss n false is stuck place = ap Err (sym place)

pub run_stuck : (end : ℕ) (front rest : List Token) (d : Draft) (ss : List Symbol) (n : ℕ) → Apart ss → GoesOn d ss (lexemes front) → IsStuck d ss (lexemes front) rest
    → n ≡ place_of end rest → run end d ss (front ++ rest) ≡ Err n
unfolding run
run_stuck end [] [] d ss n a g stuck is = told_end end d ss n (can_end ss) refl stuck is
run_stuck end [] (t ∷ rest) d ss n a g stuck is = told_first end t rest d ss n (next d ss t.lexeme) refl a stuck is
run_stuck end (f ∷ fs) rest d ss n a g stuck is =
    let s = goes_next d ss f.lexeme (lexemes fs) a g in
    rw s.1 (run_stuck end fs rest s.0.draft s.0.symbols n (next_apart d ss f.lexeme s.0 a s.1) (goes_behind d ss f.lexeme s.0 (lexemes fs) a s.1 g) (stuck_behind d ss f.lexeme s.0 (lexemes fs) rest s.1 stuck) is)

-- a fault's place is the one that reading tells
pub run_faulty : (end : ℕ) (ts : List Token) (d : Draft) (ss : List Symbol) (n : ℕ) → Apart ss → IsFault end d ss ts n → run end d ss ts ≡ Err n
run_faulty end ts d ss n a f = subst (λ (x : List Token). run end d ss x ≡ Err n) (sym f.whole) (run_stuck end f.front f.rest d ss n a f.goes f.stuck f.is)

-- ---- whole statements

statement_apart : Apart statement
unfolding lines may_lack follow marks_behind closed firsts can_end same same_mark
statement_apart = closed_apart statement refl

pub read_only : (end : ℕ) (ts : List Token) (d : Draft) → IsSpelled (lexemes ts) d → run end empty statement ts ≡ Ok d
read_only end ts d sp = run_only end sp.signs ts empty statement d sp.fits statement_apart sp.makes sp.text

pub read_place : (end : ℕ) (ts : List Token) (place : ℕ) → run end empty statement ts ≡ Err place → IsFaultAt end ts place
read_place end ts place h = run_place end ts empty statement place statement_apart h

-- tokens whose places are all 0
abbrev pub placed : List Lexeme → List Token
placed [] = []
placed (l ∷ ls) = record { place = 0; lexeme = l } ∷ placed ls

pub lexemes-placed : (ls : List Lexeme) → lexemes (placed ls) ≡ ls
lexemes-placed [] = refl
lexemes-placed (l ∷ ls) = ap (λ (x : List Lexeme). l ∷ x) (lexemes-placed ls)

pub spells_one : (ls : List Lexeme) (d e : Draft) → IsSpelled ls d → IsSpelled ls e → d ≡ e
spells_one ls d e p q =
    let a = read_only 0 (placed ls) d (subst (λ (x : List Lexeme). IsSpelled x d) (sym (lexemes-placed ls)) p) in
    let b = read_only 0 (placed ls) e (subst (λ (x : List Lexeme). IsSpelled x e) (sym (lexemes-placed ls)) q) in
    cc

-- ---- what the caller is told

pub told_found : (end : ℕ) (ts : List Token) (r : Result Draft ParseFault) → Gives r (run end empty statement ts) → IfOk r (IsSpelled (lexemes ts))
told_found end ts (Ok d) h = run_found end ts empty statement d h
told_found end ts (Err e) h = tt

pub told_only : (end : ℕ) (ts : List Token) (r : Result Draft ParseFault) → Gives r (run end empty statement ts) → (d : Draft) → IsSpelled (lexemes ts) d → Gives r (Ok d)
told_only end ts r h d sp = subst (λ (x : Result Draft ℕ). Gives r x) (read_only end ts d sp) h

pub told_place : (end : ℕ) (ts : List Token) (r : Result Draft ParseFault) → Gives r (run end empty statement ts) → (place : ℕ) → r ≡ Err (Syntax place) → IsFaultAt end ts place
told_place end ts r h place is = read_place end ts place (subst (λ (x : Result Draft ParseFault). Gives x (run end empty statement ts)) is h)

-- ---- whole directives

directive_apart : Apart directive
unfolding lines may_lack follow marks_behind closed firsts can_end same same_mark
directive_apart = closed_apart directive refl

directive_only : (end : ℕ) (ts : List Token) (d : Draft) → Spells empty directive (lexemes ts) d → run end empty directive ts ≡ Ok d
directive_only end ts d sp = run_only end sp.signs ts empty directive d sp.fits directive_apart sp.makes sp.text

pub directive_one : (ls : List Lexeme) (d e : Draft) → Spells empty directive ls d → Spells empty directive ls e → d ≡ e
directive_one ls d e p q =
    let a = directive_only 0 (placed ls) d (subst (λ (x : List Lexeme). Spells empty directive x d) (sym (lexemes-placed ls)) p) in
    let b = directive_only 0 (placed ls) e (subst (λ (x : List Lexeme). Spells empty directive x e) (sym (lexemes-placed ls)) q) in
    cc

pub directive_found : (end : ℕ) (ts : List Token) (r : Result Draft ParseFault) → Gives r (run end empty directive ts) → IfOk r (Spells empty directive (lexemes ts))
directive_found end ts (Ok d) h = run_found end ts empty directive d h
directive_found end ts (Err e) h = tt

pub directive_told : (end : ℕ) (ts : List Token) (r : Result Draft ParseFault) → Gives r (run end empty directive ts) → (d : Draft) → Spells empty directive (lexemes ts) d → Gives r (Ok d)
directive_told end ts r h d sp = subst (λ (x : Result Draft ℕ). Gives r x) (directive_only end ts d sp) h

pub directive_place : (end : ℕ) (ts : List Token) (r : Result Draft ParseFault) → Gives r (run end empty directive ts) → (place : ℕ) → r ≡ Err (Syntax place) → IsFault end empty directive ts place
directive_place end ts r h place is = run_place end ts empty directive place directive_apart (subst (λ (x : Result Draft ParseFault). Gives x (run end empty directive ts)) is h)

-- ---- a text has a statement or one place of its fault, and likewise a directive

no_both : (r : Result Draft ℕ) (d : Draft) (n : ℕ) → r ≡ Ok d → r ≡ Err n → ⊥
no_both r d n a b = let bad : Ok d ≡ Err n = sym a ∙ b in cc

same_place : (r : Result Draft ℕ) (m n : ℕ) → r ≡ Err m → r ≡ Err n → m ≡ n
same_place r m n a b = let same : Err m ≡ Err n = sym a ∙ b in cc

pub read_or_faulty : (end : ℕ) (ts : List Token) (d : Draft) (place : ℕ) → IsSpelled (lexemes ts) d → IsFaultAt end ts place → ⊥
read_or_faulty end ts d place sp f = no_both (run end empty statement ts) d place (read_only end ts d sp) (run_faulty end ts empty statement place statement_apart f)

pub one_faulty : (end : ℕ) (ts : List Token) (m n : ℕ) → IsFaultAt end ts m → IsFaultAt end ts n → m ≡ n
one_faulty end ts m n f g = same_place (run end empty statement ts) m n (run_faulty end ts empty statement m statement_apart f) (run_faulty end ts empty statement n statement_apart g)

pub directive_or_faulty : (end : ℕ) (ts : List Token) (d : Draft) (place : ℕ) → Spells empty directive (lexemes ts) d → IsFault end empty directive ts place → ⊥
directive_or_faulty end ts d place sp f = no_both (run end empty directive ts) d place (directive_only end ts d sp) (run_faulty end ts empty directive place directive_apart f)

pub directive_one_faulty : (end : ℕ) (ts : List Token) (m n : ℕ) → IsFault end empty directive ts m → IsFault end empty directive ts n → m ≡ n
directive_one_faulty end ts m n f g = same_place (run end empty directive ts) m n (run_faulty end ts empty directive m directive_apart f) (run_faulty end ts empty directive n directive_apart g)
