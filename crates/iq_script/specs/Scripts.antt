-- Which script some bytes are, which line is their first fault, and which is the first that isn't run today.
use Rattle.std.specs.Prelude.{◌≡◌, ◌<◌, ◌≤◌, ℕ, zero, suc, ◌+◌, true, MatchBool, List, [], ◌∷◌, length, Option, Some, None, Ok, Err, ◌⊎◌, ⊤}
use Rattle.std.specs.Str.{IsUtf8}
use Rattle.std.specs.List.{AllByRecursion}
use Rattle.iq_model.specs.declared.scripts.Line.{Line}
use Rattle.iq_model.specs.declared.scripts.Script.{Script}
use Rattle.iq_model.specs.declared.scripts.TheConstants.{MOST_LINES}
use Rattle.iq_model.specs.Scripts.{the_node, the_session, IsRunnableLine}
use Rattle.iq_script.specs.Lines.{lines_of, text_of, is_doing}
use Rattle.iq_script.specs.Pieces.{IsPieceOf, IsSyntaxOf}
use Rattle.iq_script.specs.Putting.{Onward, on, put}
use Rattle.iq_script.specs.declared.faults.LineFault.{LineFault}
use Rattle.iq_script.specs.declared.faults.LineFault.TheVariants.{TooManyLines, NotUtf8, Syntax, LateDeclaration, NoCoordinator, SecondCoordinator, NodeTwice, TooManyNodes, SessionTwice, UnknownNode, TooManySessions, UnknownSession, ShortLoad, Unbuilt}
use Rattle.iq_script.specs.declared.faults.Flaw.{Flaw}
use Rattle.iq_script.specs.declared.faults.Flaw.TheVariants as flaws
use Rattle.iq_script.specs.declared.faults.ScriptRefusal.{ScriptRefusal}
use Rattle.iq_script.specs.declared.faults.ScriptRefusal.TheVariants as refusals
use Rattle.iq_script.specs.declared.pieces.Piece.{Piece}
use Rattle.iq_script.specs.declared.reading.Reading.{Reading}
use Rattle.iq_script.specs.declared.reading.TheConstants.{MOST_NODES, MOST_SESSIONS}

-- before the first line: one coordinator and one session on it, as if they had been declared, and no lines
abbrev pub start : Reading
start = record { declared = None; nodes = the_node ∷ []; sessions = the_session 0 ∷ []; lines = []; taken = 0 }

-- ---- one line

-- the text of a line that does something stands there, and leads on
pub record LeadsOn (number : ℕ) (text : List ℕ) (behind : List (List ℕ)) (old : Reading) (new : Onward) : Type 0 where
  pub room : old.taken < MOST_LINES
  pub utf8 : IsUtf8 text
  pub piece : Piece
  pub says : IsPieceOf text piece
  pub put : put number piece behind old ≡ Ok new

-- a line with the lines behind it leads on: one that does nothing to what was
abbrev pub Leads : ℕ → List ℕ → List (List ℕ) → Reading → Onward → Type 0
Leads number line behind old new = MatchBool (is_doing (text_of line)) (LeadsOn number (text_of line) behind old new) (new ≡ on old 0)

-- it says what may not stand there
pub record IsMisplaced (cause : LineFault) (number : ℕ) (text : List ℕ) (behind : List (List ℕ)) (old : Reading) : Type 0 where
  pub room : old.taken < MOST_LINES
  pub utf8 : IsUtf8 text
  pub piece : Piece
  pub says : IsPieceOf text piece
  pub put : put number piece behind old ≡ Err cause

-- it says nothing
pub record IsWrong (place : ℕ) (text : List ℕ) (old : Reading) : Type 0 where
  pub room : old.taken < MOST_LINES
  pub utf8 : IsUtf8 text
  pub fault : IsSyntaxOf text place

-- it isn't UTF-8
pub record IsNotUtf8 (text : List ℕ) (old : Reading) : Type 0 where
  pub room : old.taken < MOST_LINES
  pub not_utf8 : IsUtf8 text → ⊥

-- What each cause says of the text of a line that does something, in the order in which they are tested.
abbrev pub IsFault : LineFault → ℕ → List ℕ → List (List ℕ) → Reading → Type 0
IsFault TooManyLines number text behind old = old.taken ≡ MOST_LINES
IsFault NotUtf8 number text behind old = IsNotUtf8 text old
IsFault (Syntax place) number text behind old = IsWrong place text old
IsFault LateDeclaration number text behind old = IsMisplaced LateDeclaration number text behind old
IsFault NoCoordinator number text behind old = IsMisplaced NoCoordinator number text behind old
IsFault SecondCoordinator number text behind old = IsMisplaced SecondCoordinator number text behind old
IsFault (NodeTwice name) number text behind old = IsMisplaced (NodeTwice name) number text behind old
IsFault TooManyNodes number text behind old = IsMisplaced TooManyNodes number text behind old
IsFault (SessionTwice name) number text behind old = IsMisplaced (SessionTwice name) number text behind old
IsFault (UnknownNode name) number text behind old = IsMisplaced (UnknownNode name) number text behind old
IsFault TooManySessions number text behind old = IsMisplaced TooManySessions number text behind old
IsFault (UnknownSession name) number text behind old = IsMisplaced (UnknownSession name) number text behind old
IsFault ShortLoad number text behind old = IsMisplaced ShortLoad number text behind old
IsFault Unbuilt number text behind old = ⊥

-- ---- all lines

-- The lines from this number on, of which the first so many are data of a LOAD before them, lead from one reading to another.
abbrev pub LeadTo : ℕ → ℕ → List (List ℕ) → Reading → Reading → Type 0
LeadTo number data_lines [] old new = old ≡ new
LeadTo number (suc n) (line ∷ lines) old new = LeadTo (number + 1) n lines old new
LeadTo number zero (line ∷ lines) old new = (next : Onward) × Leads number line lines old next × LeadTo (number + 1) next.data_lines lines next.reading new

-- the lines lead to one that does something and is faulty: its number, and its cause
abbrev pub Stops : ℕ → ℕ → List (List ℕ) → Reading → ℕ → LineFault → Type 0
Stops number data_lines [] old at cause = ⊥
Stops number (suc n) (line ∷ lines) old at cause = Stops (number + 1) n lines old at cause
Stops number zero (line ∷ lines) old at cause =
    ((at ≡ number) × (is_doing (text_of line) ≡ true) × IsFault cause number (text_of line) lines old)
    ⊎ ((next : Onward) × Leads number line lines old next × Stops (number + 1) next.data_lines lines next.reading at cause)

-- the script that was read
abbrev pub script_of : Reading → Script
script_of r = record { nodes = r.nodes; sessions = r.sessions; lines = r.lines }

-- the bytes are this script
pub record IsScriptOf (bytes : List ℕ) (script : Script) : Type 0 where
  pub end : Reading
  pub lead : LeadTo 1 0 (lines_of bytes) start end
  pub is : script ≡ script_of end

-- the first faulty line of the bytes, with its cause
abbrev pub IsFirstFault : List ℕ → ℕ → LineFault → Type 0
IsFirstFault bytes line cause = Stops 1 0 (lines_of bytes) start line cause

-- ---- what is run today

-- the number of the first of these lines that isn't run today
abbrev pub IsFirstUnbuilt : List Line → ℕ → Type 0
IsFirstUnbuilt [] number = ⊥
IsFirstUnbuilt (line ∷ lines) number = ((IsRunnableLine line → ⊥) × (number ≡ line.number)) ⊎ (IsRunnableLine line × IsFirstUnbuilt lines number)

-- the first line that isn't run today: the first declaration, or else the first such of the others
abbrev pub IsUnbuiltAt : Option ℕ → List Line → ℕ → Type 0
IsUnbuiltAt (Some first) lines number = number ≡ first
IsUnbuiltAt None lines number = IsFirstUnbuilt lines number

-- The bytes are a script, and this is its first line that isn't run today.
pub record IsUnbuilt (bytes : List ℕ) (line : ℕ) : Type 0 where
  pub end : Reading
  pub lead : LeadTo 1 0 (lines_of bytes) start end
  pub first : IsUnbuiltAt end.declared end.lines line

-- The bytes are this script, which declares nothing, and all of whose lines are run today.
pub record IsRunScriptOf (bytes : List ℕ) (script : Script) : Type 0 where
  pub end : Reading
  pub lead : LeadTo 1 0 (lines_of bytes) start end
  pub is : script ≡ script_of end
  pub none : end.declared ≡ None
  pub each : AllByRecursion IsRunnableLine end.lines

-- ---- refusals

-- a refused line is the first faulty one, or it is the first that isn't run today, where none is faulty
abbrev pub IsRefused : List ℕ → ℕ → LineFault → Type 0
IsRefused bytes line cause = IsFirstFault bytes line cause ⊎ ((cause ≡ Unbuilt) × IsUnbuilt bytes line)

-- a refusal has its cause: a refused line with what is wrong with it, or want of memory
abbrev pub IsCause : List ℕ → ScriptRefusal → Type 0
IsCause bytes (refusals.ScriptFault line cause) = IsRefused bytes line cause
IsCause bytes refusals.NoMemory = ⊤

-- ---- laws

-- the bytes are one script at most
abbrev pub HasOneScript : List ℕ → Type 0
HasOneScript bytes = (a b : Script) → IsScriptOf bytes a → IsScriptOf bytes b → a ≡ b

-- the bytes are refused for one line at most, and one cause
abbrev pub HasOneFault : List ℕ → Type 0
HasOneFault bytes = (a b : ℕ) (x y : LineFault) → IsRefused bytes a x → IsRefused bytes b y → (a ≡ b) × (x ≡ y)

-- the bytes aren't both a script and at fault
abbrev pub IsNotBoth : List ℕ → Type 0
IsNotBoth bytes = (script : Script) (line : ℕ) (cause : LineFault) → IsScriptOf bytes script → IsFirstFault bytes line cause → ⊥

-- the bytes aren't both a script that is run and refused
abbrev pub IsRunOrRefused : List ℕ → Type 0
IsRunOrRefused bytes = (script : Script) (line : ℕ) (cause : LineFault) → IsRunScriptOf bytes script → IsRefused bytes line cause → ⊥

-- ---- what functions tell

-- few enough nodes and sessions are declared, and not too many lines did something
pub record IsBounded (r : Reading) : Type 0 where
  pub nodes : length r.nodes ≤ MOST_NODES
  pub sessions : length r.sessions ≤ MOST_SESSIONS
  pub lines : r.taken ≤ MOST_LINES

-- a text isn't UTF-8, or it says nothing
abbrev pub IsPieceFault : LineFault → List ℕ → Type 0
IsPieceFault TooManyLines text = ⊥
IsPieceFault NotUtf8 text = IsUtf8 text → ⊥
IsPieceFault (Syntax place) text = IsUtf8 text × IsSyntaxOf text place
IsPieceFault LateDeclaration text = ⊥
IsPieceFault NoCoordinator text = ⊥
IsPieceFault SecondCoordinator text = ⊥
IsPieceFault (NodeTwice name) text = ⊥
IsPieceFault TooManyNodes text = ⊥
IsPieceFault (SessionTwice name) text = ⊥
IsPieceFault (UnknownNode name) text = ⊥
IsPieceFault TooManySessions text = ⊥
IsPieceFault (UnknownSession name) text = ⊥
IsPieceFault ShortLoad text = ⊥
IsPieceFault Unbuilt text = ⊥

abbrev pub IsPieceFlaw : List ℕ → Flaw → Type 0
IsPieceFlaw text (flaws.Fault cause) = IsPieceFault cause text
IsPieceFlaw text flaws.NoMemory = ⊤

abbrev pub IsTextFlaw : ℕ → List ℕ → List (List ℕ) → Reading → Flaw → Type 0
IsTextFlaw number text behind old (flaws.Fault cause) = IsFault cause number text behind old
IsTextFlaw number text behind old flaws.NoMemory = ⊤

abbrev pub IsLineFlaw : ℕ → List ℕ → List (List ℕ) → Reading → Flaw → Type 0
IsLineFlaw number line behind old (flaws.Fault cause) = (is_doing (text_of line) ≡ true) × IsFault cause number (text_of line) behind old
IsLineFlaw number line behind old flaws.NoMemory = ⊤

abbrev pub IsReadCause : List ℕ → ScriptRefusal → Type 0
IsReadCause bytes (refusals.ScriptFault line cause) = IsFirstFault bytes line cause
IsReadCause bytes refusals.NoMemory = ⊤

-- the first line of these that isn't run today, or none
abbrev pub IsUnbuiltOf : List Line → Option ℕ → Type 0
IsUnbuiltOf lines None = AllByRecursion IsRunnableLine lines
IsUnbuiltOf lines (Some number) = IsFirstUnbuilt lines number

-- the first declaration, or else the first of the other lines that isn't run today, or that all lines are run
abbrev pub IsUnbuiltIn : Reading → Option ℕ → Type 0
IsUnbuiltIn r (Some number) = IsUnbuiltAt r.declared r.lines number
IsUnbuiltIn r None = (r.declared ≡ None) × AllByRecursion IsRunnableLine r.lines
