-- What one line does to the script under way, or why it may not stand there.
use Rattle.std.specs.Prelude.{◌≡◌, ◌≤◌, ◌<◌, ℕ, zero, suc, ◌+◌, min, Bool, ◌||◌, if◌then◌else◌, List, [], ◌∷◌, ◌++◌, length, take, Option, Some, None, Result, Ok, Err, nat_eq, nat_lt, nat_le, codes, ⊤}
use Rattle.std.specs.List.{list_any, position, flat_map}
use Rattle.std.specs.Cmp.Lexicographic.{pointwise}
use Rattle.iq_base.specs.declared.nodes.NodeKind.{NodeKind}
use Rattle.iq_base.specs.declared.nodes.NodeKind.TheVariants.{Coordinator, Writer, Reader}
use Rattle.iq_base.specs.declared.nodes.NodeSpec.{NodeSpec}
use Rattle.iq_base.specs.declared.nodes.SessionSpec.{SessionSpec}
use Rattle.iq_ast.specs.declared.statements.Statement.{Statement}
use Rattle.iq_ast.specs.declared.statements.Statement.TheVariants as statements
use Rattle.iq_ast.specs.declared.statements.Write.{Write}
use Rattle.iq_ast.specs.declared.statements.Write.TheVariants as writes
use Rattle.iq_model.specs.declared.scripts.Step.{Step}
use Rattle.iq_model.specs.declared.scripts.Step.TheVariants as steps
use Rattle.iq_model.specs.declared.scripts.Deed.{Deed}
use Rattle.iq_model.specs.declared.scripts.Deed.TheVariants as deeds
use Rattle.iq_model.specs.declared.scripts.Line.{Line}
use Rattle.iq_model.specs.declared.scripts.TheConstants.{MOST_LINES}
use Rattle.iq_grammar.specs.declared.directives.Directive.{Directive}
use Rattle.iq_grammar.specs.declared.directives.Directive.TheVariants as directives
use Rattle.iq_script.specs.declared.faults.LineFault.{LineFault}
use Rattle.iq_script.specs.declared.faults.LineFault.TheVariants as faults
use Rattle.iq_script.specs.declared.faults.Flaw.{Flaw}
use Rattle.iq_script.specs.declared.faults.Flaw.TheVariants as flaws
use Rattle.iq_script.specs.declared.loads.Loaded.{Loaded}
use Rattle.iq_script.specs.declared.loads.Wanted.{Wanted}
use Rattle.iq_script.specs.declared.pieces.Piece.{Piece}
use Rattle.iq_script.specs.declared.pieces.Piece.TheVariants as pieces
use Rattle.iq_script.specs.declared.reading.TheConstants.{MOST_NODES, MOST_SESSIONS}
use Rattle.iq_script.specs.declared.reading.Reading.{Reading}

infixl 10 ◌>>=◌
abbrev pub ◌>>=◌ : {A B : Type 0} → Result A LineFault → (A → Result B LineFault) → Result B LineFault
(Ok x) >>= f = f x
(Err e) >>= f = Err e

-- ---- names

abbrev pub node : List ℕ → NodeKind → NodeSpec
node name kind = record { name = name; kind = kind }

abbrev pub session : List ℕ → ℕ → SessionSpec
session name place = record { name = name; node = place; lines = 0 }

abbrev pub node_place : List ℕ → List NodeSpec → Option ℕ
node_place name nodes = position (λ (n : NodeSpec). pointwise nat_eq n.name name) nodes

abbrev pub session_place : List ℕ → List SessionSpec → Option ℕ
session_place name sessions = position (λ (s : SessionSpec). pointwise nat_eq s.name name) sessions

abbrev pub has_node : List ℕ → List NodeSpec → Bool
has_node name nodes = list_any (λ (n : NodeSpec). pointwise nat_eq n.name name) nodes

abbrev pub has_session : List ℕ → List SessionSpec → Bool
has_session name sessions = list_any (λ (s : SessionSpec). pointwise nat_eq s.name name) sessions

-- whether the name serves a node or a session: it serves once
abbrev pub is_declared : List ℕ → Reading → Bool
is_declared name r = has_node name r.nodes || has_session name r.sessions

-- ---- declarations

-- The first declaration is the coordinator's. It takes the place of the node and the session that there are without any.
abbrev pub first_node : ℕ → List ℕ → NodeKind → Reading → Result Reading LineFault
first_node number name Coordinator r = Ok (record r { declared = Some number; nodes = node name Coordinator ∷ []; sessions = [] })
first_node number name Writer r = Err faults.NoCoordinator
first_node number name Reader r = Err faults.NoCoordinator

abbrev pub more_node : List ℕ → NodeKind → Reading → Result Reading LineFault
more_node name kind r =
    if is_declared name r then Err (faults.NodeTwice name)
    else (if nat_lt (length r.nodes) MOST_NODES then Ok (record r { nodes = r.nodes ++ node name kind ∷ [] }) else Err faults.TooManyNodes)

abbrev pub later_node : List ℕ → NodeKind → Reading → Result Reading LineFault
later_node name Coordinator r = Err faults.SecondCoordinator
later_node name Writer r = more_node name Writer r
later_node name Reader r = more_node name Reader r

abbrev pub put_node : Option ℕ → ℕ → List ℕ → NodeKind → Reading → Result Reading LineFault
put_node None number name kind r = first_node number name kind r
put_node (Some first) number name kind r = later_node name kind r

abbrev pub session_on : List ℕ → List ℕ → Option ℕ → Reading → Result Reading LineFault
session_on name on None r = Err (faults.UnknownNode on)
session_on name on (Some place) r =
    if nat_lt (length r.sessions) MOST_SESSIONS then Ok (record r { sessions = r.sessions ++ session name place ∷ [] }) else Err faults.TooManySessions

abbrev pub put_session : Option ℕ → List ℕ → List ℕ → Reading → Result Reading LineFault
put_session None name on r = Err faults.NoCoordinator
put_session (Some first) name on r = if is_declared name r then Err (faults.SessionTwice name) else session_on name on (node_place on r.nodes) r

-- a declaration stands before all steps and statements
abbrev pub in_time : List Line → Result Reading LineFault → Result Reading LineFault
in_time [] put = put
in_time (line ∷ lines) put = Err faults.LateDeclaration

-- ---- steps and statements

abbrev pub line : ℕ → Option ℕ → Deed → Line
line number place deed = record { number = number; session = place; deed = deed }

abbrev pub put_step : ℕ → Step → Reading → Result Reading LineFault
put_step number step r = Ok (record r { lines = r.lines ++ line number None (deeds.Step step) ∷ [] })

abbrev pub put_directive : ℕ → Directive → Reading → Result Reading LineFault
put_directive number (directives.Node name kind) r = in_time r.lines (put_node r.declared number name kind r)
put_directive number (directives.Session name on) r = in_time r.lines (put_session r.declared name on r)
put_directive number (directives.Apply name) r = put_step number (steps.Apply name) r
put_directive number (directives.Report name) r = put_step number (steps.Report name) r
put_directive number (directives.Lose n) r = put_step number (steps.Lose n) r
put_directive number (directives.Take n) r = put_step number (steps.Take n) r
put_directive number (directives.Restart name) r = put_step number (steps.Restart name) r
put_directive number (directives.Exclude name) r = put_step number (steps.Exclude name) r
put_directive number (directives.Include name) r = put_step number (steps.Include name) r
put_directive number directives.Space r = put_step number steps.Space r
put_directive number directives.Versions r = put_step number steps.Versions r

-- the place of the session that is named, or of the first; where no session is, it is s that is unknown
abbrev pub known : List ℕ → Option ℕ → Result ℕ LineFault
known name None = Err (faults.UnknownSession name)
known name (Some place) = Ok place

abbrev pub first_of : List SessionSpec → Result ℕ LineFault
first_of [] = Err (faults.UnknownSession (codes "s"))
first_of (s ∷ ss) = Ok 0

abbrev pub place_of : Option (List ℕ) → List SessionSpec → Result ℕ LineFault
place_of None sessions = first_of sessions
place_of (Some name) sessions = known name (session_place name sessions)

-- one line more for the session at this place
abbrev pub counted_at : ℕ → List SessionSpec → List SessionSpec
counted_at place [] = []
counted_at zero (s ∷ ss) = record s { lines = min (s.lines + 1) 4294967295 } ∷ ss
counted_at (suc place) (s ∷ ss) = s ∷ counted_at place ss

-- a statement with its data, and how many lines these are
abbrev pub loaded : Statement → ℕ → Loaded
loaded s n = record { statement = s; data_lines = n }

-- the bytes of so many of these lines, their ends with them
abbrev pub data_of : ℕ → List (List ℕ) → List ℕ
data_of rows lines = flat_map (λ (l : List ℕ). l) (take rows lines)

-- the data of a LOAD are so many lines behind it
abbrev pub load : List ℕ → ℕ → List (List ℕ) → Result Loaded LineFault
load table rows behind =
    if nat_le rows (length behind) then Ok (loaded (statements.Write (writes.Load table rows (data_of rows behind))) rows) else Err faults.ShortLoad

-- the table and the count of lines of a LOAD
abbrev pub wanted : List ℕ → ℕ → Wanted
wanted table rows = record { table = table; rows = rows }

-- what data a write wants: a LOAD alone does
abbrev pub wanted_by : Write → Option Wanted
wanted_by (writes.CreateTable name schema) = None
wanted_by (writes.DropTable name) = None
wanted_by (writes.CreateIndex name kind table column second) = None
wanted_by (writes.DropIndex table name) = None
wanted_by (writes.Insert table rows) = None
wanted_by (writes.Load table rows text) = Some (wanted table rows)
wanted_by (writes.Delete table cond) = None
wanted_by (writes.Update table changes cond) = None

abbrev pub wanted_of : Statement → Option Wanted
wanted_of (statements.Write write) = wanted_by write
wanted_of (statements.Select select) = None
wanted_of statements.Begin = None
wanted_of statements.Commit = None
wanted_of statements.Rollback = None
wanted_of (statements.Savepoint name) = None
wanted_of (statements.BackTo name) = None
wanted_of (statements.Release name) = None
wanted_of statements.Sync = None

abbrev pub with_wanted : Option Wanted → Statement → List (List ℕ) → Result Loaded LineFault
with_wanted None s behind = Ok (loaded s 0)
with_wanted (Some w) s behind = load w.table w.rows behind

-- a statement with its data, of the lines behind it
abbrev pub with_data : Statement → List (List ℕ) → Result Loaded LineFault
with_data s behind = with_wanted (wanted_of s) s behind

-- the script under way behind a line, and how many lines of data follow
pub record Onward : Type 0 where
  pub reading : Reading
  pub data_lines : ℕ

abbrev pub on : Reading → ℕ → Onward
on r n = record { reading = r; data_lines = n }

abbrev pub put_statement : ℕ → Option (List ℕ) → Statement → List (List ℕ) → Reading → Result Onward LineFault
put_statement number name s behind r =
    place_of name r.sessions >>= λ (place : ℕ).
    with_data s behind >>= λ (l : Loaded).
    Ok (on (record r { lines = r.lines ++ line number (Some place) (deeds.Statement l.statement) ∷ []; sessions = counted_at place r.sessions }) l.data_lines)

-- ---- any line

abbrev pub put_piece : ℕ → Piece → List (List ℕ) → Reading → Result Onward LineFault
put_piece number (pieces.Statement name s) behind r = put_statement number name s behind r
put_piece number (pieces.Directive d) behind r = put_directive number d r >>= λ (q : Reading). Ok (on q 0)

-- what such a line does, with the lines behind it: it is one more that does something
abbrev pub put : ℕ → Piece → List (List ℕ) → Reading → Result Onward LineFault
put number piece behind r = put_piece number piece behind (record r { taken = r.taken + 1 })

-- ---- what functions tell

-- there are so many lines, and these are their bytes
pub record IsDataOf (rows : ℕ) (lines : List (List ℕ)) (bytes : List ℕ) : Type 0 where
  pub enough : rows ≤ length lines
  pub is : bytes ≡ data_of rows lines

-- few enough nodes and sessions are declared, and there is room for a line
pub record HasRoom (r : Reading) : Type 0 where
  pub nodes : length r.nodes ≤ MOST_NODES
  pub sessions : length r.sessions ≤ MOST_SESSIONS
  pub line : r.taken < MOST_LINES

-- a changed reading is what the definition gives, or the fault is, unless memory is wanting
abbrev pub Changes : Result Reading LineFault → Result ⊤ Flaw → Reading → Type 0
Changes wanted (Ok done) new = wanted ≡ Ok new
Changes wanted (Err (flaws.Fault cause)) new = wanted ≡ Err cause
Changes wanted (Err flaws.NoMemory) new = ⊤

-- the same of a line with lines of data behind it
abbrev pub Steps : Result Onward LineFault → Result ℕ Flaw → Reading → Type 0
Steps wanted (Ok n) new = wanted ≡ Ok (on new n)
Steps wanted (Err (flaws.Fault cause)) new = wanted ≡ Err cause
Steps wanted (Err flaws.NoMemory) new = ⊤

-- the same of a statement with its data
abbrev pub Loads : Result Loaded LineFault → Result Loaded Flaw → Type 0
Loads wanted (Ok l) = wanted ≡ Ok l
Loads wanted (Err (flaws.Fault cause)) = wanted ≡ Err cause
Loads wanted (Err flaws.NoMemory) = ⊤
