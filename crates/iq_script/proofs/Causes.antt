-- Where a line may not stand: the causes that putting it tells.
use Rattle.std.proofs.Common.{◌≡◌, ℕ, Bool, true, false, List, [], ◌∷◌, length, Option, Some, None, Result, Ok, Err, subst}
use Rattle.std.specs.Prelude.{⊤, ◌+◌, ◌<◌, IfErr, if◌then◌else◌, nat_lt, nat_le}
use Rattle.std.specs.Str.{IsUtf8}
use Rattle.iq_base.specs.declared.nodes.NodeKind.{NodeKind}
use Rattle.iq_base.specs.declared.nodes.NodeKind.TheVariants.{Coordinator, Writer, Reader}
use Rattle.iq_base.specs.declared.nodes.SessionSpec.{SessionSpec}
use Rattle.iq_ast.specs.declared.statements.Statement.{Statement}
use Rattle.iq_model.specs.declared.scripts.Line.{Line}
use Rattle.iq_grammar.specs.declared.directives.Directive.{Directive}
use Rattle.iq_grammar.specs.declared.directives.Directive.TheVariants as directives
use Rattle.iq_script.specs.declared.faults.LineFault.{LineFault}
use Rattle.iq_script.specs.declared.faults.LineFault.TheVariants.{TooManyLines, NotUtf8, Syntax, LateDeclaration, NoCoordinator, SecondCoordinator, NodeTwice, TooManyNodes, SessionTwice, UnknownNode, TooManySessions, UnknownSession, ShortLoad, Unbuilt}
use Rattle.iq_script.specs.declared.faults.Flaw.{Flaw}
use Rattle.iq_script.specs.declared.faults.Flaw.TheVariants as flaws
use Rattle.iq_script.specs.declared.loads.Wanted.{Wanted}
use Rattle.iq_script.specs.declared.pieces.Piece.{Piece}
use Rattle.iq_script.specs.declared.pieces.Piece.TheVariants as pieces
use Rattle.iq_script.specs.declared.reading.Reading.{Reading}
use Rattle.iq_script.specs.Pieces.{IsPieceOf}
use Rattle.iq_script.specs.Putting.{◌>>=◌, node_place, session_place, is_declared, first_node, more_node, later_node, put_node, session_on, put_session, in_time, put_directive, known, first_of, place_of, wanted_of, with_wanted, with_data, put_statement, put_piece, put, Steps}
use Rattle.iq_script.specs.Scripts.{IsMisplaced, IsFault, IsTextFlaw}

-- the causes that speak of where a line stands
abbrev IsOfPlace : LineFault → Type 0
IsOfPlace TooManyLines = ⊥
IsOfPlace NotUtf8 = ⊥
IsOfPlace (Syntax place) = ⊥
IsOfPlace LateDeclaration = ⊤
IsOfPlace NoCoordinator = ⊤
IsOfPlace SecondCoordinator = ⊤
IsOfPlace (NodeTwice name) = ⊤
IsOfPlace TooManyNodes = ⊤
IsOfPlace (SessionTwice name) = ⊤
IsOfPlace (UnknownNode name) = ⊤
IsOfPlace TooManySessions = ⊤
IsOfPlace (UnknownSession name) = ⊤
IsOfPlace ShortLoad = ⊤
IsOfPlace Unbuilt = ⊥

-- a result tells no other cause
abbrev Tells : {A : Type 0} → Result A LineFault → Type 0
Tells (Ok x) = ⊤
Tells (Err e) = IsOfPlace e

told : {A : Type 0} (p : Result A LineFault) (e : LineFault) → Tells p → p ≡ Err e → IsOfPlace e
told p e h is = subst (λ (q : Result _ LineFault). Tells q) is h

tells_if : {A : Type 0} (b : Bool) (p q : Result A LineFault) → Tells p → Tells q → Tells (if b then p else q)
tells_if true p q h k = h
tells_if false p q h k = k

tells_bind : {A B : Type 0} (p : Result A LineFault) (f : A → Result B LineFault) → Tells p → ((x : A) → Tells (f x)) → Tells (p >>= f)
tells_bind (Ok x) f h k = k x
tells_bind (Err e) f h k = h

tells_in_time : (lines : List Line) (p : Result Reading LineFault) → Tells p → Tells (in_time lines p)
tells_in_time [] p h = h
tells_in_time (l ∷ ls) p h = tt

tells_first : (number : ℕ) (name : List ℕ) (kind : NodeKind) (r : Reading) → Tells (first_node number name kind r)
tells_first number name Coordinator r = tt
tells_first number name Writer r = tt
tells_first number name Reader r = tt

tells_more : (name : List ℕ) (kind : NodeKind) (r : Reading) → Tells (more_node name kind r)
tells_more name kind r = tells_if (is_declared name r) _ _ tt (tells_if (nat_lt (length r.nodes) 8) _ _ tt tt)

tells_later : (name : List ℕ) (kind : NodeKind) (r : Reading) → Tells (later_node name kind r)
tells_later name Coordinator r = tt
tells_later name Writer r = tells_more name Writer r
tells_later name Reader r = tells_more name Reader r

tells_node : (o : Option ℕ) (number : ℕ) (name : List ℕ) (kind : NodeKind) (r : Reading) → Tells (put_node o number name kind r)
tells_node None number name kind r = tells_first number name kind r
tells_node (Some first) number name kind r = tells_later name kind r

tells_on : (o : Option ℕ) (name host : List ℕ) (r : Reading) → Tells (session_on name host o r)
tells_on None name host r = tt
tells_on (Some place) name host r = tells_if (nat_lt (length r.sessions) 32) _ _ tt tt

tells_session : (o : Option ℕ) (name host : List ℕ) (r : Reading) → Tells (put_session o name host r)
tells_session None name host r = tt
tells_session (Some first) name host r = tells_if (is_declared name r) _ _ tt (tells_on (node_place host r.nodes) name host r)

tells_directive : (n : ℕ) (d : Directive) (r : Reading) → Tells (put_directive n d r)
tells_directive n (directives.Node name kind) r = tells_in_time r.lines _ (tells_node r.declared n name kind r)
tells_directive n (directives.Session name host) r = tells_in_time r.lines _ (tells_session r.declared name host r)
tells_directive n (directives.Apply name) r = tt
tells_directive n (directives.Report name) r = tt
tells_directive n (directives.Lose m) r = tt
tells_directive n (directives.Take m) r = tt
tells_directive n (directives.Restart name) r = tt
tells_directive n (directives.Exclude name) r = tt
tells_directive n (directives.Include name) r = tt
tells_directive n directives.Space r = tt
tells_directive n directives.Versions r = tt

tells_known : (name : List ℕ) (o : Option ℕ) → Tells (known name o)
tells_known name None = tt
tells_known name (Some place) = tt

tells_first_of : (sessions : List SessionSpec) → Tells (first_of sessions)
tells_first_of [] = tt
tells_first_of (s ∷ ss) = tt

tells_place : (name : Option (List ℕ)) (sessions : List SessionSpec) → Tells (place_of name sessions)
tells_place None sessions = tells_first_of sessions
tells_place (Some name) sessions = tells_known name (session_place name sessions)

tells_wanted : (o : Option Wanted) (s : Statement) (behind : List (List ℕ)) → Tells (with_wanted o s behind)
tells_wanted None s behind = tt
tells_wanted (Some w) s behind = tells_if (nat_le w.rows (length behind)) _ _ tt tt

tells_statement : (n : ℕ) (name : Option (List ℕ)) (s : Statement) (behind : List (List ℕ)) (r : Reading) → Tells (put_statement n name s behind r)
tells_statement n name s behind r = tells_bind (place_of name r.sessions) _ (tells_place name r.sessions) (λ place. tells_bind (with_data s behind) _ (tells_wanted (wanted_of s) s behind) (λ l. tt))

tells_piece : (n : ℕ) (p : Piece) (behind : List (List ℕ)) (r : Reading) → Tells (put_piece n p behind r)
tells_piece n (pieces.Statement name s) behind r = tells_statement n name s behind r
tells_piece n (pieces.Directive d) behind r = tells_bind (put_directive n d r) _ (tells_directive n d r) (λ q. tt)

-- so what is misplaced is faulty for its cause
of_place : (cause : LineFault) (n : ℕ) (text : List ℕ) (behind : List (List ℕ)) (old : Reading) → IsOfPlace cause → IsMisplaced cause n text behind old → IsFault cause n text behind old
of_place TooManyLines n text behind old is h = absurd is
of_place NotUtf8 n text behind old is h = absurd is
of_place (Syntax place) n text behind old is h = absurd is
of_place LateDeclaration n text behind old is h = h
of_place NoCoordinator n text behind old is h = h
of_place SecondCoordinator n text behind old is h = h
of_place (NodeTwice name) n text behind old is h = h
of_place TooManyNodes n text behind old is h = h
of_place (SessionTwice name) n text behind old is h = h
of_place (UnknownNode name) n text behind old is h = h
of_place TooManySessions n text behind old is h = h
of_place (UnknownSession name) n text behind old is h = h
of_place ShortLoad n text behind old is h = h
of_place Unbuilt n text behind old is h = absurd is

pub misplaced : (cause : LineFault) (n : ℕ) (text : List ℕ) (behind : List (List ℕ)) (old : Reading) → IsMisplaced cause n text behind old → IsFault cause n text behind old
misplaced cause n text behind old h = of_place cause n text behind old (told (put n h.piece behind old) cause (tells_piece n h.piece behind (record old { taken = old.taken + 1 })) h.put) h

-- a put that fails is a fault
pub put_flaw : (n : ℕ) (text : List ℕ) (behind : List (List ℕ)) (old new : Reading) (piece : Piece) (r : Result ℕ Flaw) → old.taken < 100000 → IsUtf8 text → IsPieceOf text piece
    → Steps (put n piece behind old) r new → IfErr r (IsTextFlaw n text behind old)
put_flaw n text behind old new piece (Ok m) room utf8 says h = tt
put_flaw n text behind old new piece (Err (flaws.Fault cause)) room utf8 says h = misplaced cause n text behind old (record { room = room; utf8 = utf8; piece = piece; says = says; put = h })
put_flaw n text behind old new piece (Err flaws.NoMemory) room utf8 says h = tt
