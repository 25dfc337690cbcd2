-- What holds of a script under way: its limits, that its lines ascend, and what it is where nothing is declared.
use Rattle.std.proofs.Common.{◌≡◌, ℕ, zero, suc, ◌+◌, ◌<◌, ◌≤◌, min, Bool, true, false, List, [], ◌∷◌, ◌++◌, length, Option, Some, None, Result, Ok, Err, refl, sym, ap, subst, ◌∙◌, arith}
use Rattle.std.specs.Prelude.{MatchBool, if◌then◌else◌, nat_lt}
use Rattle.std.specs.List.{AllByRecursion}
use Rattle.std.proofs.lemmas.Bool.Decides.{nat_tests}
use Rattle.std.proofs.lemmas.List.{length-append}
use Rattle.iq_base.specs.declared.nodes.NodeKind.{NodeKind}
use Rattle.iq_base.specs.declared.nodes.NodeKind.TheVariants.{Coordinator, Writer, Reader}
use Rattle.iq_base.specs.declared.nodes.SessionSpec.{SessionSpec}
use Rattle.iq_ast.specs.declared.statements.Statement.{Statement}
use Rattle.iq_model.specs.declared.scripts.Step.{Step}
use Rattle.iq_model.specs.declared.scripts.Deed.TheVariants as deeds
use Rattle.iq_model.specs.declared.scripts.Line.{Line}
use Rattle.iq_model.specs.Scripts.{the_node, the_session, Ascend, IsRunnable, IsRunnableLine}
use Rattle.iq_grammar.specs.declared.directives.Directive.{Directive}
use Rattle.iq_grammar.specs.declared.directives.Directive.TheVariants as directives
use Rattle.iq_script.specs.declared.faults.LineFault.{LineFault}
use Rattle.iq_script.specs.declared.loads.Loaded.{Loaded}
use Rattle.iq_script.specs.declared.pieces.Piece.{Piece}
use Rattle.iq_script.specs.declared.pieces.Piece.TheVariants as pieces
use Rattle.iq_script.specs.declared.reading.Reading.{Reading}
use Rattle.iq_script.specs.Lines.{text_of, is_doing}
use Rattle.iq_script.specs.Putting.{◌>>=◌, node, session, node_place, is_declared, first_node, more_node, later_node, put_node, session_on, put_session, in_time, line, put_step, put_directive, place_of, counted_at, with_data, put_statement, put_piece, Onward, on, put}
use Rattle.iq_script.specs.Scripts.{start, LeadsOn, Leads, LeadTo, IsBounded, script_of}

abbrev pub IsBelow : ℕ → Line → Type 0
IsBelow number l = l.number < number

-- what nothing declared means: the one node, and the one session with all lines that are run
pub record IsPlain (r : Reading) : Type 0 where
  pub nodes : r.nodes ≡ the_node ∷ []
  pub sessions : AllByRecursion IsRunnableLine r.lines → r.sessions ≡ the_session (length r.lines) ∷ []

-- a reading behind so many lines that did something, before the line of this number
pub record IsKeptOf (r : Reading) (count number : ℕ) : Type 0 where
  pub nodes : length r.nodes ≤ 8
  pub sessions : length r.sessions ≤ 32
  pub few : length r.lines ≤ count
  pub taken : count ≤ 100000
  pub some : 0 < number
  pub ordered : Ascend 0 r.lines
  pub below : AllByRecursion (IsBelow number) r.lines
  pub plain : r.declared ≡ None → IsPlain r

abbrev pub IsKept : Reading → ℕ → Type 0
IsKept r number = IsKeptOf r r.taken number

-- ---- lists

below_later : (number : ℕ) (lines : List Line) → AllByRecursion (IsBelow number) lines → AllByRecursion (IsBelow (number + 1)) lines
below_later number [] h = tt
below_later number (l ∷ ls) h = let less : l.number < number = h.0 in (omega arith, below_later number ls h.1)

below_push : (number : ℕ) (lines : List Line) (l : Line) → l.number ≡ number → AllByRecursion (IsBelow number) lines → AllByRecursion (IsBelow (number + 1)) (lines ++ l ∷ [])
below_push number [] l is h = (omega arith, tt)
below_push number (k ∷ ks) l is h = let less : k.number < number = h.0 in (omega arith, below_push number ks l is h.1)

ascend_push : (low number : ℕ) (lines : List Line) (l : Line) → l.number ≡ number → low < number → Ascend low lines → AllByRecursion (IsBelow number) lines → Ascend low (lines ++ l ∷ [])
ascend_push low number [] l is less h b = (omega arith, tt)
ascend_push low number (k ∷ ks) l is less h b = (h.0, ascend_push k.number number ks l is b.0 h.1 b.1)

run_before : (lines : List Line) (l : Line) → AllByRecursion IsRunnableLine (lines ++ l ∷ []) → AllByRecursion IsRunnableLine lines × IsRunnableLine l
run_before [] l h = (tt, h.0)
run_before (k ∷ ks) l h = let rest = run_before ks l h.1 in ((h.0, rest.0), rest.1)

length-counted_at : (place : ℕ) (sessions : List SessionSpec) → length (counted_at place sessions) ≡ length sessions
length-counted_at place [] = refl
length-counted_at zero (s ∷ ss) = refl
length-counted_at (suc place) (s ∷ ss) = ap suc (length-counted_at place ss)

-- ---- results

when_ok : {A : Type 0} (b : Bool) (e : LineFault) (p : Result A LineFault) (q : A) → (if b then p else Err e) ≡ Ok q → (b ≡ true) × (p ≡ Ok q)
when_ok true e p q h = (refl, h)
when_ok false e p q h = absurd cc

when_not : {A : Type 0} (b : Bool) (e : LineFault) (p : Result A LineFault) (q : A) → (if b then Err e else p) ≡ Ok q → p ≡ Ok q
when_not true e p q h = absurd cc
when_not false e p q h = h

abbrev good : {A : Type 0} → A → Result A LineFault
good x = Ok x

abbrev ok_of : {A : Type 0} → Result A LineFault → Option A
ok_of (Ok x) = Some x
ok_of (Err e) = None

some_is : {A : Type 0} (x y : A) → Some x ≡ Some y → x ≡ y
some_is x y h = cc

ok_is : {A : Type 0} (x y : A) → good x ≡ good y → x ≡ y
ok_is x y h = some_is x y (ap ok_of h)

bind_ok : {A B : Type 0} (p : Result A LineFault) (f : A → Result B LineFault) (y : B) → p >>= f ≡ Ok y → (x : A) × (p ≡ Ok x) × (f x ≡ Ok y)
bind_ok (Ok x) f y h = (x, refl, h)
bind_ok (Err e) f y h = absurd cc

in_time_ok : (lines : List Line) (p : Result Reading LineFault) (q : Reading) → in_time lines p ≡ Ok q → p ≡ Ok q
in_time_ok [] p q h = h
in_time_ok (l ∷ ls) p q h = absurd cc

-- ---- declarations

-- a reading with other nodes and sessions, where something is declared
with_declared : (r q : Reading) (c n first : ℕ) → q.declared ≡ Some first → q.lines ≡ r.lines → length q.nodes ≤ 8 → length q.sessions ≤ 32 → IsKeptOf r c n → IsKeptOf q c n
with_declared r q c n first some same nodes sessions h = record {
  nodes = nodes;
  sessions = sessions;
  few = subst (λ (ls : List Line). length ls ≤ c) (sym same) h.few;
  taken = h.taken;
  some = h.some;
  ordered = subst (λ (ls : List Line). Ascend 0 ls) (sym same) h.ordered;
  below = subst (λ (ls : List Line). AllByRecursion (IsBelow n) ls) (sym same) h.below;
  plain = λ none. absurd (clash none);
}
  where
    clash : q.declared ≡ None → ⊥
    clash none = let bad : Some first ≡ None = sym some ∙ none in cc

first_kept : (number c n : ℕ) (name : List ℕ) (kind : NodeKind) (r q : Reading) → first_node number name kind r ≡ Ok q → IsKeptOf r c n → IsKeptOf q c n
first_kept number c n name Coordinator r q h k = subst (λ (x : Reading). IsKeptOf x c n) (ok_is _ _ h) (with_declared r _ c n number refl refl (omega arith) (omega arith) k)
first_kept number c n name Writer r q h k = absurd cc
first_kept number c n name Reader r q h k = absurd cc

more_kept : (c n first : ℕ) (name : List ℕ) (kind : NodeKind) (r q : Reading) → r.declared ≡ Some first → more_node name kind r ≡ Ok q → IsKeptOf r c n → IsKeptOf q c n
more_kept c n first name kind r q some h k =
    let new = when_not (is_declared name r) _ _ q h in
    let room = when_ok (nat_lt (length r.nodes) 8) _ _ q new in
    let less : length r.nodes < 8 = grind (arith, nat_tests) in
    let fits : length (r.nodes ++ node name kind ∷ []) ≤ 8 = omega (arith, length-append r.nodes (node name kind ∷ []), less) in
    subst (λ (x : Reading). IsKeptOf x c n) (ok_is _ _ room.1) (with_declared r _ c n first some refl fits k.sessions k)

later_kept : (c n first : ℕ) (name : List ℕ) (kind : NodeKind) (r q : Reading) → r.declared ≡ Some first → later_node name kind r ≡ Ok q → IsKeptOf r c n → IsKeptOf q c n
later_kept c n first name Coordinator r q some h k = absurd cc
later_kept c n first name Writer r q some h k = more_kept c n first name Writer r q some h k
later_kept c n first name Reader r q some h k = more_kept c n first name Reader r q some h k

node_kept : (o : Option ℕ) (number c n : ℕ) (name : List ℕ) (kind : NodeKind) (r q : Reading) → r.declared ≡ o → put_node o number name kind r ≡ Ok q → IsKeptOf r c n → IsKeptOf q c n
node_kept None number c n name kind r q is h k = first_kept number c n name kind r q h k
node_kept (Some first) number c n name kind r q is h k = later_kept c n first name kind r q is h k

on_kept : (o : Option ℕ) (c n first : ℕ) (name host : List ℕ) (r q : Reading) → r.declared ≡ Some first → session_on name host o r ≡ Ok q → IsKeptOf r c n → IsKeptOf q c n
on_kept None c n first name host r q is h k = absurd cc
on_kept (Some place) c n first name host r q is h k =
    let room = when_ok (nat_lt (length r.sessions) 32) _ _ q h in
    let less : length r.sessions < 32 = grind (arith, nat_tests) in
    let fits : length (r.sessions ++ session name place ∷ []) ≤ 32 = omega (arith, length-append r.sessions (session name place ∷ []), less) in
    subst (λ (x : Reading). IsKeptOf x c n) (ok_is _ _ room.1) (with_declared r _ c n first is refl k.nodes fits k)

session_kept : (o : Option ℕ) (c n : ℕ) (name host : List ℕ) (r q : Reading) → r.declared ≡ o → put_session o name host r ≡ Ok q → IsKeptOf r c n → IsKeptOf q c n
session_kept None c n name host r q is h k = absurd cc
session_kept (Some first) c n name host r q is h k = on_kept (node_place host r.nodes) c n first name host r q is (when_not (is_declared name r) _ _ q h) k

-- ---- lines

-- one line more
pushed : (r : Reading) (c n : ℕ) (l : Line) (sessions : List SessionSpec) → l.number ≡ n → length r.lines + 1 ≤ c → length sessions ≡ length r.sessions → IsKeptOf r c n
    → ((r.declared ≡ None) → IsPlain (record r { lines = r.lines ++ l ∷ []; sessions = sessions })) → IsKeptOf (record r { lines = r.lines ++ l ∷ []; sessions = sessions }) c (n + 1)
pushed r c n l sessions is room same k plain = record {
  nodes = k.nodes;
  sessions = omega (arith, same, k.sessions);
  few = omega (arith, room, length-append r.lines (l ∷ []));
  taken = k.taken;
  some = omega arith;
  ordered = ascend_push 0 n r.lines l is k.some k.ordered k.below;
  below = below_push n r.lines l is k.below;
  plain = plain;
}

no_session : (l : Line) → l.session ≡ None → IsRunnableLine l → ⊥
no_session l none run = let bad : None ≡ Some 0 = sym none ∙ run.session in cc

step_kept : (c n : ℕ) (step : Step) (r q : Reading) → put_step n step r ≡ Ok q → length r.lines + 1 ≤ c → IsKeptOf r c n → IsKeptOf q c (n + 1)
step_kept c n step r q h room k =
    let l = line n None (deeds.Step step) in
    subst (λ (x : Reading). IsKeptOf x c (n + 1)) (ok_is _ _ h)
    (pushed r c n l r.sessions refl room refl k (λ none. record { nodes = (k.plain none).nodes; sessions = λ all. absurd (no_session l refl (run_before r.lines l all).1) }))

place_is : (place : ℕ) (l : Line) → l.session ≡ Some place → IsRunnableLine l → place ≡ 0
place_is place l is run = let same : Some place ≡ Some 0 = sym is ∙ run.session in cc

counted : (place n : ℕ) (sessions : List SessionSpec) (lines : List Line) (l : Line) → place ≡ 0 → length lines ≤ 100000 → sessions ≡ the_session (length lines) ∷ []
    → counted_at place sessions ≡ the_session (length (lines ++ l ∷ [])) ∷ []
counted place n sessions lines l zero_is few is =
    let sum : min (length lines + 1) 4294967295 ≡ length (lines ++ l ∷ []) = omega (arith, length-append lines (l ∷ [])) in
    rw (zero_is, is) (ap (λ (m : ℕ). the_session m ∷ []) sum)

statement_kept : (c n : ℕ) (name : Option (List ℕ)) (s : Statement) (behind : List (List ℕ)) (r : Reading) (q : Onward) → put_statement n name s behind r ≡ Ok q
    → length r.lines + 1 ≤ c → IsKeptOf r c n → IsKeptOf q.reading c (n + 1)
statement_kept c n name s behind r q h room k =
    let a = bind_ok (place_of name r.sessions) (λ (place : ℕ). with_data s behind >>= λ (l : Loaded). Ok (on (record r { lines = r.lines ++ line n (Some place) (deeds.Statement l.statement) ∷ []; sessions = counted_at place r.sessions }) l.data_lines)) q h in
    let b = bind_ok (with_data s behind) (λ (l : Loaded). Ok (on (record r { lines = r.lines ++ line n (Some a.0) (deeds.Statement l.statement) ∷ []; sessions = counted_at a.0 r.sessions }) l.data_lines)) q a.2 in
    let l = line n (Some a.0) (deeds.Statement b.0.statement) in
    let small : length r.lines ≤ 100000 = omega (arith, room, k.taken) in
    subst (λ (x : Onward). IsKeptOf x.reading c (n + 1)) (ok_is _ _ b.2)
    (pushed r c n l (counted_at a.0 r.sessions) refl room (length-counted_at a.0 r.sessions) k
    (λ none. record { nodes = (k.plain none).nodes; sessions = λ all. let both = run_before r.lines l all in counted a.0 n r.sessions r.lines l (place_is a.0 l refl both.1) small ((k.plain none).sessions both.0) }))

later : (r : Reading) (c n : ℕ) → IsKeptOf r c n → IsKeptOf r c (n + 1)
later r c n k = record { nodes = k.nodes; sessions = k.sessions; few = k.few; taken = k.taken; some = omega arith; ordered = k.ordered; below = below_later n r.lines k.below; plain = k.plain }

directive_kept : (c n : ℕ) (d : Directive) (r q : Reading) → put_directive n d r ≡ Ok q → length r.lines + 1 ≤ c → IsKeptOf r c n → IsKeptOf q c (n + 1)
directive_kept c n (directives.Node name kind) r q h room k = later q c n (node_kept r.declared n c n name kind r q refl (in_time_ok r.lines _ q h) k)
directive_kept c n (directives.Session name host) r q h room k = later q c n (session_kept r.declared c n name host r q refl (in_time_ok r.lines _ q h) k)
directive_kept c n (directives.Apply name) r q h room k = step_kept c n _ r q h room k
directive_kept c n (directives.Report name) r q h room k = step_kept c n _ r q h room k
directive_kept c n (directives.Lose m) r q h room k = step_kept c n _ r q h room k
directive_kept c n (directives.Take m) r q h room k = step_kept c n _ r q h room k
directive_kept c n (directives.Restart name) r q h room k = step_kept c n _ r q h room k
directive_kept c n (directives.Exclude name) r q h room k = step_kept c n _ r q h room k
directive_kept c n (directives.Include name) r q h room k = step_kept c n _ r q h room k
directive_kept c n directives.Space r q h room k = step_kept c n _ r q h room k
directive_kept c n directives.Versions r q h room k = step_kept c n _ r q h room k

piece_kept : (c n : ℕ) (p : Piece) (behind : List (List ℕ)) (r : Reading) (q : Onward) → put_piece n p behind r ≡ Ok q → length r.lines + 1 ≤ c → IsKeptOf r c n → IsKeptOf q.reading c (n + 1)
piece_kept c n (pieces.Statement name s) behind r q h room k = statement_kept c n name s behind r q h room k
piece_kept c n (pieces.Directive d) behind r q h room k =
    let a = bind_ok (put_directive n d r) (λ (x : Reading). Ok (on x 0)) q h in
    subst (λ (x : Onward). IsKeptOf x.reading c (n + 1)) (ok_is _ _ a.2) (directive_kept c n d r a.0 a.1 room k)

-- ---- all lines

-- a line more that did something
one_more : (r : Reading) (n : ℕ) → r.taken < 100000 → IsKept r n → IsKept (record r { taken = r.taken + 1 }) n
one_more r n room k = record {
  nodes = k.nodes;
  sessions = k.sessions;
  few = let few = k.few in omega arith;
  taken = omega arith;
  some = k.some;
  ordered = k.ordered;
  below = k.below;
  plain = λ none. record { nodes = (k.plain none).nodes; sessions = (k.plain none).sessions };
}

-- what is put keeps the count of such lines
abbrev taken_of : Onward → ℕ
taken_of q = q.reading.taken

node_taken : (o : Option ℕ) (number : ℕ) (name : List ℕ) (kind : NodeKind) (r q : Reading) → put_node o number name kind r ≡ Ok q → q.taken ≡ r.taken
node_taken None number name Coordinator r q h = sym (ap (λ (x : Reading). x.taken) (ok_is _ _ h))
node_taken None number name Writer r q h = absurd cc
node_taken None number name Reader r q h = absurd cc
node_taken (Some first) number name Coordinator r q h = absurd cc
node_taken (Some first) number name Writer r q h = more_taken name Writer r q h
  where
    more_taken : (name : List ℕ) (kind : NodeKind) (r q : Reading) → more_node name kind r ≡ Ok q → q.taken ≡ r.taken
    more_taken name kind r q h = let new = when_not (is_declared name r) _ _ q h in let room = when_ok (nat_lt (length r.nodes) 8) _ _ q new in sym (ap (λ (x : Reading). x.taken) (ok_is _ _ room.1))
node_taken (Some first) number name Reader r q h = more_taken name Reader r q h
  where
    more_taken : (name : List ℕ) (kind : NodeKind) (r q : Reading) → more_node name kind r ≡ Ok q → q.taken ≡ r.taken
    more_taken name kind r q h = let new = when_not (is_declared name r) _ _ q h in let room = when_ok (nat_lt (length r.nodes) 8) _ _ q new in sym (ap (λ (x : Reading). x.taken) (ok_is _ _ room.1))

on_taken : (o : Option ℕ) (name host : List ℕ) (r q : Reading) → session_on name host o r ≡ Ok q → q.taken ≡ r.taken
on_taken None name host r q h = absurd cc
on_taken (Some place) name host r q h = let room = when_ok (nat_lt (length r.sessions) 32) _ _ q h in sym (ap (λ (x : Reading). x.taken) (ok_is _ _ room.1))

session_taken : (o : Option ℕ) (name host : List ℕ) (r q : Reading) → put_session o name host r ≡ Ok q → q.taken ≡ r.taken
session_taken None name host r q h = absurd cc
session_taken (Some first) name host r q h = on_taken (node_place host r.nodes) name host r q (when_not (is_declared name r) _ _ q h)

step_taken : (n : ℕ) (step : Step) (r q : Reading) → put_step n step r ≡ Ok q → q.taken ≡ r.taken
step_taken n step r q h = sym (ap (λ (x : Reading). x.taken) (ok_is _ _ h))

directive_taken : (n : ℕ) (d : Directive) (r q : Reading) → put_directive n d r ≡ Ok q → q.taken ≡ r.taken
directive_taken n (directives.Node name kind) r q h = node_taken r.declared n name kind r q (in_time_ok r.lines _ q h)
directive_taken n (directives.Session name host) r q h = session_taken r.declared name host r q (in_time_ok r.lines _ q h)
directive_taken n (directives.Apply name) r q h = step_taken n _ r q h
directive_taken n (directives.Report name) r q h = step_taken n _ r q h
directive_taken n (directives.Lose m) r q h = step_taken n _ r q h
directive_taken n (directives.Take m) r q h = step_taken n _ r q h
directive_taken n (directives.Restart name) r q h = step_taken n _ r q h
directive_taken n (directives.Exclude name) r q h = step_taken n _ r q h
directive_taken n (directives.Include name) r q h = step_taken n _ r q h
directive_taken n directives.Space r q h = step_taken n _ r q h
directive_taken n directives.Versions r q h = step_taken n _ r q h

statement_taken : (n : ℕ) (name : Option (List ℕ)) (s : Statement) (behind : List (List ℕ)) (r : Reading) (q : Onward) → put_statement n name s behind r ≡ Ok q → taken_of q ≡ r.taken
statement_taken n name s behind r q h =
    let a = bind_ok (place_of name r.sessions) (λ (place : ℕ). with_data s behind >>= λ (l : Loaded). Ok (on (record r { lines = r.lines ++ line n (Some place) (deeds.Statement l.statement) ∷ []; sessions = counted_at place r.sessions }) l.data_lines)) q h in
    let b = bind_ok (with_data s behind) (λ (l : Loaded). Ok (on (record r { lines = r.lines ++ line n (Some a.0) (deeds.Statement l.statement) ∷ []; sessions = counted_at a.0 r.sessions }) l.data_lines)) q a.2 in
    sym (ap taken_of (ok_is _ _ b.2))

piece_taken : (n : ℕ) (p : Piece) (behind : List (List ℕ)) (r : Reading) (q : Onward) → put_piece n p behind r ≡ Ok q → taken_of q ≡ r.taken
piece_taken n (pieces.Statement name s) behind r q h = statement_taken n name s behind r q h
piece_taken n (pieces.Directive d) behind r q h =
    let a = bind_ok (put_directive n d r) (λ (x : Reading). Ok (on x 0)) q h in
    sym (ap taken_of (ok_is _ _ a.2)) ∙ directive_taken n d r a.0 a.1

put_kept : (n : ℕ) (p : Piece) (behind : List (List ℕ)) (r : Reading) (q : Onward) → put n p behind r ≡ Ok q → r.taken < 100000 → IsKept r n → IsKept q.reading (n + 1)
put_kept n p behind r q h room k =
    let few : length r.lines ≤ r.taken = k.few in
    let kept : IsKeptOf q.reading (r.taken + 1) (n + 1) = piece_kept (r.taken + 1) n p behind (record r { taken = r.taken + 1 }) q h (omega arith) (one_more r n room k) in
    subst (λ (c : ℕ). IsKeptOf q.reading c (n + 1)) (sym (piece_taken n p behind (record r { taken = r.taken + 1 }) q h)) kept

text_kept : (n : ℕ) (text : List ℕ) (behind : List (List ℕ)) (r : Reading) (q : Onward) → LeadsOn n text behind r q → IsKept r n → IsKept q.reading (n + 1)
text_kept n text behind r q h k = put_kept n h.piece behind r q h.put h.room k

pub line_kept : (n : ℕ) (l : List ℕ) (behind : List (List ℕ)) (r : Reading) (q : Onward) → Leads n l behind r q → IsKept r n → IsKept q.reading (n + 1)
line_kept n l behind r q h k = by_doing (is_doing (text_of l)) h
  where
    by_doing : (b : Bool) → MatchBool b (LeadsOn n (text_of l) behind r q) (q ≡ on r 0) → IsKept q.reading (n + 1)
    by_doing true h = text_kept n (text_of l) behind r q h k
    by_doing false h = subst (λ (x : Onward). IsKept x.reading (n + 1)) (sym h) (later r r.taken n k)

pub data_kept : (r : Reading) (n : ℕ) → IsKept r n → IsKept r (n + 1)
data_kept r n k = later r r.taken n k

pub start_kept : IsKept start 1
start_kept = record {
  nodes = omega arith;
  sessions = omega arith;
  few = omega arith;
  taken = omega arith;
  some = omega arith;
  ordered = tt;
  below = tt;
  plain = λ none. record { nodes = refl; sessions = λ all. refl };
}

pub kept_bounded : (r : Reading) (n : ℕ) → IsKept r n → IsBounded r
kept_bounded r n k = record { nodes = k.nodes; sessions = k.sessions; lines = k.taken }

pub kept_runnable : (r : Reading) (n : ℕ) → IsKept r n → r.declared ≡ None → AllByRecursion IsRunnableLine r.lines → IsRunnable (script_of r)
kept_runnable r n k none each =
    let few : length r.lines ≤ r.taken = k.few in
    let taken : r.taken ≤ 100000 = k.taken in
    record {
      nodes = (k.plain none).nodes;
      sessions = (k.plain none).sessions each;
      few = omega arith;
      numbers = k.ordered;
      each = each;
    }

-- the number of the line behind some lines
lead_kept : (lines : List (List ℕ)) (n d : ℕ) (r q : Reading) → LeadTo n d lines r q → IsKept r n → IsKept q (n + length lines)
lead_kept [] n d r q h k = subst (λ (x : Reading). IsKept x (n + 0)) h (subst (λ (m : ℕ). IsKept r m) (omega arith) k)
lead_kept (l ∷ ls) n (suc d) r q h k = subst (λ (m : ℕ). IsKept q m) (omega arith) (lead_kept ls (n + 1) d r q h (data_kept r n k))
lead_kept (l ∷ ls) n zero r q h k = subst (λ (m : ℕ). IsKept q m) (omega arith) (lead_kept ls (n + 1) h.0.data_lines h.0.reading q h.2 (line_kept n l ls r h.0 h.1 k))

pub read_runnable : (lines : List (List ℕ)) (r : Reading) → LeadTo 1 0 lines start r → r.declared ≡ None → AllByRecursion IsRunnableLine r.lines → IsRunnable (script_of r)
read_runnable lines r lead none each = kept_runnable r (1 + length lines) (lead_kept lines 1 0 start r lead start_kept) none each
