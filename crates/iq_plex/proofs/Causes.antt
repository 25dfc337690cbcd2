-- Why a line under way is refused, by what its tests find.
use Rattle.std.specs.Prelude.{◌≡◌, refl, ℕ, ◌<◌, ◌+◌, true, false, Bool, List, [], ◌∷◌, ◌++◌, Option, Some, None, length, nat_eq, nat_lt, nat_le, is_some, is_none, ⊤, ◌&&◌}
use Rattle.std.specs.Option.{option_or}
use Rattle.std.proofs.Common.{ap, sym, ◌∙◌, subst, inl, inr, arith}
use Rattle.iq_base.specs.Shorts.{Name}
use Rattle.iq_base.specs.declared.refusals.Refusal.{Refusal}
use Rattle.iq_base.specs.declared.refusals.Refusal.TheVariants as refusals
use Rattle.iq_ast.specs.declared.statements.Statement.{Statement}
use Rattle.iq_history.specs.Placed.{IsPlacedRefusal}
use Rattle.iq_model.specs.declared.replies.Reply.{Reply}
use Rattle.iq_model.specs.declared.replies.Said.{Said}
use Rattle.iq_model.specs.declared.scripts.Line.{Line}
use Rattle.iq_statements.specs.Checks.{first_refusal, first_found, found_if}
use Rattle.iq_statements.specs.Statements.{statement_checks, room_checks}
use Rattle.std.specs.List.{slice_get}
use Rattle.iq_ast.specs.declared.statements.Statement.TheVariants as statements
use Rattle.iq_statements.specs.Statements.{is_ddl}
use Rattle.iq_replay.specs.Nodes.{is_reader}
use Rattle.iq_replay.specs.State.{State, Session, Standing, idle, lost, running, Run, Stage, Node, has_name, held_by}
use Rattle.iq_replay.specs.Refusals.{run_checks, line_checks, locked_by, holder_from, locked_refusal, lost_refusal, at_node, excluded_refusal, transaction_refusal, before_line, reader_refusal, full_saves, no_save, most_saves, save_named}
use Rattle.iq_replay.specs.Causes.{CanRefuse}
use Rattle.iq_replay.specs.Asked.{IsOpen, HoldsAll}
use Rattle.iq_sessions.specs.Bare.{bare_session}
use Rattle.iq_sessions.specs.Table.{names_refusal, later_refusal}
use Rattle.iq_locks.specs.Locked.{Written, latest_of}
use Rattle.iq_control.specs.Asked.{early_checks, IsAdmitted}
use Rattle.iq_control.proofs.Early.{first_more, early_bare}
use Rattle.iq_control.proofs.Orders.{lock_checks}
use Rattle.iq_plex.specs.declared.plex.Plex.{Plex}
use Rattle.iq_plex.specs.Standing.{state_of, session_at, Serves}
use Rattle.iq_plex.specs.Doing.{IsLineOf, MayRefuse}
use Rattle.iq_plex.proofs.Sessions.{of_line}

-- nothing before a statement's own tests refuses it, in the state
pub early_none : (p : Plex) (session : Session) (st : Statement) → Serves p session → IsAdmitted p.control.nodes (bare_session session) st → first_refusal (early_checks (state_of p.control).nodes session st) ≡ None
early_none p session st h admitted = ap first_refusal (sym (early_bare (state_of p.control).nodes session st)) ∙ rw h.follows.agrees.nodes admitted

first_behind : (s : State) (session : Session) (st : Statement) → first_refusal (early_checks s.nodes session st) ≡ None → first_refusal (line_checks s 0 session st) ≡ first_refusal (run_checks s 0 session.standing st)
first_behind s session st early = first_more (early_checks s.nodes session st) (run_checks s 0 session.standing st) ∙ rw early refl

-- the tests of a transaction whose statement's own tests find something
named_first : (s : State) (run : Run) (st : Statement) (cause : Refusal) → first_refusal (statement_checks st run.start.seen) ≡ Some cause → first_refusal (run_checks s 0 (running run) st) ≡ Some cause
named_first s run st cause found = first_more (statement_checks st run.start.seen) (lock_checks s 0 st run ++ room_checks st run.start.seen) ∙ rw found refl

-- and where its names are held, those of room with them
locks_none : (s : State) (run : Run) (st : Statement) → s.halted ≡ None → HoldsAll run st → first_refusal (lock_checks s 0 st run) ≡ None
locks_none s run st not_halted held = rw (not_halted, held) refl

or_three : (a b c : Option Refusal) → b ≡ None → option_or a (option_or b c) ≡ option_or a c
or_three a b c none = rw none refl

fit_first : (s : State) (run : Run) (st : Statement) (cause : Refusal) → s.halted ≡ None → HoldsAll run st → first_refusal (statement_checks st run.start.seen ++ room_checks st run.start.seen) ≡ Some cause → first_refusal (run_checks s 0 (running run) st) ≡ Some cause
fit_first s run st cause not_halted held found =
    let names = statement_checks st run.start.seen in
    let room = room_checks st run.start.seen in
    first_more names (lock_checks s 0 st run ++ room) ∙ ap (option_or (first_refusal names)) (first_more (lock_checks s 0 st run) room)
    ∙ or_three (first_refusal names) (first_refusal (lock_checks s 0 st run)) (first_refusal room) (locks_none s run st not_halted held) ∙ sym (first_more names room) ∙ found

-- THE LINE CAN BE REFUSED

pub first_cause : (p : Plex) (run : Run) (stage : Stage) (told : Option Said) (line : Line) (rest : List Line) (replies : List Reply) (l : ℕ) (st : Statement) (cause : Refusal) → Serves p (session_at (running run) stage told (line ∷ rest) replies) → IsLineOf line l st → IsOpen stage
    → IsAdmitted p.control.nodes (bare_session (session_at (running run) stage told (line ∷ rest) replies)) st → IsPlacedRefusal 1 cause → first_refusal (run_checks (state_of p.control) 0 (running run) st) ≡ Some cause → MayRefuse p l cause
first_cause p run stage told line rest replies l st cause h is open_still admitted placed found =
    let session = session_at (running run) stage told (line ∷ rest) replies in
    record {
      standing = running run;
      stage = stage;
      told = told;
      line = line;
      rest = rest;
      replies = replies;
      st = st;
      serves = h;
      is = is;
      open_still = open_still;
      can = of_line p (running run) stage told line rest replies l st (CanRefuse (state_of p.control) 0 cause) h is
          (inl (open_still, inl (first_behind (state_of p.control) session st (early_none p session st h admitted) ∙ found)));
      placed = placed;
    }

pub named_cause : (p : Plex) (run : Run) (stage : Stage) (told : Option Said) (line : Line) (rest : List Line) (replies : List Reply) (l : ℕ) (st : Statement) (cause : Refusal) → Serves p (session_at (running run) stage told (line ∷ rest) replies) → IsLineOf line l st → IsOpen stage
    → IsAdmitted p.control.nodes (bare_session (session_at (running run) stage told (line ∷ rest) replies)) st → IsPlacedRefusal 1 cause → first_refusal (statement_checks st run.start.seen) ≡ Some cause → MayRefuse p l cause
named_cause p run stage told line rest replies l st cause h is open_still admitted placed found =
    first_cause p run stage told line rest replies l st cause h is open_still admitted placed (named_first (state_of p.control) run st cause found)

pub fit_cause : (p : Plex) (run : Run) (stage : Stage) (told : Option Said) (line : Line) (rest : List Line) (replies : List Reply) (l : ℕ) (st : Statement) (cause : Refusal) → Serves p (session_at (running run) stage told (line ∷ rest) replies) → IsLineOf line l st → IsOpen stage
    → IsAdmitted p.control.nodes (bare_session (session_at (running run) stage told (line ∷ rest) replies)) st → IsPlacedRefusal 1 cause → HoldsAll run st → first_refusal (statement_checks st run.start.seen ++ room_checks st run.start.seen) ≡ Some cause → MayRefuse p l cause
fit_cause p run stage told line rest replies l st cause h is open_still admitted placed held found =
    first_cause p run stage told line rest replies l st cause h is open_still admitted placed (fit_first (state_of p.control) run st cause (h.follows.agrees.halted ∙ h.not_halted) held found)

-- want of memory
pub memory_cause : (p : Plex) (standing : Standing) (stage : Stage) (told : Option Said) (line : Line) (rest : List Line) (replies : List Reply) (l : ℕ) (st : Statement) → Serves p (session_at standing stage told (line ∷ rest) replies) → IsLineOf line l st → IsOpen stage
    → MayRefuse p l refusals.NoMemory
memory_cause p standing stage told line rest replies l st h is open_still = record {
  standing = standing;
  stage = stage;
  told = told;
  line = line;
  rest = rest;
  replies = replies;
  st = st;
  serves = h;
  is = is;
  open_still = open_still;
  can = of_line p standing stage told line rest replies l st (CanRefuse (state_of p.control) 0 refusals.NoMemory) h is (inr open_still);
  placed = tt;
}

-- THE SESSION THAT HOLDS A NAME IS DECLARED

holder_within : (sessions : List Session) (place asks : ℕ) (name : Name) (n : ℕ) → holder_from place sessions asks name ≡ Some n → n < place + length sessions
holder_within [] place asks name n h = cc h
holder_within (session ∷ sessions) place asks name n h = by_asks (nat_eq place asks) (has_name (held_by session.standing) name) refl refl h (λ q. holder_within sessions (place + 1) asks name n q)
  where
    here : Some place ≡ Some n → n < place + length (session ∷ sessions)
    here q = let same : place ≡ n = cc q in omega (arith, same)

    by_asks : (a b : Bool) → nat_eq place asks ≡ a → has_name (held_by session.standing) name ≡ b → holder_from place (session ∷ sessions) asks name ≡ Some n
        → (holder_from (place + 1) sessions asks name ≡ Some n → n < place + 1 + length sessions) → n < place + length (session ∷ sessions)
    by_asks true b p q h further = omega (arith, further (rw p at h))
    by_asks false true p q h further = here (rw (p, q) at h)
    by_asks false false p q h further = omega (arith, further (rw (p, q) at h))

locked_placed : (sessions : List Session) (asks : ℕ) (name : Name) (holder : Option ℕ) (cause : Refusal) → holder_from 0 sessions asks name ≡ holder → locked_by name holder ≡ Some cause → IsPlacedRefusal (length sessions) cause
locked_placed sessions asks name None cause from h = cc h
locked_placed sessions asks name (Some n) cause from h =
    let same : refusals.Locked name n ≡ cause = cc h in
    let within : n < length sessions = omega (arith, holder_within sessions 0 asks name n from) in
    subst (IsPlacedRefusal (length sessions)) same within

first_locked : (sessions : List Session) (asks : ℕ) (names : List Name) (cause : Refusal) → first_found (locked_refusal sessions asks) names ≡ Some cause → IsPlacedRefusal (length sessions) cause
first_locked sessions asks [] cause h = cc h
first_locked sessions asks (name ∷ names) cause h = by_found (locked_refusal sessions asks name) refl h (first_locked sessions asks names cause)
  where
    by_found : (o : Option Refusal) → locked_refusal sessions asks name ≡ o → option_or o (first_found (locked_refusal sessions asks) names) ≡ Some cause → (first_found (locked_refusal sessions asks) names ≡ Some cause → IsPlacedRefusal (length sessions) cause) → IsPlacedRefusal (length sessions) cause
    by_found None is h further = further h
    by_found (Some r) is h further = let same : r ≡ cause = cc h in locked_placed sessions asks name (holder_from 0 sessions asks name) cause refl (is ∙ ap Some same)

first_later : (wrote : List Written) (snapshot n : ℕ) (names : List Name) (cause : Refusal) → first_found (later_refusal wrote snapshot) names ≡ Some cause → IsPlacedRefusal n cause
first_later wrote snapshot n [] cause h = cc h
first_later wrote snapshot n (name ∷ names) cause h = by_late (nat_lt snapshot (latest_of name wrote)) refl h (first_later wrote snapshot n names cause)
  where
    by_late : (b : Bool) → nat_lt snapshot (latest_of name wrote) ≡ b → option_or (found_if b (refusals.Later name (latest_of name wrote))) (first_found (later_refusal wrote snapshot) names) ≡ Some cause
        → (first_found (later_refusal wrote snapshot) names ≡ Some cause → IsPlacedRefusal n cause) → IsPlacedRefusal n cause
    by_late true is h further = let same : refusals.Later name (latest_of name wrote) ≡ cause = cc h in subst (IsPlacedRefusal n) same tt
    by_late false is h further = further h

-- what refuses names names a declared session
pub names_placed : (sessions : List Session) (wrote : List Written) (asks snapshot : ℕ) (names : List Name) (cause : Refusal) → names_refusal sessions wrote asks snapshot names ≡ Some cause → IsPlacedRefusal (length sessions) cause
names_placed sessions wrote asks snapshot names cause h = by_locked (first_found (locked_refusal sessions asks) names) refl h
  where
    by_locked : (o : Option Refusal) → first_found (locked_refusal sessions asks) names ≡ o → option_or o (first_found (later_refusal wrote snapshot) names) ≡ Some cause → IsPlacedRefusal (length sessions) cause
    by_locked None is h = first_later wrote snapshot (length sessions) names cause h
    by_locked (Some r) is h = let same : r ≡ cause = cc h in first_locked sessions asks names cause (is ∙ ap Some same)

-- WHAT REFUSES A LINE BEFORE ITS OWN TESTS NAMES NO SESSION

abbrev pub ArePlaced : Option Refusal → Type 0
ArePlaced None = ⊤
ArePlaced (Some cause) = IsPlacedRefusal 1 cause

or_placed : (a b : Option Refusal) → ArePlaced a → ArePlaced b → ArePlaced (option_or a b)
or_placed None b p q = q
or_placed (Some r) b p q = p

if_placed : (b : Bool) (r : Refusal) → IsPlacedRefusal 1 r → ArePlaced (found_if b r)
if_placed true r p = p
if_placed false r p = tt

lost_placed : (node : Option Node) (standing : Standing) → ArePlaced (lost_refusal node standing)
lost_placed None standing = tt
lost_placed (Some node) idle = tt
lost_placed (Some node) lost = tt
lost_placed (Some node) (running run) = tt

excluded_placed : (node : Option Node) → ArePlaced (at_node excluded_refusal node)
excluded_placed None = tt
excluded_placed (Some node) = if_placed node.excluded (refusals.Excluded node.name) tt

no_save_placed : (run : Option Run) (name : Name) → ArePlaced (no_save run name)
no_save_placed None name = tt
no_save_placed (Some run) name = if_placed (is_none (save_named run.saves name)) (refusals.NoSavepoint name) tt

full_placed : (run : Option Run) → ArePlaced (full_saves run)
full_placed None = tt
full_placed (Some run) = if_placed (nat_le most_saves (length run.saves)) refusals.TooManySavepoints tt

transaction_placed : (run : Option Run) (st : Statement) → ArePlaced (transaction_refusal run st)
transaction_placed run (statements.Write write) = if_placed (is_some run && is_ddl write) refusals.DdlInTransaction tt
transaction_placed run (statements.Select select) = tt
transaction_placed run statements.Begin = if_placed (is_some run) refusals.InTransaction tt
transaction_placed run statements.Commit = if_placed (is_none run) refusals.NoTransaction tt
transaction_placed run statements.Rollback = if_placed (is_none run) refusals.NoTransaction tt
transaction_placed run (statements.Savepoint name) = full_placed run
transaction_placed run (statements.BackTo name) = no_save_placed run name
transaction_placed run (statements.Release name) = no_save_placed run name
transaction_placed run statements.Sync = if_placed (is_some run) refusals.InTransaction tt

reader_placed : (node : Option Node) (st : Statement) → ArePlaced (reader_refusal node st)
reader_placed None st = tt
reader_placed (Some node) (statements.Write write) = if_placed (is_reader node.kind) (refusals.ReadOnly node.name) tt
reader_placed (Some node) (statements.Select select) = tt
reader_placed (Some node) statements.Begin = tt
reader_placed (Some node) statements.Commit = tt
reader_placed (Some node) statements.Rollback = tt
reader_placed (Some node) (statements.Savepoint name) = tt
reader_placed (Some node) (statements.BackTo name) = tt
reader_placed (Some node) (statements.Release name) = tt
reader_placed (Some node) statements.Sync = tt

pub early_placed : (nodes : List Node) (session : Session) (st : Statement) (cause : Refusal) → first_refusal (early_checks nodes session st) ≡ Some cause → IsPlacedRefusal 1 cause
early_placed nodes session st cause h = subst ArePlaced h
    (or_placed (lost_refusal (slice_get nodes session.node) session.standing) _ (lost_placed (slice_get nodes session.node) session.standing)
    (or_placed (at_node excluded_refusal (slice_get nodes session.node)) _ (excluded_placed (slice_get nodes session.node))
    (or_placed (transaction_refusal (before_line session.standing) st) _ (transaction_placed (before_line session.standing) st)
    (or_placed (reader_refusal (slice_get nodes session.node) st) None (reader_placed (slice_get nodes session.node) st) tt))))
