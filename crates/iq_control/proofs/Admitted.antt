-- What nothing refuses, by what the control and the tables know.
use Rattle.std.specs.Prelude.{◌≡◌, refl, ℕ, Bool, true, false, not, List, [], ◌∷◌, ◌++◌, None, nat_eq, nat_lt, filter}
use Rattle.std.specs.List.{AllByRecursion}
use Rattle.std.proofs.Common.{ap, sym, ◌∙◌, arith, subst}
use Rattle.std.proofs.lemmas.Bool.Decides.{nat_tests}
use Rattle.iq_ast.specs.declared.statements.Statement.{Statement}
use Rattle.iq_statements.specs.Checks.{Check, first_refusal, first_found}
use Rattle.iq_statements.specs.Statements.{statement_checks, room_checks}
use Rattle.iq_replay.specs.State.{State, Session, Standing, idle, lost, running, Run, Node}
use Rattle.iq_replay.specs.Refusals.{locked_refusal, later_refusal, wanted, run_checks, line_checks, checks_below, checks_but}
use Rattle.iq_replay.specs.Asked.{OfLine, IsRunning, IsGranted, HoldsAll}
use Rattle.iq_sessions.specs.Bare.{bare_session}
use Rattle.iq_control.specs.Control.{ControlState, Agrees}
use Rattle.iq_control.specs.Asked.{AtLine, early_checks, IsAdmitted, AreNamed, AreFit, IsNamed, IsUnrefused}
use Rattle.iq_control.proofs.Early.{or_none, both_none, first_more, early_bare}
use Rattle.iq_control.proofs.Orders.{lock_checks, IsHigh, statement_checks-low, room_checks-high, low_seven, early_seven}
use Rattle.iq_control.proofs.Lines.{LineAt, line_at, of_line, of_line_at}

-- TESTS OF SOME ORDERS

-- where nothing is found, nothing is found by some of the tests
kept_none : (p : Check → Bool) (xs : List Check) → first_refusal xs ≡ None → first_refusal (filter p xs) ≡ None
kept_none p [] h = refl
kept_none p (x ∷ xs) h = by_test (p x) refl (kept_none p xs (or_none x.found (first_refusal xs) h).1)
  where
    by_test : (b : Bool) → p x ≡ b → first_refusal (filter p xs) ≡ None → first_refusal (filter p (x ∷ xs)) ≡ None
    by_test true q more = rw (q, (or_none x.found (first_refusal xs) h).0) more
    by_test false q more = rw q more

but_more : (xs ys : List Check) → checks_but 7 (xs ++ ys) ≡ checks_but 7 xs ++ checks_but 7 ys
but_more [] ys = refl
but_more (x ∷ xs) ys = by_test (not (nat_eq x.order 7)) refl (but_more xs ys)
  where
    by_test : (b : Bool) → not (nat_eq x.order 7) ≡ b → checks_but 7 (xs ++ ys) ≡ checks_but 7 xs ++ checks_but 7 ys → checks_but 7 (x ∷ (xs ++ ys)) ≡ checks_but 7 (x ∷ xs) ++ checks_but 7 ys
    by_test true q more = rw q (ap (λ (zs : List Check). x ∷ zs) more)
    by_test false q more = rw q more

-- tests of room aren't below a halt
high_seven : (xs : List Check) → AllByRecursion IsHigh xs → checks_below 7 xs ≡ []
high_seven [] h = refl
high_seven (x ∷ xs) h = rw (not_low x.order h.0) (high_seven xs h.1)
  where
    not_low : (n : ℕ) → nat_lt n 10 ≡ false → nat_lt n 7 ≡ false
    not_low n q = grind (arith, nat_tests)

-- THE TESTS OF A RUNNING TRANSACTION

below_seven : (s : State) (place : ℕ) (statement : Statement) (run : Run) → checks_below 7 (run_checks s place (running run) statement) ≡ statement_checks statement run.start.seen ++ []
below_seven s place statement run =
    low_seven (statement_checks statement run.start.seen) (lock_checks s place statement run ++ room_checks statement run.start.seen) (statement_checks-low statement run.start.seen)
    ∙ ap (λ (xs : List Check). statement_checks statement run.start.seen ++ xs) (high_seven (room_checks statement run.start.seen) (room_checks-high statement run.start.seen))

-- the names are held: no lock and no later commit refuses
held_none : (s : State) (place : ℕ) (statement : Statement) (run : Run) → HoldsAll run statement → first_refusal (checks_but 7 (lock_checks s place statement run)) ≡ None
held_none s place statement run held = rw held refl

-- NAMED

named_in : (s : State) (place : ℕ) (session : Session) (statement : Statement) (run : Run) → session.standing ≡ running run → first_refusal (early_checks s.nodes session statement) ≡ None
    → IsGranted (statement_checks statement run.start.seen) → IsNamed s place session statement
named_in s place session statement run is early named =
    ap first_refusal (early_seven s place session statement run is)
    ∙ both_none (early_checks s.nodes session statement) (checks_below 7 (run_checks s place (running run) statement)) early
    (ap first_refusal (below_seven s place statement run) ∙ both_none (statement_checks statement run.start.seen) [] named refl)

pub named : (s : State) (place : ℕ) (session : Session) (statement : Statement) → IsAdmitted s.nodes (bare_session session) statement → AreNamed session statement → IsNamed s place session statement
named s place session statement admitted h = by_standing session.standing refl h
  where
    early : first_refusal (early_checks s.nodes session statement) ≡ None
    early = ap first_refusal (sym (early_bare s.nodes session statement)) ∙ admitted

    by_standing : (standing : Standing) → session.standing ≡ standing → IsRunning standing (λ run. IsGranted (statement_checks statement run.start.seen)) → IsNamed s place session statement
    by_standing idle is p = absurd p
    by_standing lost is p = absurd p
    by_standing (running run) is p = named_in s place session statement run is early p

-- UNREFUSED

unrefused_in : (s : State) (place : ℕ) (session : Session) (statement : Statement) (run : Run) → session.standing ≡ running run → first_refusal (early_checks s.nodes session statement) ≡ None
    → HoldsAll run statement → IsGranted (statement_checks statement run.start.seen ++ room_checks statement run.start.seen) → IsUnrefused s place session statement
unrefused_in s place session statement run is early held fit =
    let names = statement_checks statement run.start.seen in
    let room = room_checks statement run.start.seen in
    let split = or_none (first_refusal names) (first_refusal room) (sym (first_more names room) ∙ fit) in
    let line : line_checks s place session statement ≡ early_checks s.nodes session statement ++ (names ++ (lock_checks s place statement run ++ room)) =
    ap (λ (standing : Standing). early_checks s.nodes session statement ++ run_checks s place standing statement) is in
    let parts : checks_but 7 (line_checks s place session statement) ≡ checks_but 7 (early_checks s.nodes session statement) ++ (checks_but 7 names ++ (checks_but 7 (lock_checks s place statement run) ++ checks_but 7 room)) =
    ap (checks_but 7) line ∙ but_more (early_checks s.nodes session statement) (names ++ (lock_checks s place statement run ++ room))
    ∙ ap (λ (xs : List Check). checks_but 7 (early_checks s.nodes session statement) ++ xs) (but_more names (lock_checks s place statement run ++ room)
    ∙ ap (λ (xs : List Check). checks_but 7 names ++ xs) (but_more (lock_checks s place statement run) room)) in
    ap first_refusal parts
    ∙ both_none (checks_but 7 (early_checks s.nodes session statement)) (checks_but 7 names ++ (checks_but 7 (lock_checks s place statement run) ++ checks_but 7 room)) (kept_none (λ (check : Check). not (nat_eq check.order 7)) (early_checks s.nodes session statement) early)
    (both_none (checks_but 7 names) (checks_but 7 (lock_checks s place statement run) ++ checks_but 7 room) (kept_none (λ (check : Check). not (nat_eq check.order 7)) names split.0)
    (both_none (checks_but 7 (lock_checks s place statement run)) (checks_but 7 room) (held_none s place statement run held) (kept_none (λ (check : Check). not (nat_eq check.order 7)) room split.1)))

pub unrefused : (s : State) (place : ℕ) (session : Session) (statement : Statement) → IsAdmitted s.nodes (bare_session session) statement → AreFit session statement → IsUnrefused s place session statement
unrefused s place session statement admitted h = by_standing session.standing refl h
  where
    early : first_refusal (early_checks s.nodes session statement) ≡ None
    early = ap first_refusal (sym (early_bare s.nodes session statement)) ∙ admitted

    by_standing : (standing : Standing) → session.standing ≡ standing
        → IsRunning standing (λ run. HoldsAll run statement × IsGranted (statement_checks statement run.start.seen ++ room_checks statement run.start.seen)) → IsUnrefused s place session statement
    by_standing idle is p = absurd p
    by_standing lost is p = absurd p
    by_standing (running run) is p = unrefused_in s place session statement run is early p.0 p.1

-- OF A LINE

pub named_line : (c : ControlState) (s : State) (place l : ℕ) → Agrees c s → AtLine c place l (λ session statement. IsAdmitted c.nodes session statement) → OfLine s place l AreNamed → OfLine s place l (IsNamed s place)
named_line c s place l h at_line names =
    let at = line_at c s place l _ h at_line in
    of_line s place l _ _ at (named s place at.session at.statement (subst (λ (nodes : List Node). IsAdmitted nodes (bare_session at.session) at.statement) (sym h.nodes) at.holds) (of_line_at s place l _ AreNamed at names))

pub unrefused_line : (c : ControlState) (s : State) (place l : ℕ) → Agrees c s → AtLine c place l (λ session statement. IsAdmitted c.nodes session statement) → OfLine s place l AreFit → OfLine s place l (IsUnrefused s place)
unrefused_line c s place l h at_line fit =
    let at = line_at c s place l _ h at_line in
    of_line s place l _ _ at (unrefused s place at.session at.statement (subst (λ (nodes : List Node). IsAdmitted nodes (bare_session at.session) at.statement) (sym h.nodes) at.holds) (of_line_at s place l _ AreFit at fit))
