-- The tests of a line below an order.
use Rattle.std.specs.Prelude.{◌≡◌, refl, ℕ, true, false, List, [], ◌∷◌, ◌++◌, Option, Some, None, nat_lt}
use Rattle.std.specs.List.{AllByRecursion}
use Rattle.std.proofs.Common.{ap, sym, ◌∙◌}
use Rattle.iq_base.specs.Shorts.{Name}
use Rattle.iq_ast.specs.declared.statements.Statement.{Statement}
use Rattle.iq_ast.specs.declared.statements.Statement.TheVariants as statements
use Rattle.iq_ast.specs.declared.statements.Write.{Write}
use Rattle.iq_ast.specs.declared.statements.Write.TheVariants as writes
use Rattle.iq_statements.specs.Checks.{Check, first_refusal, first_found}
use Rattle.iq_statements.specs.Tables.{Table, Database, table_of}
use Rattle.iq_statements.specs.Named.{on_table, write_checks}
use Rattle.iq_statements.specs.Room.{at_table, write_room}
use Rattle.iq_statements.specs.Statements.{statement_checks, room_checks}
use Rattle.iq_replay.specs.State.{State, Session, running, Run}
use Rattle.iq_replay.specs.Refusals.{halted_refusal, asks_commits, locked_refusal, later_refusal, wanted, run_checks, line_checks, checks_below}
use Rattle.iq_control.specs.Asked.{early_checks}
use Rattle.iq_control.proofs.Early.{or_none, both_none, first_more}

-- a test of names, types or values; one of room
abbrev pub IsLow : Check → Type 0
IsLow check = (nat_lt check.order 7 ≡ true) × (nat_lt check.order 10 ≡ true)

abbrev pub IsHigh : Check → Type 0
IsHigh check = nat_lt check.order 10 ≡ false

on_table-low : (name : Name) (o : Option Table) (more : Table → List Check) → ((t : Table) → AllByRecursion IsLow (more t)) → AllByRecursion IsLow (on_table name o more)
on_table-low name None more h = ((refl, refl), tt)
on_table-low name (Some t) more h = h t

at_table-high : (o : Option Table) (checks : Table → List Check) → ((t : Table) → AllByRecursion IsHigh (checks t)) → AllByRecursion IsHigh (at_table o checks)
at_table-high None checks h = tt
at_table-high (Some t) checks h = h t

write_checks-low : (write : Write) (db : Database) → AllByRecursion IsLow (write_checks write db)
write_checks-low (writes.CreateTable name schema) db = ((refl, refl), ((refl, refl), tt))
write_checks-low (writes.DropTable name) db = on_table-low name (table_of name db) _ (λ t. tt)
write_checks-low (writes.CreateIndex name kind table column second) db = on_table-low table (table_of table db) _ (λ t. ((refl, refl), ((refl, refl), ((refl, refl), tt))))
write_checks-low (writes.DropIndex table name) db = on_table-low table (table_of table db) _ (λ t. ((refl, refl), tt))
write_checks-low (writes.Insert table rows) db = on_table-low table (table_of table db) _ (λ t. ((refl, refl), tt))
write_checks-low (writes.Load table rows text) db = on_table-low table (table_of table db) _ (λ t. tt)
write_checks-low (writes.Delete table cond) db = on_table-low table (table_of table db) _ (λ t. ((refl, refl), ((refl, refl), tt)))
write_checks-low (writes.Update table changes cond) db = on_table-low table (table_of table db) _ (λ t. ((refl, refl), ((refl, refl), tt)))

pub statement_checks-low : (statement : Statement) (db : Database) → AllByRecursion IsLow (statement_checks statement db)
statement_checks-low (statements.Write write) db = write_checks-low write db
statement_checks-low (statements.Select select) db = on_table-low select.table (table_of select.table db) _ (λ t. ((refl, refl), ((refl, refl), ((refl, refl), tt))))
statement_checks-low other db = tt

write_room-high : (write : Write) (db : Database) → AllByRecursion IsHigh (write_room write db)
write_room-high (writes.CreateIndex name kind table column second) db = at_table-high (table_of table db) _ (λ t. (refl, (refl, (refl, tt))))
write_room-high (writes.Insert table rows) db = at_table-high (table_of table db) _ (λ t. (refl, (refl, tt)))
write_room-high (writes.Update table changes cond) db = at_table-high (table_of table db) _ (λ t. (refl, (refl, tt)))
write_room-high other db = tt

pub room_checks-high : (statement : Statement) (db : Database) → AllByRecursion IsHigh (room_checks statement db)
room_checks-high (statements.Write write) db = write_room-high write db
room_checks-high other db = tt

pub low_seven : (xs ys : List Check) → AllByRecursion IsLow xs → checks_below 7 (xs ++ ys) ≡ xs ++ checks_below 7 ys
low_seven [] ys h = refl
low_seven (x ∷ xs) ys h = rw (h.0.0) (ap (λ (zs : List Check). x ∷ zs) (low_seven xs ys h.1))

low_ten : (xs ys : List Check) → AllByRecursion IsLow xs → checks_below 10 (xs ++ ys) ≡ xs ++ checks_below 10 ys
low_ten [] ys h = refl
low_ten (x ∷ xs) ys h = rw (h.0.1) (ap (λ (zs : List Check). x ∷ zs) (low_ten xs ys h.1))

high_ten : (xs : List Check) → AllByRecursion IsHigh xs → checks_below 10 xs ≡ []
high_ten [] h = refl
high_ten (x ∷ xs) h = rw (h.0) (high_ten xs h.1)

-- the tests of a transaction
abbrev pub lock_checks : State → ℕ → Statement → Run → List Check
lock_checks s place statement run =
    record { order = 7; found = halted_refusal s.halted (asks_commits statement run) }
    ∷ record { order = 8; found = first_found (locked_refusal s.sessions place) (wanted statement run) }
    ∷ record { order = 9; found = first_found (later_refusal s.wrote run.snapshot) (wanted statement run) }
    ∷ []

pub early_seven : (s : State) (place : ℕ) (session : Session) (statement : Statement) (run : Run) → session.standing ≡ running run
    → checks_below 7 (line_checks s place session statement) ≡ early_checks s.nodes session statement ++ checks_below 7 (run_checks s place (running run) statement)
early_seven s place session statement run is = rw is refl

early_ten : (s : State) (place : ℕ) (session : Session) (statement : Statement) (run : Run) → session.standing ≡ running run
    → checks_below 10 (line_checks s place session statement) ≡ early_checks s.nodes session statement ++ checks_below 10 (run_checks s place (running run) statement)
early_ten s place session statement run is = rw is refl

-- what stands below the order of a halt finds nothing
pub record AreLow (s : State) (session : Session) (statement : Statement) (run : Run) : Type 0 where
  pub early : first_refusal (early_checks s.nodes session statement) ≡ None
  pub named : first_refusal (statement_checks statement run.start.seen) ≡ None

pub low_found : (s : State) (place : ℕ) (session : Session) (statement : Statement) (run : Run) → session.standing ≡ running run → first_refusal (checks_below 7 (line_checks s place session statement)) ≡ None
    → AreLow s session statement run
low_found s place session statement run is h =
    let split = or_none (first_refusal (early_checks s.nodes session statement)) _ (sym (first_more (early_checks s.nodes session statement) (checks_below 7 (run_checks s place (running run) statement))) ∙ ap first_refusal (sym (early_seven s place session statement run is)) ∙ h) in
    let named = or_none (first_refusal (statement_checks statement run.start.seen)) _
    (sym (first_more (statement_checks statement run.start.seen) (checks_below 7 (lock_checks s place statement run ++ room_checks statement run.start.seen)))
    ∙ ap first_refusal (sym (low_seven (statement_checks statement run.start.seen) (lock_checks s place statement run ++ room_checks statement run.start.seen) (statement_checks-low statement run.start.seen))) ∙ split.1) in
    record { early = split.0; named = named.0 }

pub granted_ten : (s : State) (place : ℕ) (session : Session) (statement : Statement) (run : Run) → session.standing ≡ running run → first_refusal (checks_below 7 (line_checks s place session statement)) ≡ None
    → first_refusal (lock_checks s place statement run) ≡ None → first_refusal (checks_below 10 (line_checks s place session statement)) ≡ None
granted_ten s place session statement run is h locks =
    let low = low_found s place session statement run is h in
    let rest : checks_below 10 (run_checks s place (running run) statement) ≡ statement_checks statement run.start.seen ++ lock_checks s place statement run =
    low_ten (statement_checks statement run.start.seen) (lock_checks s place statement run ++ room_checks statement run.start.seen) (statement_checks-low statement run.start.seen)
    ∙ ap (λ (xs : List Check). statement_checks statement run.start.seen ++ (lock_checks s place statement run ++ xs)) (high_ten (room_checks statement run.start.seen) (room_checks-high statement run.start.seen)) in
    ap first_refusal (early_ten s place session statement run is)
    ∙ both_none (early_checks s.nodes session statement) (checks_below 10 (run_checks s place (running run) statement)) low.early (ap first_refusal rest ∙ both_none (statement_checks statement run.start.seen) (lock_checks s place statement run) low.named locks)
