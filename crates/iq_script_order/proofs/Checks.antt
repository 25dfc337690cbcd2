-- Tests of a line where nothing has halted: the test of a halt finds nothing.
use Rattle.std.specs.Prelude.{◌≡◌, refl, ℕ, Bool, true, false, List, [], ◌∷◌, ◌++◌, Option, Some, None, nat_eq, nat_lt}
use Rattle.std.specs.List.{AllByRecursion}
use Rattle.std.specs.Option.{option_or}
use Rattle.std.proofs.Common.{ap}
use Rattle.iq_base.specs.Shorts.{Name}
use Rattle.iq_base.specs.declared.refusals.Refusal.{Refusal}
use Rattle.iq_ast.specs.declared.statements.Statement.{Statement}
use Rattle.iq_ast.specs.declared.statements.Statement.TheVariants as statements
use Rattle.iq_ast.specs.declared.statements.Write.{Write}
use Rattle.iq_ast.specs.declared.statements.Write.TheVariants as writes
use Rattle.iq_statements.specs.Checks.{Check, first_refusal}
use Rattle.iq_statements.specs.Tables.{Table, Database, table_of}
use Rattle.iq_statements.specs.Named.{on_table, write_checks}
use Rattle.iq_statements.specs.Room.{at_table, write_room}
use Rattle.iq_statements.specs.Statements.{statement_checks, room_checks}
use Rattle.iq_replay.specs.State.{State, Session, Standing, idle, lost, running}
use Rattle.iq_replay.specs.Refusals.{halted_refusal, run_checks, line_checks, checks_but, checks_below}

-- ORDERS

-- a test that isn't of the halt's order
abbrev pub IsApart : Check → Type 0
IsApart check = nat_eq check.order 7 ≡ false

AllByRecursion-append : {X : Type 0} (P : X → Type 0) (xs ys : List X) → AllByRecursion P xs → AllByRecursion P ys → AllByRecursion P (xs ++ ys)
AllByRecursion-append P [] ys h k = k
AllByRecursion-append P (x ∷ xs) ys h k = (h.0, AllByRecursion-append P xs ys h.1 k)

on_table-apart : (name : Name) (o : Option Table) (more : Table → List Check) → ((t : Table) → AllByRecursion IsApart (more t)) → AllByRecursion IsApart (on_table name o more)
on_table-apart name None more h = (refl, tt)
on_table-apart name (Some t) more h = h t

at_table-apart : (o : Option Table) (checks : Table → List Check) → ((t : Table) → AllByRecursion IsApart (checks t)) → AllByRecursion IsApart (at_table o checks)
at_table-apart None checks h = tt
at_table-apart (Some t) checks h = h t

write_checks-apart : (write : Write) (db : Database) → AllByRecursion IsApart (write_checks write db)
write_checks-apart (writes.CreateTable name schema) db = (refl, (refl, tt))
write_checks-apart (writes.DropTable name) db = on_table-apart name (table_of name db) _ (λ t. tt)
write_checks-apart (writes.CreateIndex name kind table column second) db = on_table-apart table (table_of table db) _ (λ t. (refl, (refl, (refl, tt))))
write_checks-apart (writes.DropIndex table name) db = on_table-apart table (table_of table db) _ (λ t. (refl, tt))
write_checks-apart (writes.Insert table rows) db = on_table-apart table (table_of table db) _ (λ t. (refl, tt))
write_checks-apart (writes.Load table rows text) db = on_table-apart table (table_of table db) _ (λ t. tt)
write_checks-apart (writes.Delete table cond) db = on_table-apart table (table_of table db) _ (λ t. (refl, (refl, tt)))
write_checks-apart (writes.Update table changes cond) db = on_table-apart table (table_of table db) _ (λ t. (refl, (refl, tt)))

statement_checks-apart : (statement : Statement) (db : Database) → AllByRecursion IsApart (statement_checks statement db)
statement_checks-apart (statements.Write write) db = write_checks-apart write db
statement_checks-apart (statements.Select select) db = on_table-apart select.table (table_of select.table db) _ (λ t. (refl, (refl, (refl, tt))))
statement_checks-apart other db = tt

write_room-apart : (write : Write) (db : Database) → AllByRecursion IsApart (write_room write db)
write_room-apart (writes.CreateIndex name kind table column second) db = at_table-apart (table_of table db) _ (λ t. (refl, (refl, (refl, tt))))
write_room-apart (writes.Insert table rows) db = at_table-apart (table_of table db) _ (λ t. (refl, (refl, tt)))
write_room-apart (writes.Update table changes cond) db = at_table-apart (table_of table db) _ (λ t. (refl, (refl, tt)))
write_room-apart other db = tt

room_checks-apart : (statement : Statement) (db : Database) → AllByRecursion IsApart (room_checks statement db)
room_checks-apart (statements.Write write) db = write_room-apart write db
room_checks-apart other db = tt

-- a test that finds nothing where it is of the halt's order
abbrev pub IsQuiet : Check → Type 0
IsQuiet check = nat_eq check.order 7 ≡ true → check.found ≡ None

quiet_of_apart : (checks : List Check) → AllByRecursion IsApart checks → AllByRecursion IsQuiet checks
quiet_of_apart [] h = tt
quiet_of_apart (check ∷ checks) h = ((λ q. cc (q, h.0)), quiet_of_apart checks h.1)

halted_none : (asks : Bool) → halted_refusal None asks ≡ None
halted_none asks = refl

line_checks-quiet : (s : State) (place : ℕ) (session : Session) (statement : Statement) → s.halted ≡ None → AllByRecursion IsQuiet (line_checks s place session statement)
line_checks-quiet s place session statement none = ((λ q. cc q), ((λ q. cc q), ((λ q. cc q), ((λ q. cc q), at_standing session.standing))))
  where
    at_standing : (standing : Standing) → AllByRecursion IsQuiet (run_checks s place standing statement)
    at_standing idle = tt
    at_standing lost = tt
    at_standing (running run) =
        AllByRecursion-append IsQuiet (statement_checks statement run.start.seen) _ (quiet_of_apart _ (statement_checks-apart statement run.start.seen))
        ((λ q. rw none refl), ((λ q. cc q), ((λ q. cc q), quiet_of_apart _ (room_checks-apart statement run.start.seen))))

-- FIRST REFUSALS

first_but : (checks : List Check) → AllByRecursion IsQuiet checks → first_refusal (checks_but 7 checks) ≡ first_refusal checks
first_but [] h = refl
first_but (check ∷ checks) h = at_order (nat_eq check.order 7) refl (first_but checks h.1)
  where
    at_order : (b : Bool) → nat_eq check.order 7 ≡ b → first_refusal (checks_but 7 checks) ≡ first_refusal checks → first_refusal (checks_but 7 (check ∷ checks)) ≡ first_refusal (check ∷ checks)
    at_order true q more = rw (q, h.0 q) more
    at_order false q more = rw q (ap (λ (o : Option Refusal). option_or check.found o) more)

-- where nothing has halted, the first refusal is the same with the test of a halt and without it
pub first_same : (s : State) (place : ℕ) (session : Session) (statement : Statement) → s.halted ≡ None
    → first_refusal (checks_but 7 (line_checks s place session statement)) ≡ first_refusal (line_checks s place session statement)
first_same s place session statement none = first_but (line_checks s place session statement) (line_checks-quiet s place session statement none)

-- a test below an order finds nothing where all those below it find nothing
pub found_below : (order : ℕ) (front : List Check) (check : Check) (behind : List Check) → first_refusal (checks_below order (front ++ check ∷ behind)) ≡ None → nat_lt check.order order ≡ true → check.found ≡ None
found_below order [] check behind h low = at_found check.found (rw low at h)
  where
    at_found : (o : Option Refusal) → option_or o (first_refusal (checks_below order behind)) ≡ None → o ≡ None
    at_found None q = refl
    at_found (Some cause) q = cc q
found_below order (first ∷ front) check behind h low = at_order (nat_lt first.order order) refl (found_below order front check behind) h low
  where
    at_order : (b : Bool) → nat_lt first.order order ≡ b
        → (first_refusal (checks_below order (front ++ check ∷ behind)) ≡ None → nat_lt check.order order ≡ true → check.found ≡ None)
        → first_refusal (checks_below order (first ∷ (front ++ check ∷ behind))) ≡ None → nat_lt check.order order ≡ true → check.found ≡ None
    at_order true q more k low = more (at_found first.found (rw q at k)) low
      where
        at_found : (o : Option Refusal) → option_or o (first_refusal (checks_below order (front ++ check ∷ behind))) ≡ None → first_refusal (checks_below order (front ++ check ∷ behind)) ≡ None
        at_found None p = p
        at_found (Some cause) p = cc p
    at_order false q more k low = more (rw q at k) low
