-- The plain tables for which tables in memory stand, and what a write does to them.
use Rattle.std.specs.Prelude.{◌≡◌, ◌⊎◌, ℕ, List, None, Some, Result, OnOk, OnErr, IfOk, IfErr}
use Rattle.iq_base.specs.declared.refusals.Refusal.{Refusal}
use Rattle.iq_base.specs.declared.refusals.Refusal.TheVariants as refusals
use Rattle.iq_history.specs.Placed.{IsPlacedRefusal}
use Rattle.iq_ast.specs.declared.statements.Write.{Write}
use Rattle.iq_statements.specs.Checks.{Check, first_refusal}
use Rattle.iq_statements.specs.Effects.{effect, count}
use Rattle.iq_statements.specs.Tables.{Database}
use Rattle.iq_database.specs.Standing.{Stand}
use Rattle.iq_write.specs.Effects.{all_checks}
use Rattle.iq_memory.specs.declared.tables.MemoryTables.{MemoryTables}
use Rattle.iq_memory.specs.Told.{told_in}

-- descriptors and pages stand for the tables of a database
abbrev pub Hold : MemoryTables → Database → Type 0
Hold tables db = Stand (told_in tables.pages.tables.items) tables.parts.items db

-- a fact of each database for which they stand
abbrev pub OfHeld : MemoryTables → (Database → Type 0) → Type 0
OfHeld tables P = (db : Database) → Hold tables db → P db

-- tests of each such database find nothing
abbrev pub AreGranted : MemoryTables → (Database → List Check) → Type 0
AreGranted tables checks = OfHeld tables (λ db. first_refusal (checks db) ≡ None)

-- why a statement isn't run: memory wants, or its tests find it
abbrev pub IsCause : MemoryTables → (Database → List Check) → Refusal → Type 0
IsCause tables checks cause = (cause ≡ refusals.NoMemory) ⊎ OfHeld tables (λ db. first_refusal (checks db) ≡ Some cause)

-- A write took effect and answers how many rows it put in; or is refused, and each table is as it was.
pub record HasWritten (write : Write) (old new : MemoryTables) (result : Result ℕ Refusal) : Type 0 where
  pub granted : OnOk result (AreGranted old (all_checks write))
  pub ok : OnOk result (OfHeld old (λ db. Hold new (effect write db)))
  pub rows : IfOk result (λ rows. OfHeld old (λ db. rows ≡ count write db))
  pub unchanged : OnErr result (OfHeld old (Hold new))
  pub placed : IfErr result (λ e. (n : ℕ) → IsPlacedRefusal n e)
  pub cause : IfErr result (IsCause old (all_checks write))
