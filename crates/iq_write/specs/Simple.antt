-- The writes that are run.
use Rattle.std.specs.Prelude.{◌≡◌, ◌≤◌, ⊤, List, [], length, All}
use Rattle.iq_base.specs.declared.descriptors.Descriptor.{Descriptor}
use Rattle.iq_database.specs.Standing.{AreTables}
use Rattle.iq_ast.specs.declared.statements.Write.{Write}
use Rattle.iq_ast.specs.declared.statements.Write.TheVariants as writes

-- a table of at most 32 columns is created, a table is dropped, or at most 16,777,216 rows are inserted
abbrev pub IsSimpleWrite : Write → Type 0
IsSimpleWrite (writes.CreateTable name schema) = length schema.columns ≤ 32
IsSimpleWrite (writes.DropTable name) = ⊤
IsSimpleWrite (writes.CreateIndex name kind table column second) = ⊥
IsSimpleWrite (writes.DropIndex table name) = ⊥
IsSimpleWrite (writes.Insert table rows) = length rows ≤ 16777216
IsSimpleWrite (writes.Load table rows text) = ⊥
IsSimpleWrite (writes.Delete table cond) = ⊥
IsSimpleWrite (writes.Update table changes cond) = ⊥

-- tables that a store may have, none of which has an index
pub record ArePlain (ds : List Descriptor) : Type 0 where
  pub tables : AreTables ds
  pub plain : All (λ (d : Descriptor). d.indexes ≡ []) ds
