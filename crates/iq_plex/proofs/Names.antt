-- The names that a write locks.
use Rattle.std.specs.Prelude.{◌≡◌, refl, ◌≤◌, ◌||◌, Bool, true, false, List, [], ◌∷◌, length}
use Rattle.std.proofs.Common.{ap, arith}
use Rattle.iq_base.specs.Shorts.{Name}
use Rattle.iq_base.specs.Locks.{catalog_name}
use Rattle.iq_ast.specs.declared.statements.Write.{Write}
use Rattle.iq_ast.specs.declared.statements.Write.TheVariants as writes
use Rattle.iq_statements.specs.Statements.{names_of}
use Rattle.iq_replay.specs.State.{not_held, has_some}
use Rattle.iq_conditions.specs.Servers.{same_name}
use Rattle.iq_locks.proofs.Tables.{same_name-refl}

-- a transaction that holds no name wants all
pub none_held : (names : List Name) → not_held [] names ≡ names
none_held [] = refl
none_held (name ∷ names) = ap (λ (ns : List Name). name ∷ ns) (none_held names)

-- one that holds them wants none
one_held : (name : Name) → not_held (name ∷ []) (name ∷ []) ≡ []
one_held name = rw (same_name-refl name) refl

two_held : (a b : Name) → not_held (a ∷ b ∷ []) (a ∷ b ∷ []) ≡ []
two_held a b = rw (same_name-refl a, same_name-refl b, or_true (same_name a b)) refl
  where
    or_true : (x : Bool) → (x || true) ≡ true
    or_true true = refl
    or_true false = refl

pub all_held : (write : Write) → not_held (names_of write) (names_of write) ≡ []
all_held (writes.CreateTable name schema) = one_held catalog_name
all_held (writes.DropTable name) = two_held catalog_name name
all_held (writes.CreateIndex name kind table column second) = one_held table
all_held (writes.DropIndex table name) = one_held table
all_held (writes.Insert table rows) = one_held table
all_held (writes.Load table rows text) = one_held table
all_held (writes.Delete table cond) = one_held table
all_held (writes.Update table changes cond) = one_held table

-- a write locks one name at least, and two at most
pub some_names : (write : Write) → has_some (names_of write) ≡ true
some_names (writes.CreateTable name schema) = refl
some_names (writes.DropTable name) = refl
some_names (writes.CreateIndex name kind table column second) = refl
some_names (writes.DropIndex table name) = refl
some_names (writes.Insert table rows) = refl
some_names (writes.Load table rows text) = refl
some_names (writes.Delete table cond) = refl
some_names (writes.Update table changes cond) = refl

pub few_names : (write : Write) → length (names_of write) ≤ 2
few_names (writes.CreateTable name schema) = omega arith
few_names (writes.DropTable name) = omega arith
few_names (writes.CreateIndex name kind table column second) = omega arith
few_names (writes.DropIndex table name) = omega arith
few_names (writes.Insert table rows) = omega arith
few_names (writes.Load table rows text) = omega arith
few_names (writes.Delete table cond) = omega arith
few_names (writes.Update table changes cond) = omega arith
