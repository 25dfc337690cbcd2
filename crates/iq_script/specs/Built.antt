-- The statements that the program runs today.
use Rattle.iq_ast.specs.declared.statements.Statement.{Statement}
use Rattle.iq_ast.specs.declared.statements.Statement.TheVariants as statements
use Rattle.iq_ast.specs.declared.statements.Write.{Write}
use Rattle.iq_ast.specs.Built.{IsPlainStatement}
use Rattle.iq_model.specs.Scripts.{HasFewTuples}

-- a statement of a form that is run today, an INSERT in it of not too many tuples
abbrev pub IsBuilt : Statement → Type 0
IsBuilt statement = IsPlainStatement statement × HasFewTuples statement

abbrev pub IsBuiltWrite : Write → Type 0
IsBuiltWrite write = IsBuilt (statements.Write write)
