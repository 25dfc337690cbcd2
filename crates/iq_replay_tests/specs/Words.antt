-- Words for scripts, histories and replies written by hand.
use Rattle.std.specs.Prelude.{ℕ, Bool, pos, suc, zero, true, false, List, [], ◌∷◌, Option, Some, None, map}
use Rattle.iq_base.specs.Shorts.{Name}
use Rattle.iq_base.specs.declared.nodes.NodeKind.{NodeKind}
use Rattle.iq_base.specs.declared.nodes.NodeSpec.{NodeSpec}
use Rattle.iq_base.specs.declared.nodes.SessionSpec.{SessionSpec}
use Rattle.iq_base.specs.declared.refusals.Census.{Census}
use Rattle.iq_base.specs.declared.refusals.Refusal.{Refusal}
use Rattle.iq_base.specs.declared.refusals.Refusal.TheVariants as refusals
use Rattle.iq_base.specs.declared.schemas.Column.{Column}
use Rattle.iq_base.specs.declared.values.Kind.TheVariants as kinds
use Rattle.iq_base.specs.declared.values.Value.{Value}
use Rattle.iq_base.specs.declared.values.Value.TheVariants as values
use Rattle.iq_ast.specs.declared.conditions.Cond as conds
use Rattle.iq_ast.specs.declared.conditions.Op.TheVariants as ops
use Rattle.iq_ast.specs.declared.conditions.Test.TheVariants as tests
use Rattle.iq_ast.specs.declared.statements.Item.TheVariants as items
use Rattle.iq_ast.specs.declared.statements.Statement.{Statement}
use Rattle.iq_ast.specs.declared.statements.Statement.TheVariants as statements
use Rattle.iq_ast.specs.declared.statements.Write.TheVariants as writes
use Rattle.iq_history.specs.declared.entries.Entry.{Entry}
use Rattle.iq_model.specs.declared.answers.Answer.TheVariants as answers
use Rattle.iq_model.specs.declared.answers.NodeVersion.{NodeVersion}
use Rattle.iq_model.specs.declared.answers.Out.{Out}
use Rattle.iq_model.specs.declared.answers.Out.TheVariants as outs
use Rattle.iq_model.specs.declared.replies.Reply.{Reply}
use Rattle.iq_model.specs.declared.replies.Said.{Said}
use Rattle.iq_model.specs.declared.replies.Said.TheVariants as said
use Rattle.iq_model.specs.declared.scripts.Deed.TheVariants as deeds
use Rattle.iq_model.specs.declared.scripts.Line.{Line}
use Rattle.iq_model.specs.declared.scripts.Step.{Step}
use Rattle.iq_replay.specs.State.{changed_at}

-- SCRIPTS

abbrev pub node : Name → NodeKind → NodeSpec
node name may = record { name = name; kind = may }

-- a session on the node at a place, with so many lines
abbrev pub session : Name → ℕ → ℕ → SessionSpec
session name place lines = record { name = name; node = place; lines = lines }

-- the line of the session at a place, under a number; a step under a number
abbrev pub line : ℕ → ℕ → Statement → Line
line place number statement = record { number = number; session = Some place; deed = deeds.Statement statement }

abbrev pub step : ℕ → Step → Line
step number this = record { number = number; session = None; deed = deeds.Step this }

-- STATEMENTS

-- a column of numbers of 32 bits that may hold NULL
abbrev pub number_column : Name → Column
number_column name = record { name = name; kind = kinds.Int; null = true }

-- CREATE TABLE t (x INT NULL)
abbrev pub create : Name → Name → Statement
create table column = statements.Write (writes.CreateTable table (record { columns = number_column column ∷ [] }))

-- INSERT of rows of one number each
abbrev pub row_of : ℕ → List Value
row_of number = values.Int (pos number) ∷ []

abbrev pub insert : Name → List ℕ → Statement
insert table numbers = statements.Write (writes.Insert table (map row_of numbers))

-- DELETE FROM t; DELETE FROM t WHERE x = n
abbrev pub delete_all : Name → Statement
delete_all table = statements.Write (writes.Delete table None)

abbrev pub delete_equal : Name → Name → ℕ → Statement
delete_equal table column number =
    statements.Write (writes.Delete table (Some (conds.Test (tests.Compare column ops.Eq (values.Int (pos number))))))

-- DROP TABLE t
abbrev pub drop_table : Name → Statement
drop_table table = statements.Write (writes.DropTable table)

-- SELECT x FROM t; SELECT COUNT(*) FROM t
abbrev pub select : Name → Name → Statement
select column table =
    statements.Select (record { explain = false; items = items.Plain column ∷ []; table = table; cond = None; group = []; order = [] })

abbrev pub count_all : Name → Statement
count_all table = statements.Select (record { explain = false; items = items.CountAll ∷ []; table = table; cond = None; group = []; order = [] })

-- REPLIES

abbrev pub reply : ℕ → Said → Option Reply
reply number what = Some (record { line = number; said = what })

-- rows of one number each
abbrev pub out_row : ℕ → List Out
out_row number = outs.Int (pos number) ∷ []

abbrev pub rows : List ℕ → Said
rows numbers = said.Answer (answers.Rows (map out_row numbers))

-- a census; why a write finds no block
abbrev pub census : ℕ → ℕ → ℕ → ℕ → ℕ → Census
census free reserved private reached waiting =
    record { free = free; reserved = reserved; private = private; reached = reached; waiting = waiting }

abbrev pub no_space : ℕ → ℕ → ℕ → ℕ → ℕ → Refusal
no_space free reserved private reached waiting = refusals.NoSpace (census free reserved private reached waiting)

-- what VERSIONS tells of the node at a place: its position, floor, taken floor and incarnation, and whether it is excluded
abbrev pub version : ℕ → ℕ → ℕ → ℕ → ℕ → Bool → NodeVersion
version place position floor taken incarnation excluded =
    record { node = place; position = position; floor = floor; taken = taken; incarnation = incarnation; excluded = excluded }

abbrev pub versions : ℕ → ℕ → List NodeVersion → Said
versions latest horizon nodes = said.Versions (record { latest = latest; horizon = horizon; nodes = nodes })

-- HISTORIES

-- a history with another entry at a place, and one without the entry at a place
abbrev pub with_entry : ℕ → Entry → List Entry → List Entry
with_entry n e es = changed_at n (λ old. e) es

abbrev pub without_entry : ℕ → List Entry → List Entry
without_entry n [] = []
without_entry zero (e ∷ es) = es
without_entry (suc n) (e ∷ es) = e ∷ without_entry n es
