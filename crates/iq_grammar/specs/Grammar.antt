-- The grammar as data, and what it says.
use Rattle.std.specs.Prelude.{◌≡◌, Bool, true, false, ◌&&◌, if◌then◌else◌, List, [], ◌∷◌, ◌++◌, Option, Some, None, ◌⊎◌}
use Rattle.iq_base.specs.declared.values.Kind.TheVariants as column_kind
use Rattle.iq_base.specs.declared.schemas.IndexKind.TheVariants as index
use Rattle.iq_ast.specs.declared.conditions.Op.TheVariants as op
use Rattle.iq_tokens.specs.declared.tokens.Mark.{Mark as TheMark}
use Rattle.iq_tokens.specs.declared.tokens.Mark.TheVariants.{Create, Drop, Insert, Into, Values, Load, Table, Rows, Delete, From, Update, Set, Equal, Explain, Select, Begin, Transaction, Commit, Rollback, Savepoint, Release, Sync, To, Open, Close, Lf, Hg, Hng, Cmp, Index, On, Comma, Int, Bigint, Varchar, Null, Not, Dot, Star, Count, Sum, Min, Max, Group, By, Order, Asc, Desc, Where, And, Or, Differs, Less, AtMost, More, AtLeast, Between, In, Is, Semicolon, Alter, Apply, Coordinator, Excluded, Included, Lose, Multiplex, Node, Reader, Report, Restart, Server, Session, Space, Status, Take, Versions, Writer}
use Rattle.iq_tokens.specs.declared.tokens.Kind.{Kind}
use Rattle.iq_tokens.specs.declared.tokens.Kind.TheVariants.{Mark, Name, Number, Text}
use Rattle.iq_tokens.specs.declared.tokens.Lexeme.{Lexeme}
use Rattle.iq_tokens.specs.Kinds.{same, kind_of}
use Rattle.iq_grammar.specs.declared.grammar.Form.TheVariants as form
use Rattle.iq_grammar.specs.declared.grammar.Aggregate.TheVariants as aggregate
use Rattle.iq_grammar.specs.declared.grammar.Order.TheVariants as order
use Rattle.iq_grammar.specs.declared.grammar.Role.{Role}
use Rattle.iq_grammar.specs.declared.grammar.Role.TheVariants as role
use Rattle.iq_grammar.specs.declared.grammar.Part.{Part}
use Rattle.iq_grammar.specs.declared.grammar.Part.TheVariants as part
use Rattle.iq_grammar.specs.declared.grammar.Symbol.{Symbol}
use Rattle.iq_grammar.specs.declared.grammar.Symbol.TheVariants.{Word, Go}
use Rattle.iq_grammar.specs.declared.grammar.Line.{Line as LineOfCode}

-- a line of the grammar: its first token with its role, and what follows
pub record Line : Type 0 where
  pub kind : Kind
  pub role : Role
  pub rest : List Symbol

abbrev pub the_line : LineOfCode → Line
the_line l = record { kind = l.kind; role = l.role; rest = l.rest.now }

abbrev pub line_of : Kind → Role → List Symbol → Line
line_of k r ss = record { kind = k; role = r; rest = ss }

-- a line that begins with a mark
abbrev pub line : TheMark → Role → List Symbol → Line
line m r ss = line_of (Mark m) r ss

-- a mark in a role
abbrev pub acts : TheMark → Role → Symbol
acts m r = Word (Mark m) r

-- a mark that is only passed
abbrev pub word : TheMark → Symbol
word m = acts m role.Skip

unfoldable pub lines : Part → List Line
lines part.Statement =
    line Create role.Skip (Go part.Created ∷ [])
    ∷ line Drop role.Skip (Go part.Dropped ∷ [])
    ∷ line Insert (role.Form form.Insert) (word Into ∷ Word Name role.Table ∷ word Values ∷ Go part.Tuple ∷ Go part.MoreTuples ∷ [])
    ∷ line Load (role.Form form.Load) (word Table ∷ Word Name role.Table ∷ word Rows ∷ Word Number role.Rows ∷ [])
    ∷ line Delete (role.Form form.Delete) (word From ∷ Word Name role.Table ∷ Go part.Where ∷ [])
    ∷ line Update (role.Form form.Update) (Word Name role.Table ∷ word Set ∷ Word Name role.Changed ∷ word Equal ∷ Go part.NewValue ∷ Go part.MoreChanges ∷ Go part.Where ∷ [])
    ∷ line Explain role.Explain (acts Select (role.Form form.Select) ∷ Go part.Query ∷ [])
    ∷ line Select (role.Form form.Select) (Go part.Query ∷ [])
    ∷ line Begin (role.Form form.Begin) (word Transaction ∷ [])
    ∷ line Commit (role.Form form.Commit) []
    ∷ line Rollback (role.Form form.Rollback) (Go part.BackTo ∷ [])
    ∷ line Savepoint (role.Form form.Savepoint) (Word Name role.Name ∷ [])
    ∷ line Release (role.Form form.Release) (word Savepoint ∷ Word Name role.Name ∷ [])
    ∷ line Sync (role.Form form.Sync) [] ∷ []
lines part.Directive =
    line Node role.Skip (Word Name role.Name ∷ Go part.Declared ∷ [])
    ∷ line Session (role.Order order.Session) (Word Name role.Name ∷ word On ∷ Word Name role.Table ∷ [])
    ∷ line Apply (role.Order order.Apply) (Word Name role.Name ∷ [])
    ∷ line Report (role.Order order.Report) (Word Name role.Name ∷ [])
    ∷ line Lose (role.Order order.Lose) (Word Number role.Number ∷ [])
    ∷ line Take (role.Order order.Take) (Word Number role.Number ∷ [])
    ∷ line Restart (role.Order order.Restart) (Word Name role.Name ∷ [])
    ∷ line Alter role.Skip (word Multiplex ∷ word Server ∷ Word Name role.Name ∷ word Status ∷ Go part.Status ∷ [])
    ∷ line Space (role.Order order.Space) []
    ∷ line Versions (role.Order order.Versions) [] ∷ []
lines part.Declared =
    line Coordinator (role.Order order.Coordinator) []
    ∷ line Writer (role.Order order.Writer) []
    ∷ line Reader (role.Order order.Reader) [] ∷ []
lines part.Status =
    line Excluded (role.Order order.Exclude) []
    ∷ line Included (role.Order order.Include) [] ∷ []
lines part.BackTo = line To (role.Form form.BackTo) (word Savepoint ∷ Word Name role.Name ∷ []) ∷ []
lines part.Created =
    line Table (role.Form form.CreateTable) (Word Name role.Table ∷ word Open ∷ Go part.Column ∷ Go part.MoreColumns ∷ word Close ∷ [])
    ∷ line Lf (role.Index index.Lf) (Go part.OneColumn ∷ [])
    ∷ line Hg (role.Index index.Hg) (Go part.OneColumn ∷ [])
    ∷ line Hng (role.Index index.Hng) (Go part.OneColumn ∷ [])
    ∷ line Cmp (role.Index index.Cmp) (word Index ∷ Word Name role.Name ∷ word On ∷ Word Name role.Table ∷ word Open ∷ Word Name role.Indexed ∷ word Comma ∷ Word Name role.Second ∷ word Close ∷ []) ∷ []
lines part.OneColumn = line Index role.Skip (Word Name role.Name ∷ word On ∷ Word Name role.Table ∷ word Open ∷ Word Name role.Indexed ∷ word Close ∷ []) ∷ []
lines part.Column = line_of Name role.Column (Go part.Kind ∷ Go part.Nullness ∷ []) ∷ []
lines part.MoreColumns = line Comma role.Skip (Go part.Column ∷ Go part.MoreColumns ∷ []) ∷ []
lines part.Kind =
    line Int (role.Kind column_kind.Int) []
    ∷ line Bigint (role.Kind column_kind.Big) []
    ∷ line Varchar role.Skip (word Open ∷ Word Number role.Length ∷ word Close ∷ []) ∷ []
lines part.Nullness =
    line Null role.Skip []
    ∷ line Not role.Skip (acts Null role.NotNull ∷ []) ∷ []
lines part.Dropped =
    line Table (role.Form form.DropTable) (Word Name role.Table ∷ [])
    ∷ line Index (role.Form form.DropIndex) (Word Name role.Table ∷ word Dot ∷ Word Name role.Name ∷ []) ∷ []
lines part.Tuple = line Open role.Skip (Go part.Value ∷ Go part.MoreValues ∷ acts Close role.Row ∷ []) ∷ []
lines part.MoreTuples = line Comma role.Skip (Go part.Tuple ∷ Go part.MoreTuples ∷ []) ∷ []
lines part.Value =
    line_of Number role.Value []
    ∷ line_of Text role.Value []
    ∷ line Null role.Value [] ∷ []
lines part.MoreValues = line Comma role.Skip (Go part.Value ∷ Go part.MoreValues ∷ []) ∷ []
lines part.NewValue =
    line_of Number role.NewValue []
    ∷ line_of Text role.NewValue []
    ∷ line Null role.NewValue [] ∷ []
lines part.MoreChanges = line Comma role.Skip (Word Name role.Changed ∷ word Equal ∷ Go part.NewValue ∷ Go part.MoreChanges ∷ []) ∷ []
lines part.Query =
    line Star role.Skip (Go part.From ∷ [])
    ∷ line_of Name role.Item (Go part.MoreItems ∷ Go part.From ∷ [])
    ∷ line Count (role.Aggregate aggregate.Count) (word Open ∷ Go part.Counted ∷ word Close ∷ Go part.MoreItems ∷ Go part.From ∷ [])
    ∷ line Sum (role.Aggregate aggregate.Sum) (word Open ∷ Word Name role.Aggregated ∷ word Close ∷ Go part.MoreItems ∷ Go part.From ∷ [])
    ∷ line Min (role.Aggregate aggregate.Min) (word Open ∷ Word Name role.Aggregated ∷ word Close ∷ Go part.MoreItems ∷ Go part.From ∷ [])
    ∷ line Max (role.Aggregate aggregate.Max) (word Open ∷ Word Name role.Aggregated ∷ word Close ∷ Go part.MoreItems ∷ Go part.From ∷ []) ∷ []
lines part.From = line From role.Skip (Word Name role.Table ∷ Go part.Where ∷ Go part.GroupBy ∷ Go part.OrderBy ∷ []) ∷ []
lines part.MoreItems = line Comma role.Skip (Go part.Item ∷ Go part.MoreItems ∷ []) ∷ []
lines part.Item =
    line_of Name role.Item []
    ∷ line Count (role.Aggregate aggregate.Count) (word Open ∷ Go part.Counted ∷ word Close ∷ [])
    ∷ line Sum (role.Aggregate aggregate.Sum) (word Open ∷ Word Name role.Aggregated ∷ word Close ∷ [])
    ∷ line Min (role.Aggregate aggregate.Min) (word Open ∷ Word Name role.Aggregated ∷ word Close ∷ [])
    ∷ line Max (role.Aggregate aggregate.Max) (word Open ∷ Word Name role.Aggregated ∷ word Close ∷ []) ∷ []
lines part.Counted =
    line Star role.CountAll []
    ∷ line_of Name role.Aggregated [] ∷ []
lines part.GroupBy = line Group role.Skip (word By ∷ Word Name role.Grouped ∷ Go part.MoreGroups ∷ []) ∷ []
lines part.MoreGroups = line Comma role.Skip (Word Name role.Grouped ∷ Go part.MoreGroups ∷ []) ∷ []
lines part.OrderBy = line Order role.Skip (word By ∷ Word Name role.Ordered ∷ Go part.Way ∷ Go part.MoreOrders ∷ []) ∷ []
lines part.MoreOrders = line Comma role.Skip (Word Name role.Ordered ∷ Go part.Way ∷ Go part.MoreOrders ∷ []) ∷ []
lines part.Way =
    line Asc role.Skip []
    ∷ line Desc role.Descending [] ∷ []
lines part.Where = line Where role.Skip (Go part.Condition ∷ Go part.MoreAnd ∷ Go part.MoreOr ∷ []) ∷ []
lines part.Condition =
    line Not role.Negate (Go part.Condition ∷ [])
    ∷ line Open role.Opened (Go part.Condition ∷ Go part.MoreAnd ∷ Go part.MoreOr ∷ acts Close role.Closed ∷ [])
    ∷ line_of Name role.Tested (Go part.Test ∷ []) ∷ []
lines part.MoreAnd = line And role.Skip (Go part.Condition ∷ Go part.MoreAnd ∷ []) ∷ []
lines part.MoreOr = line Or role.OrNext (Go part.Condition ∷ Go part.MoreAnd ∷ Go part.MoreOr ∷ []) ∷ []
lines part.Test =
    line Equal (role.Compare op.Eq) (Go part.Operand ∷ [])
    ∷ line Differs (role.Compare op.Ne) (Go part.Operand ∷ [])
    ∷ line Less (role.Compare op.Lt) (Go part.Operand ∷ [])
    ∷ line AtMost (role.Compare op.Le) (Go part.Operand ∷ [])
    ∷ line More (role.Compare op.Gt) (Go part.Operand ∷ [])
    ∷ line AtLeast (role.Compare op.Ge) (Go part.Operand ∷ [])
    ∷ line Not role.Outside (Go part.Within ∷ [])
    ∷ line Between role.Skip (Go part.Low ∷ word And ∷ Go part.High ∷ [])
    ∷ line In role.Skip (word Open ∷ Go part.Member ∷ Go part.MoreMembers ∷ acts Close role.OneOf ∷ [])
    ∷ line Is role.Skip (Go part.Nulled ∷ []) ∷ []
lines part.Within =
    line Between role.Skip (Go part.Low ∷ word And ∷ Go part.High ∷ [])
    ∷ line In role.Skip (word Open ∷ Go part.Member ∷ Go part.MoreMembers ∷ acts Close role.OneOf ∷ []) ∷ []
lines part.Nulled =
    line Null role.IsNull []
    ∷ line Not role.Outside (acts Null role.IsNull ∷ []) ∷ []
lines part.Operand =
    line_of Number role.Compared []
    ∷ line_of Text role.Compared []
    ∷ line Null role.Compared []
    ∷ line_of Name role.ComparedColumn [] ∷ []
lines part.Low =
    line_of Number role.Low []
    ∷ line_of Text role.Low []
    ∷ line Null role.Low [] ∷ []
lines part.High =
    line_of Number role.High []
    ∷ line_of Text role.High []
    ∷ line Null role.High [] ∷ []
lines part.Member =
    line_of Number role.Member []
    ∷ line_of Text role.Member []
    ∷ line Null role.Member [] ∷ []
lines part.MoreMembers = line Comma role.Skip (Go part.Member ∷ Go part.MoreMembers ∷ []) ∷ []
lines part.End = line Semicolon role.Skip [] ∷ []

-- whether the part may be left out
unfoldable pub may_lack : Part → Bool
may_lack part.Statement = false
may_lack part.Directive = false
may_lack part.Declared = false
may_lack part.Status = false
may_lack part.BackTo = true
may_lack part.Created = false
may_lack part.OneColumn = false
may_lack part.Column = false
may_lack part.MoreColumns = true
may_lack part.Kind = false
may_lack part.Nullness = true
may_lack part.Dropped = false
may_lack part.Tuple = false
may_lack part.MoreTuples = true
may_lack part.Value = false
may_lack part.MoreValues = true
may_lack part.NewValue = false
may_lack part.MoreChanges = true
may_lack part.Query = false
may_lack part.From = false
may_lack part.MoreItems = true
may_lack part.Item = false
may_lack part.Counted = false
may_lack part.GroupBy = true
may_lack part.MoreGroups = true
may_lack part.OrderBy = true
may_lack part.MoreOrders = true
may_lack part.Way = true
may_lack part.Where = true
may_lack part.Condition = false
may_lack part.MoreAnd = true
may_lack part.MoreOr = true
may_lack part.Test = false
may_lack part.Within = false
may_lack part.Nulled = false
may_lack part.Operand = false
may_lack part.Low = false
may_lack part.High = false
may_lack part.Member = false
may_lack part.MoreMembers = true
may_lack part.End = true

-- a token in its role
pub record Sign : Type 0 where
  pub role : Role
  pub lexeme : Lexeme

abbrev pub sign : Role → Lexeme → Sign
sign r l = record { role = r; lexeme = l }

-- the line is one of these
abbrev pub IsAmong : List Line → Line → Type 0
IsAmong [] l = ⊥
IsAmong (k ∷ ks) l = (k ≡ l) ⊎ IsAmong ks l

-- the tokens, each in its role, are of the form that these symbols say, one after the other
pub data Fits : List Symbol → List Sign → Type 0 where
  done : Fits [] []
  taken : (k : Kind) (r : Role) (l : Lexeme) (ss : List Symbol) (ms : List Sign) → same (kind_of l) k ≡ true → Fits ss ms → Fits (Word k r ∷ ss) (sign r l ∷ ms)
  chosen : (p : Part) (l : Line) (ss : List Symbol) (ms : List Sign) → IsAmong (lines p) l → Fits (Word l.kind l.role ∷ (l.rest ++ ss)) ms → Fits (Go p ∷ ss) ms
  lacking : (p : Part) (ss : List Symbol) (ms : List Sign) → may_lack p ≡ true → Fits ss ms → Fits (Go p ∷ ss) ms

-- Reading from left to right.

-- the first line of these that begins with the kind
abbrev pub beginning : Kind → List Line → Option Line
beginning k [] = None
beginning k (l ∷ ls) = if same k l.kind then Some l else beginning k ls

-- what a token's role is, and what has to follow
abbrev pub begun : Option Line → Bool → List Symbol → Option Line → Option Line
begun (Some l) lack ss again = Some (line_of l.kind l.role (l.rest ++ ss))
begun None true ss again = again
begun None false ss again = None

unfoldable pub after : List Symbol → Kind → Option Line
after [] k = None
after (Word j r ∷ ss) k = if same k j then Some (line_of j r ss) else None
after (Go p ∷ ss) k = begun (beginning k (lines p)) (may_lack p) ss (after ss k)

-- whether nothing need follow
unfoldable pub can_end : List Symbol → Bool
can_end [] = true
can_end (Word k r ∷ ss) = false
can_end (Go p ∷ ss) = may_lack p && can_end ss

-- what a step tells: the role of the token, and what has to follow
abbrev pub Moves : Option Line → Option Role → List Symbol → Type 0
Moves None r ss = r ≡ None
Moves (Some l) r ss = (r ≡ Some l.role) × (ss ≡ l.rest)
