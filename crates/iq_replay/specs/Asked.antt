-- What is asked of a line, a step and a transaction before an entry.
use Rattle.std.specs.Prelude.{◌≡◌, ◌⊎◌, ◌≤◌, ◌<◌, ℕ, ◌+◌, ◌-◌, ◌^◌, ⊤, Bool, true, false, zero, suc, List, [], ◌∷◌, None, IsSomeAnd}
use Rattle.std.specs.List.{slice_get}
use Rattle.iq_base.specs.Shorts.{Name}
use Rattle.iq_base.specs.declared.refusals.Census.{Census}
use Rattle.iq_ast.specs.declared.statements.Statement.{Statement}
use Rattle.iq_model.specs.declared.scripts.Line.{Line}
use Rattle.iq_model.specs.declared.scripts.Deed.{Deed}
use Rattle.iq_model.specs.declared.scripts.Deed.TheVariants as deeds
use Rattle.iq_model.specs.declared.scripts.Step.{Step}
use Rattle.iq_statements.specs.Checks.{Check, first_refusal}
use Rattle.iq_replay.specs.State.{State, Session, Stage, fresh, begun, locked, done, Standing, idle, lost, running, Run, Node}
use Rattle.iq_replay.specs.Nodes.{is_coordinator}
use Rattle.iq_replay.specs.Refusals.{wanted}

-- THE LINE OF AN ENTRY

-- a statement that is such; a step that is such
abbrev pub StatementIs : Deed → (Statement → Type 0) → Type 0
StatementIs (deeds.Statement statement) P = P statement
StatementIs (deeds.Step step) P = ⊥

abbrev pub StepIs : Deed → (Step → Type 0) → Type 0
StepIs (deeds.Statement statement) P = ⊥
StepIs (deeds.Step step) P = P step

-- the first line that is left has this number, and does such
abbrev pub FirstIs : List Line → ℕ → (Deed → Type 0) → Type 0
FirstIs [] l P = ⊥
FirstIs (line ∷ lines) l P = (line.number ≡ l) × P line.deed

-- The script's end hasn't begun to roll back, and this is the session's line, whose session and statement are such.
abbrev pub OfLine : State → ℕ → ℕ → (Session → Statement → Type 0) → Type 0
OfLine s place l P =
    (s.closing ≡ false)
    × IsSomeAnd (slice_get s.sessions place) (λ session. FirstIs session.left l (λ deed. StatementIs deed (P session)))

-- the same of the first step that is left
abbrev pub OfStep : State → ℕ → (Step → Type 0) → Type 0
OfStep s l P = (s.closing ≡ false) × FirstIs s.steps l (λ deed. StepIs deed P)

-- a step's line, or an agent's turn, which has number 0
abbrev pub OfTurn : State → ℕ → (Step → Type 0) → Type 0
OfTurn s zero P = s.closing ≡ false
OfTurn s (suc l) P = OfStep s (suc l) P

-- NODES

-- the node at this place is such, and the line is its step, or an agent's turn
abbrev pub OfNode : State → ℕ → ℕ → (Name → Step) → (Node → Type 0) → Type 0
OfNode s n l named P = IsSomeAnd (slice_get s.nodes n) (λ node. P node × OfTurn s l (λ step. step ≡ named node.name))

-- the same of a step alone
abbrev pub OfNodeStep : State → ℕ → ℕ → (Name → Step) → (Node → Type 0) → Type 0
OfNodeStep s n l named P = IsSomeAnd (slice_get s.nodes n) (λ node. P node × OfStep s l (λ step. step ≡ named node.name))

-- a secondary that isn't excluded
pub record IsSecondary (node : Node) : Type 0 where
  pub kind : is_coordinator node.kind ≡ false
  pub included : node.excluded ≡ false

-- TRANSACTIONS

-- a transaction runs, and is such
abbrev pub IsRunning : Standing → (Run → Type 0) → Type 0
IsRunning idle P = ⊥
IsRunning lost P = ⊥
IsRunning (running run) P = P run

-- the line's statement hasn't taken effect
abbrev pub IsOpen : Stage → Type 0
IsOpen fresh = ⊤
IsOpen begun = ⊤
IsOpen locked = ⊤
IsOpen done = ⊥

-- no lock and no effect yet
abbrev pub IsUnlocked : Stage → Type 0
IsUnlocked fresh = ⊤
IsUnlocked begun = ⊤
IsUnlocked locked = ⊥
IsUnlocked done = ⊥

-- all names that the statement locks are held
abbrev pub HoldsAll : Run → Statement → Type 0
HoldsAll run statement = wanted statement run ≡ []

-- no test finds a refusal
abbrev pub IsGranted : List Check → Type 0
IsGranted checks = first_refusal checks ≡ None

-- NUMBERS

-- how often a count of faults can be told
abbrev pub last_count : ℕ
last_count = 2 ^ 64 - 1

-- a count that rose since the last one told; at its last value it stands still
pub record Rises (told x y : ℕ) : Type 0 where
  pub later : told ≤ x
  pub rose : (x < y) ⊎ ((x ≡ last_count) × (y ≡ last_count))

-- the numbers of a census and the four root blocks are all blocks
abbrev pub Counts : ℕ → Census → Type 0
Counts blocks census = census.free + census.reserved + census.private + census.reached + census.waiting + 4 ≡ blocks

-- nothing, unless something else is so
abbrev pub IsZeroUnless : Bool → ℕ → Type 0
IsZeroUnless true n = ⊤
IsZeroUnless false n = n ≡ 0
