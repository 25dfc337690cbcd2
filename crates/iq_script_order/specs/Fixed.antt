-- What a run in script order leaves open: numbers of blocks, and lines that want of space or memory, a fault or a halt refuses.
use Rattle.std.specs.Prelude.{◌≡◌, ◌<◌, ℕ, ⊤, Bool, false, ◌||◌, List, [], ◌∷◌, Option, map}
use Rattle.std.specs.List.{AllByRecursion}
use Rattle.std.specs.Option.{option_map}
use Rattle.iq_base.specs.Shorts.{Name}
use Rattle.iq_base.specs.declared.nodes.NodeSpec.{NodeSpec}
use Rattle.iq_base.specs.declared.refusals.Census.{Census}
use Rattle.iq_base.specs.declared.refusals.Refusal.{Refusal}
use Rattle.iq_base.specs.declared.refusals.Refusal.TheVariants as refusals
use Rattle.iq_history.specs.declared.entries.Entry.{Entry}
use Rattle.iq_history.specs.declared.entries.Entry.TheVariants as entries
use Rattle.iq_model.specs.declared.answers.Sent.{Sent}
use Rattle.iq_model.specs.declared.answers.Sent.TheVariants as sent
use Rattle.iq_model.specs.declared.replies.Reply.{Reply}
use Rattle.iq_model.specs.declared.replies.Said.{Said}
use Rattle.iq_model.specs.declared.replies.Said.TheVariants as said
use Rattle.iq_model.specs.declared.scripts.Line.{Line}
use Rattle.iq_model.specs.declared.scripts.Script.{Script}
use Rattle.iq_conditions.specs.Servers.{same_name}
use Rattle.iq_replay.specs.State.{State}
use Rattle.iq_replay.specs.Histories.{IsWhole, IsInOrder}

-- DISTURBANCES

-- a refusal that neither want of space or memory, nor a fault, a bad page or a halt gives
abbrev pub IsCertain : Refusal → Type 0
IsCertain (refusals.Lost incarnation) = ⊤
IsCertain (refusals.Excluded node) = ⊤
IsCertain refusals.InTransaction = ⊤
IsCertain refusals.NoTransaction = ⊤
IsCertain (refusals.NoSavepoint name) = ⊤
IsCertain refusals.TooManySavepoints = ⊤
IsCertain refusals.DdlInTransaction = ⊤
IsCertain (refusals.ReadOnly node) = ⊤
IsCertain (refusals.NoTable name) = ⊤
IsCertain (refusals.TableExists name) = ⊤
IsCertain (refusals.NoColumn name) = ⊤
IsCertain (refusals.NoIndex name) = ⊤
IsCertain (refusals.IndexExists name) = ⊤
IsCertain refusals.CatalogFull = ⊤
IsCertain (refusals.TypeMismatch column) = ⊤
IsCertain (refusals.NotGrouped column) = ⊤
IsCertain (refusals.NullRefused column) = ⊤
IsCertain (refusals.TextTooLong column) = ⊤
IsCertain (refusals.BadRow row field cause) = ⊤
IsCertain (refusals.Halted c) = ⊥
IsCertain (refusals.Locked table holder) = ⊤
IsCertain (refusals.Later table c) = ⊤
IsCertain (refusals.TableFull limit) = ⊤
IsCertain (refusals.IndexUnfit column) = ⊤
IsCertain (refusals.TooManyDistinct index distinct) = ⊤
IsCertain (refusals.NoSpace census) = ⊥
IsCertain (refusals.StoreFault before after) = ⊥
IsCertain (refusals.BadPage object page) = ⊥
IsCertain (refusals.NoNode name) = ⊤
IsCertain (refusals.IsCoordinator name) = ⊤
IsCertain (refusals.NotExcluded node) = ⊤
IsCertain (refusals.NoReport number) = ⊤
IsCertain (refusals.AtEnd c) = ⊤
IsCertain refusals.NoMemory = ⊥

-- an entry that none of these has made
abbrev pub IsUndisturbed : Entry → Type 0
IsUndisturbed (entries.Begin place l c) = ⊤
IsUndisturbed (entries.Lock place l names) = ⊤
IsUndisturbed (entries.Done place l) = ⊤
IsUndisturbed (entries.Refused place l cause) = IsCertain cause
IsUndisturbed (entries.Commit place l c) = ⊤
IsUndisturbed (entries.End place l) = ⊤
IsUndisturbed (entries.Rollback place l) = ⊤
IsUndisturbed (entries.Halt place l c before after) = ⊥
IsUndisturbed (entries.Savepoint place l name) = ⊤
IsUndisturbed (entries.Back place l name) = ⊤
IsUndisturbed (entries.Release place l name) = ⊤
IsUndisturbed (entries.Sync place l c) = ⊤
IsUndisturbed (entries.Apply n l c) = ⊤
IsUndisturbed (entries.Send n l number floor) = ⊤
IsUndisturbed (entries.Lose l number) = ⊤
IsUndisturbed (entries.Take l number horizon freed) = ⊤
IsUndisturbed (entries.Own n l horizon freed) = ⊤
IsUndisturbed (entries.Restart n l incarnation) = ⊤
IsUndisturbed (entries.Exclude n l incarnation) = ⊤
IsUndisturbed (entries.Include n l c) = ⊤
IsUndisturbed (entries.Space l census) = ⊤
IsUndisturbed (entries.Versions l) = ⊤

-- NUMBERS OF BLOCKS

abbrev pub no_census : Census
no_census = record { free = 0; reserved = 0; private = 0; reached = 0; waiting = 0 }

abbrev pub sent_uncounted : Sent → Sent
sent_uncounted (sent.Bagged number floor) = sent.Bagged number floor
sent_uncounted (sent.Own horizon freed) = sent.Own horizon 0

-- what is said of a line, but for numbers of blocks
abbrev pub uncounted : Said → Said
uncounted (said.Created commit) = said.Created commit
uncounted (said.Dropped commit) = said.Dropped commit
uncounted (said.Inserted rows commit) = said.Inserted rows commit
uncounted (said.Deleted rows commit) = said.Deleted rows commit
uncounted (said.Updated rows commit) = said.Updated rows commit
uncounted (said.Answer told) = said.Answer told
uncounted (said.Begun commit) = said.Begun commit
uncounted (said.Committed commit) = said.Committed commit
uncounted said.Ended = said.Ended
uncounted said.RolledBack = said.RolledBack
uncounted (said.Saved name) = said.Saved name
uncounted (said.BackTo name) = said.BackTo name
uncounted (said.Released name) = said.Released name
uncounted (said.Synced commit) = said.Synced commit
uncounted (said.Applied commit) = said.Applied commit
uncounted (said.Sent report) = said.Sent (sent_uncounted report)
uncounted (said.Lost number) = said.Lost number
uncounted (said.Taken freed) = said.Taken (record freed { freed = 0 })
uncounted (said.Restarted incarnation) = said.Restarted incarnation
uncounted (said.Excluded incarnation) = said.Excluded incarnation
uncounted (said.Included commit) = said.Included commit
uncounted (said.Space census) = said.Space no_census
uncounted (said.Versions versions) = said.Versions versions
uncounted (said.Refused cause) = said.Refused cause

abbrev pub reply_uncounted : Reply → Reply
reply_uncounted reply = record reply { said = uncounted reply.said }

abbrev pub replies_uncounted : List (Option Reply) → List (Option Reply)
replies_uncounted replies = map (option_map reply_uncounted) replies

-- THE LAW'S PREMISES AND CONCLUSION

-- the numbers of the lines ascend, each above low
abbrev pub Ascend : ℕ → List Line → Type 0
Ascend low [] = ⊤
Ascend low (line ∷ lines) = (low < line.number) × Ascend line.number lines

-- whether a name is one of these
abbrev pub is_among : Name → List Name → Bool
is_among name [] = false
is_among name (n ∷ ns) = same_name name n || is_among name ns

abbrev pub AreDistinct : List Name → Type 0
AreDistinct [] = ⊤
AreDistinct (n ∷ ns) = (is_among n ns ≡ false) × AreDistinct ns

-- a script whose lines are numbered upwards, and whose nodes have different names
pub record IsNumberedScript (script : Script) : Type 0 where
  pub numbers : Ascend 0 script.lines
  pub names : AreDistinct (map (λ (node : NodeSpec). node.name) script.nodes)

-- a whole history whose lines never fall, and that nothing disturbed
pub record IsUndisturbedRun (s : State) (es : List Entry) : Type 0 where
  pub whole : IsWhole s es
  pub ordered : IsInOrder 1 es
  pub undisturbed : AllByRecursion IsUndisturbed es

-- the same commits with the same tables
pub record HasSameTables (s t : State) : Type 0 where
  pub latest : t.latest ≡ s.latest
  pub newest : t.newest ≡ s.newest
  pub older : t.older ≡ s.older
