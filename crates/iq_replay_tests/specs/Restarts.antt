-- A writer that is restarted in the middle of its transaction.
use Rattle.std.specs.Prelude.{true, List, [], ◌∷◌, Option, Some, None, codes}
use Rattle.iq_base.specs.declared.nodes.NodeKind.TheVariants as node_kinds
use Rattle.iq_base.specs.declared.refusals.Refusal.TheVariants as refusals
use Rattle.iq_ast.specs.declared.statements.Statement.TheVariants as statements
use Rattle.iq_history.specs.declared.entries.Entry.{Entry}
use Rattle.iq_history.specs.declared.entries.Entry.TheVariants as entries
use Rattle.iq_model.specs.declared.replies.Reply.{Reply}
use Rattle.iq_model.specs.declared.replies.Said.TheVariants as said
use Rattle.iq_model.specs.declared.scripts.Script.{Script}
use Rattle.iq_model.specs.declared.scripts.Step.TheVariants as steps
use Rattle.iq_replay.specs.State.{State}
use Rattle.iq_replay.specs.Start.{start}
use Rattle.iq_replay_tests.specs.Words.{node, session, line, step, create, insert, reply, census}

abbrev pub script : Script
script =
    record {
      nodes = node (codes "c") node_kinds.Coordinator ∷ node (codes "w1") node_kinds.Writer ∷ [];
      sessions = session (codes "a") 0 1 ∷ session (codes "b") 1 6 ∷ [];
      lines =
          line 0 5 (create (codes "t") (codes "x"))
          ∷ line 1 6 statements.Sync
          ∷ line 1 7 statements.Begin
          ∷ line 1 8 (insert (codes "t") (7 ∷ []))
          ∷ step 9 steps.Space
          ∷ step 10 (steps.Restart (codes "w1"))
          ∷ step 11 steps.Space
          ∷ line 1 12 statements.Commit
          ∷ line 1 13 statements.Commit
          ∷ line 1 14 (insert (codes "t") (7 ∷ []))
          ∷ [];
    }

-- the store has 64 blocks, and no tables yet
abbrev pub before : State
before = start 64 true script []

abbrev pub history : List Entry
history =
    entries.Begin 0 5 0
    ∷ entries.Lock 0 5 (codes "catalog" ∷ [])
    ∷ entries.Done 0 5
    ∷ entries.Commit 0 5 1
    ∷ entries.Sync 1 6 1
    ∷ entries.Begin 1 7 1
    ∷ entries.Lock 1 8 (codes "t" ∷ [])
    ∷ entries.Done 1 8
    ∷ entries.Space 9 (census 27 25 7 1 0)
    ∷ entries.Restart 1 10 2
    ∷ entries.Space 11 (census 59 0 0 1 0)
    ∷ entries.Refused (Some 1) 12 (refusals.Lost 2)
    ∷ entries.Refused (Some 1) 13 refusals.NoTransaction
    ∷ entries.Begin 1 14 1
    ∷ entries.Lock 1 14 (codes "t" ∷ [])
    ∷ entries.Done 1 14
    ∷ entries.Commit 1 14 2
    ∷ []

abbrev pub answered : List (Option Reply)
answered =
    reply 5 (said.Created (Some 1))
    ∷ reply 6 (said.Synced 1)
    ∷ reply 7 (said.Begun 1)
    ∷ reply 8 (said.Inserted 1 None)
    ∷ reply 9 (said.Space (census 27 25 7 1 0))
    ∷ reply 10 (said.Restarted 2)
    ∷ reply 11 (said.Space (census 59 0 0 1 0))
    ∷ reply 12 (said.Refused (refusals.Lost 2))
    ∷ reply 13 (said.Refused (refusals.NoTransaction))
    ∷ reply 14 (said.Inserted 1 (Some 2))
    ∷ []
