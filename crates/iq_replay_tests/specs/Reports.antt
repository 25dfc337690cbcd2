-- Versions beneath a reader, and reports that are late and repeated.
use Rattle.std.specs.Prelude.{true, false, List, [], ◌∷◌, Option, Some, None, codes}
use Rattle.iq_base.specs.declared.nodes.NodeKind.TheVariants as node_kinds
use Rattle.iq_base.specs.declared.refusals.Refusal.TheVariants as refusals
use Rattle.iq_ast.specs.declared.statements.Statement.TheVariants as statements
use Rattle.iq_history.specs.declared.entries.Entry.{Entry}
use Rattle.iq_history.specs.declared.entries.Entry.TheVariants as entries
use Rattle.iq_model.specs.declared.answers.Sent.TheVariants as sent
use Rattle.iq_model.specs.declared.replies.Reply.{Reply}
use Rattle.iq_model.specs.declared.replies.Said.TheVariants as said
use Rattle.iq_model.specs.declared.scripts.Script.{Script}
use Rattle.iq_model.specs.declared.scripts.Step.TheVariants as steps
use Rattle.iq_replay.specs.State.{State}
use Rattle.iq_replay.specs.Start.{start}
use Rattle.iq_replay_tests.specs.Words.{node, session, line, step, create, insert, delete_all, delete_equal, select, reply, rows, census, version, versions}

abbrev pub script : Script
script =
    record {
      nodes = node (codes "c") node_kinds.Coordinator ∷ node (codes "r1") node_kinds.Reader ∷ [];
      sessions = session (codes "a") 0 4 ∷ session (codes "b") 1 5 ∷ [];
      lines =
          line 0 5 (create (codes "t") (codes "x"))
          ∷ line 0 6 (insert (codes "t") (1 ∷ 2 ∷ []))
          ∷ line 1 7 statements.Sync
          ∷ line 1 8 statements.Begin
          ∷ line 0 9 (delete_equal (codes "t") (codes "x") 1)
          ∷ line 0 10 (delete_all (codes "t"))
          ∷ line 1 11 (select (codes "x") (codes "t"))
          ∷ step 12 (steps.Report (codes "r1"))
          ∷ step 13 (steps.Take 1)
          ∷ line 1 14 statements.Commit
          ∷ step 15 (steps.Apply (codes "r1"))
          ∷ step 16 (steps.Apply (codes "r1"))
          ∷ step 17 (steps.Report (codes "r1"))
          ∷ step 18 (steps.Take 1)
          ∷ step 19 (steps.Take 2)
          ∷ step 20 (steps.Take 1)
          ∷ step 21 steps.Space
          ∷ step 22 (steps.Apply (codes "r1"))
          ∷ line 1 23 (delete_all (codes "t"))
          ∷ step 24 steps.Versions
          ∷ [];
    }

-- the store has 64 blocks, and no tables yet
abbrev pub before : State
before = start 64 true script []

abbrev pub history : List Entry
history =
    entries.Begin 0 5 0
    ∷ entries.Lock 0 5 (codes "catalog" ∷ [])
    ∷ entries.Done 0 5
    ∷ entries.Commit 0 5 1
    ∷ entries.Begin 0 6 1
    ∷ entries.Lock 0 6 (codes "t" ∷ [])
    ∷ entries.Done 0 6
    ∷ entries.Commit 0 6 2
    ∷ entries.Sync 1 7 2
    ∷ entries.Begin 1 8 2
    ∷ entries.Begin 0 9 2
    ∷ entries.Lock 0 9 (codes "t" ∷ [])
    ∷ entries.Done 0 9
    ∷ entries.Commit 0 9 3
    ∷ entries.Begin 0 10 3
    ∷ entries.Lock 0 10 (codes "t" ∷ [])
    ∷ entries.Done 0 10
    ∷ entries.Commit 0 10 4
    ∷ entries.Done 1 11
    ∷ entries.Send 1 12 1 2
    ∷ entries.Take 13 1 2 1
    ∷ entries.End 1 14
    ∷ entries.Apply 1 15 3
    ∷ entries.Apply 1 16 4
    ∷ entries.Send 1 17 2 4
    ∷ entries.Take 18 1 2 0
    ∷ entries.Take 19 2 4 6
    ∷ entries.Take 20 1 4 0
    ∷ entries.Space 21 (census 53 0 0 7 0)
    ∷ entries.Refused None 22 (refusals.AtEnd 4)
    ∷ entries.Refused (Some 1) 23 (refusals.ReadOnly (codes "r1"))
    ∷ entries.Versions 24
    ∷ []

abbrev pub answered : List (Option Reply)
answered =
    reply 5 (said.Created (Some 1))
    ∷ reply 6 (said.Inserted 2 (Some 2))
    ∷ reply 7 (said.Synced 2)
    ∷ reply 8 (said.Begun 2)
    ∷ reply 9 (said.Deleted 1 (Some 3))
    ∷ reply 10 (said.Deleted 1 (Some 4))
    ∷ reply 11 (rows (1 ∷ 2 ∷ []))
    ∷ reply 12 (said.Sent (sent.Bagged 1 2))
    ∷ reply 13 (said.Taken (record { horizon = 2; freed = 1 }))
    ∷ reply 14 said.Ended
    ∷ reply 15 (said.Applied 3)
    ∷ reply 16 (said.Applied 4)
    ∷ reply 17 (said.Sent (sent.Bagged 2 4))
    ∷ reply 18 (said.Taken (record { horizon = 2; freed = 0 }))
    ∷ reply 19 (said.Taken (record { horizon = 4; freed = 6 }))
    ∷ reply 20 (said.Taken (record { horizon = 4; freed = 0 }))
    ∷ reply 21 (said.Space (census 53 0 0 7 0))
    ∷ reply 22 (said.Refused (refusals.AtEnd 4))
    ∷ reply 23 (said.Refused (refusals.ReadOnly (codes "r1")))
    ∷ reply 24 (versions 4 4 (version 0 4 4 4 1 false ∷ version 1 4 4 4 1 false ∷ []))
    ∷ []
