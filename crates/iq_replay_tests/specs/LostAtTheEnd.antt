-- Transactions that are lost or halted behind their statement's effect.
use Rattle.std.specs.Prelude.{true, List, [], ◌∷◌, Option, Some, codes}
use Rattle.iq_base.specs.declared.nodes.NodeKind.TheVariants as node_kinds
use Rattle.iq_base.specs.declared.refusals.Refusal.TheVariants as refusals
use Rattle.iq_ast.specs.declared.statements.Statement.TheVariants as statements
use Rattle.iq_history.specs.declared.entries.Entry.{Entry}
use Rattle.iq_history.specs.declared.entries.Entry.TheVariants as entries
use Rattle.iq_model.specs.declared.replies.Reply.{Reply}
use Rattle.iq_model.specs.declared.replies.Said.TheVariants as said
use Rattle.iq_model.specs.declared.scripts.Script.{Script}
use Rattle.iq_model.specs.declared.scripts.Step.TheVariants as steps
use Rattle.iq_replay.specs.State.{State}
use Rattle.iq_replay.specs.Start.{start}
use Rattle.iq_replay_tests.specs.Words.{node, session, line, step, create, insert, select, reply, rows}

abbrev pub script : Script
script =
    record {
      nodes = node (codes "c") node_kinds.Coordinator ∷ node (codes "w1") node_kinds.Writer ∷ node (codes "w2") node_kinds.Writer ∷ [];
      sessions = session (codes "a") 0 4 ∷ session (codes "b") 1 2 ∷ session (codes "e") 2 4 ∷ [];
      lines =
          line 0 7 (create (codes "t") (codes "x"))
          ∷ line 0 8 (create (codes "u") (codes "x"))
          ∷ line 2 9 statements.Sync
          ∷ line 1 10 statements.Sync
          ∷ line 2 11 (insert (codes "t") (5 ∷ []))
          ∷ step 12 (steps.Restart (codes "w2"))
          ∷ line 2 13 statements.Commit
          ∷ line 2 14 statements.Commit
          ∷ line 1 15 (insert (codes "t") (1 ∷ []))
          ∷ line 0 16 (insert (codes "u") (2 ∷ []))
          ∷ line 0 17 (select (codes "x") (codes "u"))
          ∷ [];
    }

-- the store has 64 blocks, and no tables yet
abbrev pub before : State
before = start 64 true script []

abbrev pub history : List Entry
history =
    entries.Begin 0 7 0
    ∷ entries.Lock 0 7 (codes "catalog" ∷ [])
    ∷ entries.Done 0 7
    ∷ entries.Commit 0 7 1
    ∷ entries.Begin 0 8 1
    ∷ entries.Lock 0 8 (codes "catalog" ∷ [])
    ∷ entries.Done 0 8
    ∷ entries.Commit 0 8 2
    ∷ entries.Sync 2 9 2
    ∷ entries.Sync 1 10 2
    ∷ entries.Begin 2 11 2
    ∷ entries.Lock 2 11 (codes "t" ∷ [])
    ∷ entries.Done 2 11
    ∷ entries.Restart 2 12 2
    ∷ entries.Refused (Some 2) 11 (refusals.Lost 2)
    ∷ entries.Refused (Some 2) 13 refusals.NoTransaction
    ∷ entries.Refused (Some 2) 14 refusals.NoMemory
    ∷ entries.Begin 1 15 2
    ∷ entries.Lock 1 15 (codes "t" ∷ [])
    ∷ entries.Done 1 15
    ∷ entries.Begin 0 16 2
    ∷ entries.Lock 0 16 (codes "u" ∷ [])
    ∷ entries.Done 0 16
    ∷ entries.Halt 1 15 3 5 7
    ∷ entries.Refused (Some 0) 16 (refusals.Halted 3)
    ∷ entries.Begin 0 17 2
    ∷ entries.Done 0 17
    ∷ entries.End 0 17
    ∷ []

abbrev pub answered : List (Option Reply)
answered =
    reply 7 (said.Created (Some 1))
    ∷ reply 8 (said.Created (Some 2))
    ∷ reply 9 (said.Synced 2)
    ∷ reply 10 (said.Synced 2)
    ∷ reply 11 (said.Refused (refusals.Lost 2))
    ∷ reply 12 (said.Restarted 2)
    ∷ reply 13 (said.Refused (refusals.NoTransaction))
    ∷ reply 14 (said.Refused (refusals.NoMemory))
    ∷ reply 15 (said.Refused (refusals.StoreFault 5 7))
    ∷ reply 16 (said.Refused (refusals.Halted 3))
    ∷ reply 17 (rows ([]))
    ∷ []
