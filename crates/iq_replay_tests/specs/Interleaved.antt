-- Sessions whose lines come between each other.
use Rattle.std.specs.Prelude.{true, List, [], ◌∷◌, Option, Some, None, codes}
use Rattle.iq_base.specs.declared.nodes.NodeKind.TheVariants as node_kinds
use Rattle.iq_base.specs.declared.refusals.Refusal.TheVariants as refusals
use Rattle.iq_ast.specs.declared.statements.Statement.TheVariants as statements
use Rattle.iq_history.specs.declared.entries.Entry.{Entry}
use Rattle.iq_history.specs.declared.entries.Entry.TheVariants as entries
use Rattle.iq_model.specs.declared.replies.Reply.{Reply}
use Rattle.iq_model.specs.declared.replies.Said.TheVariants as said
use Rattle.iq_model.specs.declared.scripts.Script.{Script}
use Rattle.iq_model.specs.declared.scripts.Step.TheVariants as steps
use Rattle.iq_replay.specs.State.{State}
use Rattle.iq_replay.specs.Start.{start}
use Rattle.iq_replay_tests.specs.Words.{node, session, line, step, create, insert, drop_table, select, reply, rows}

abbrev pub script : Script
script =
    record {
      nodes = node (codes "c") node_kinds.Coordinator ∷ node (codes "w1") node_kinds.Writer ∷ [];
      sessions = session (codes "a") 0 5 ∷ session (codes "b") 1 6 ∷ session (codes "e") 1 2 ∷ [];
      lines =
          line 0 6 (create (codes "t") (codes "x"))
          ∷ line 1 7 statements.Sync
          ∷ line 1 8 statements.Begin
          ∷ line 1 9 (insert (codes "t") (1 ∷ []))
          ∷ line 0 10 (insert (codes "t") (2 ∷ []))
          ∷ line 1 11 statements.Commit
          ∷ line 1 12 statements.Commit
          ∷ line 1 13 statements.Rollback
          ∷ line 2 14 (insert (codes "t") (5 ∷ []))
          ∷ step 15 (steps.Restart (codes "w1"))
          ∷ line 2 16 statements.Commit
          ∷ line 0 17 (select (codes "x") (codes "t"))
          ∷ line 0 18 (drop_table (codes "t"))
          ∷ line 0 19 (select (codes "x") (codes "t"))
          ∷ [];
    }

-- the store has 64 blocks, and no tables yet
abbrev pub before : State
before = start 64 true script []

abbrev pub history : List Entry
history =
    entries.Begin 0 6 0
    ∷ entries.Lock 0 6 (codes "catalog" ∷ [])
    ∷ entries.Done 0 6
    ∷ entries.Commit 0 6 1
    ∷ entries.Sync 1 7 1
    ∷ entries.Begin 2 14 1
    ∷ entries.Lock 2 14 (codes "t" ∷ [])
    ∷ entries.Restart 1 15 2
    ∷ entries.Refused (Some 2) 14 (refusals.Lost 2)
    ∷ entries.Begin 1 8 1
    ∷ entries.Lock 1 9 (codes "t" ∷ [])
    ∷ entries.Send 1 0 1 1
    ∷ entries.Done 1 9
    ∷ entries.Begin 0 10 1
    ∷ entries.Take 0 1 1 3
    ∷ entries.Refused (Some 0) 10 (refusals.Locked (codes "t") 1)
    ∷ entries.Begin 0 17 1
    ∷ entries.Refused (Some 2) 16 refusals.NoTransaction
    ∷ entries.Refused None 0 refusals.NoMemory
    ∷ entries.Halt 1 11 2 0 1
    ∷ entries.Refused (Some 1) 12 (refusals.Halted 2)
    ∷ entries.Done 0 17
    ∷ entries.Rollback 1 13
    ∷ entries.End 0 17
    ∷ entries.Begin 0 18 1
    ∷ entries.Refused (Some 0) 18 (refusals.StoreFault 1 3)
    ∷ entries.Begin 0 19 1
    ∷ entries.Done 0 19
    ∷ entries.End 0 19
    ∷ []

abbrev pub answered : List (Option Reply)
answered =
    reply 6 (said.Created (Some 1))
    ∷ reply 7 (said.Synced 1)
    ∷ reply 8 (said.Begun 1)
    ∷ reply 9 (said.Inserted 1 None)
    ∷ reply 10 (said.Refused (refusals.Locked (codes "t") 1))
    ∷ reply 11 (said.Refused (refusals.StoreFault 0 1))
    ∷ reply 12 (said.Refused (refusals.Halted 2))
    ∷ reply 13 said.RolledBack
    ∷ reply 14 (said.Refused (refusals.Lost 2))
    ∷ reply 15 (said.Restarted 2)
    ∷ reply 16 (said.Refused (refusals.NoTransaction))
    ∷ reply 17 (rows ([]))
    ∷ reply 18 (said.Refused (refusals.StoreFault 1 3))
    ∷ reply 19 (rows ([]))
    ∷ []
