-- Two writers of one table: what a lock and a later commit refuse.
use Rattle.std.specs.Prelude.{true, List, [], ◌∷◌, Option, Some, None, codes}
use Rattle.iq_base.specs.declared.nodes.NodeKind.TheVariants as node_kinds
use Rattle.iq_base.specs.declared.refusals.Refusal.TheVariants as refusals
use Rattle.iq_ast.specs.declared.statements.Statement.TheVariants as statements
use Rattle.iq_history.specs.declared.entries.Entry.{Entry}
use Rattle.iq_history.specs.declared.entries.Entry.TheVariants as entries
use Rattle.iq_model.specs.declared.replies.Reply.{Reply}
use Rattle.iq_model.specs.declared.replies.Said.TheVariants as said
use Rattle.iq_model.specs.declared.scripts.Script.{Script}
use Rattle.iq_replay.specs.State.{State}
use Rattle.iq_replay.specs.Start.{start}
use Rattle.iq_replay_tests.specs.Words.{node, session, line, create, insert, select, reply, rows}

abbrev pub script : Script
script =
    record {
      nodes = node (codes "c") node_kinds.Coordinator ∷ node (codes "w1") node_kinds.Writer ∷ [];
      sessions = session (codes "a") 0 4 ∷ session (codes "b") 1 8 ∷ [];
      lines =
          line 0 5 (create (codes "t") (codes "x"))
          ∷ line 1 6 statements.Sync
          ∷ line 0 7 statements.Begin
          ∷ line 0 8 (insert (codes "t") (1 ∷ []))
          ∷ line 1 9 statements.Begin
          ∷ line 1 10 (insert (codes "t") (2 ∷ []))
          ∷ line 0 11 statements.Commit
          ∷ line 1 12 (insert (codes "t") (2 ∷ []))
          ∷ line 1 13 statements.Rollback
          ∷ line 1 14 statements.Sync
          ∷ line 1 15 (insert (codes "t") (2 ∷ []))
          ∷ line 1 16 (select (codes "x") (codes "t"))
          ∷ [];
    }

-- the store has 64 blocks, and no tables yet
abbrev pub before : State
before = start 64 true script []

abbrev pub history : List Entry
history =
    entries.Begin 0 5 0
    ∷ entries.Lock 0 5 (codes "catalog" ∷ [])
    ∷ entries.Done 0 5
    ∷ entries.Commit 0 5 1
    ∷ entries.Sync 1 6 1
    ∷ entries.Begin 0 7 1
    ∷ entries.Lock 0 8 (codes "t" ∷ [])
    ∷ entries.Done 0 8
    ∷ entries.Begin 1 9 1
    ∷ entries.Refused (Some 1) 10 (refusals.Locked (codes "t") 0)
    ∷ entries.Commit 0 11 2
    ∷ entries.Refused (Some 1) 12 (refusals.Later (codes "t") 2)
    ∷ entries.Rollback 1 13
    ∷ entries.Sync 1 14 2
    ∷ entries.Begin 1 15 2
    ∷ entries.Lock 1 15 (codes "t" ∷ [])
    ∷ entries.Done 1 15
    ∷ entries.Commit 1 15 3
    ∷ entries.Begin 1 16 3
    ∷ entries.Done 1 16
    ∷ entries.End 1 16
    ∷ []

abbrev pub answered : List (Option Reply)
answered =
    reply 5 (said.Created (Some 1))
    ∷ reply 6 (said.Synced 1)
    ∷ reply 7 (said.Begun 1)
    ∷ reply 8 (said.Inserted 1 None)
    ∷ reply 9 (said.Begun 1)
    ∷ reply 10 (said.Refused (refusals.Locked (codes "t") 0))
    ∷ reply 11 (said.Committed 2)
    ∷ reply 12 (said.Refused (refusals.Later (codes "t") 2))
    ∷ reply 13 said.RolledBack
    ∷ reply 14 (said.Synced 2)
    ∷ reply 15 (said.Inserted 1 (Some 3))
    ∷ reply 16 (rows (1 ∷ 2 ∷ []))
    ∷ []
