-- Savepoints within a transaction.
use Rattle.std.specs.Prelude.{true, List, [], ◌∷◌, Option, Some, None, codes}
use Rattle.iq_base.specs.declared.nodes.NodeKind.TheVariants as node_kinds
use Rattle.iq_base.specs.declared.refusals.Refusal.TheVariants as refusals
use Rattle.iq_ast.specs.declared.statements.Statement.TheVariants as statements
use Rattle.iq_history.specs.declared.entries.Entry.{Entry}
use Rattle.iq_history.specs.declared.entries.Entry.TheVariants as entries
use Rattle.iq_model.specs.declared.replies.Reply.{Reply}
use Rattle.iq_model.specs.declared.replies.Said.TheVariants as said
use Rattle.iq_model.specs.declared.scripts.Script.{Script}
use Rattle.iq_replay.specs.State.{State}
use Rattle.iq_replay.specs.Start.{start}
use Rattle.iq_replay_tests.specs.Words.{node, session, line, create, insert, select, reply, rows}

abbrev pub script : Script
script =
    record {
      nodes = node (codes "c") node_kinds.Coordinator ∷ [];
      sessions = session (codes "s") 0 34 ∷ [];
      lines =
          line 0 1 (create (codes "t") (codes "x"))
          ∷ line 0 2 statements.Begin
          ∷ line 0 3 (insert (codes "t") (1 ∷ []))
          ∷ line 0 4 (statements.Savepoint (codes "p"))
          ∷ line 0 5 (insert (codes "t") (2 ∷ []))
          ∷ line 0 6 (statements.BackTo (codes "p"))
          ∷ line 0 7 (insert (codes "t") (3 ∷ []))
          ∷ line 0 8 (statements.BackTo (codes "p"))
          ∷ line 0 9 (insert (codes "t") (4 ∷ []))
          ∷ line 0 10 (statements.Release (codes "p"))
          ∷ line 0 11 (statements.BackTo (codes "p"))
          ∷ line 0 12 (select (codes "x") (codes "t"))
          ∷ line 0 13 (create (codes "u") (codes "y"))
          ∷ line 0 14 statements.Begin
          ∷ line 0 15 statements.Commit
          ∷ line 0 16 statements.Commit
          ∷ line 0 17 statements.Begin
          ∷ line 0 18 (statements.Savepoint (codes "p0"))
          ∷ line 0 19 (statements.Savepoint (codes "p1"))
          ∷ line 0 20 (statements.Savepoint (codes "p2"))
          ∷ line 0 21 (statements.Savepoint (codes "p3"))
          ∷ line 0 22 (statements.Savepoint (codes "p4"))
          ∷ line 0 23 (statements.Savepoint (codes "p5"))
          ∷ line 0 24 (statements.Savepoint (codes "p6"))
          ∷ line 0 25 (statements.Savepoint (codes "p7"))
          ∷ line 0 26 (statements.Savepoint (codes "p8"))
          ∷ line 0 27 (statements.Savepoint (codes "p9"))
          ∷ line 0 28 (statements.Savepoint (codes "p10"))
          ∷ line 0 29 (statements.Savepoint (codes "p11"))
          ∷ line 0 30 (statements.Savepoint (codes "p12"))
          ∷ line 0 31 (statements.Savepoint (codes "p13"))
          ∷ line 0 32 (statements.Savepoint (codes "p14"))
          ∷ line 0 33 (statements.Savepoint (codes "p15"))
          ∷ line 0 34 (statements.Savepoint (codes "p16"))
          ∷ [];
    }

-- the store has 64 blocks, and no tables yet
abbrev pub before : State
before = start 64 true script []

abbrev pub history : List Entry
history =
    entries.Begin 0 1 0
    ∷ entries.Lock 0 1 (codes "catalog" ∷ [])
    ∷ entries.Done 0 1
    ∷ entries.Commit 0 1 1
    ∷ entries.Begin 0 2 1
    ∷ entries.Lock 0 3 (codes "t" ∷ [])
    ∷ entries.Done 0 3
    ∷ entries.Savepoint 0 4 (codes "p")
    ∷ entries.Done 0 5
    ∷ entries.Back 0 6 (codes "p")
    ∷ entries.Done 0 7
    ∷ entries.Back 0 8 (codes "p")
    ∷ entries.Done 0 9
    ∷ entries.Release 0 10 (codes "p")
    ∷ entries.Refused (Some 0) 11 (refusals.NoSavepoint (codes "p"))
    ∷ entries.Done 0 12
    ∷ entries.Refused (Some 0) 13 refusals.DdlInTransaction
    ∷ entries.Refused (Some 0) 14 refusals.InTransaction
    ∷ entries.Commit 0 15 2
    ∷ entries.Refused (Some 0) 16 refusals.NoTransaction
    ∷ entries.Begin 0 17 2
    ∷ entries.Savepoint 0 18 (codes "p0")
    ∷ entries.Savepoint 0 19 (codes "p1")
    ∷ entries.Savepoint 0 20 (codes "p2")
    ∷ entries.Savepoint 0 21 (codes "p3")
    ∷ entries.Savepoint 0 22 (codes "p4")
    ∷ entries.Savepoint 0 23 (codes "p5")
    ∷ entries.Savepoint 0 24 (codes "p6")
    ∷ entries.Savepoint 0 25 (codes "p7")
    ∷ entries.Savepoint 0 26 (codes "p8")
    ∷ entries.Savepoint 0 27 (codes "p9")
    ∷ entries.Savepoint 0 28 (codes "p10")
    ∷ entries.Savepoint 0 29 (codes "p11")
    ∷ entries.Savepoint 0 30 (codes "p12")
    ∷ entries.Savepoint 0 31 (codes "p13")
    ∷ entries.Savepoint 0 32 (codes "p14")
    ∷ entries.Savepoint 0 33 (codes "p15")
    ∷ entries.Refused (Some 0) 34 refusals.TooManySavepoints
    ∷ entries.Rollback 0 0
    ∷ []

abbrev pub answered : List (Option Reply)
answered =
    reply 1 (said.Created (Some 1))
    ∷ reply 2 (said.Begun 1)
    ∷ reply 3 (said.Inserted 1 None)
    ∷ reply 4 (said.Saved (codes "p"))
    ∷ reply 5 (said.Inserted 1 None)
    ∷ reply 6 (said.BackTo (codes "p"))
    ∷ reply 7 (said.Inserted 1 None)
    ∷ reply 8 (said.BackTo (codes "p"))
    ∷ reply 9 (said.Inserted 1 None)
    ∷ reply 10 (said.Released (codes "p"))
    ∷ reply 11 (said.Refused (refusals.NoSavepoint (codes "p")))
    ∷ reply 12 (rows (1 ∷ 4 ∷ []))
    ∷ reply 13 (said.Refused (refusals.DdlInTransaction))
    ∷ reply 14 (said.Refused (refusals.InTransaction))
    ∷ reply 15 (said.Committed 2)
    ∷ reply 16 (said.Refused (refusals.NoTransaction))
    ∷ reply 17 (said.Begun 2)
    ∷ reply 18 (said.Saved (codes "p0"))
    ∷ reply 19 (said.Saved (codes "p1"))
    ∷ reply 20 (said.Saved (codes "p2"))
    ∷ reply 21 (said.Saved (codes "p3"))
    ∷ reply 22 (said.Saved (codes "p4"))
    ∷ reply 23 (said.Saved (codes "p5"))
    ∷ reply 24 (said.Saved (codes "p6"))
    ∷ reply 25 (said.Saved (codes "p7"))
    ∷ reply 26 (said.Saved (codes "p8"))
    ∷ reply 27 (said.Saved (codes "p9"))
    ∷ reply 28 (said.Saved (codes "p10"))
    ∷ reply 29 (said.Saved (codes "p11"))
    ∷ reply 30 (said.Saved (codes "p12"))
    ∷ reply 31 (said.Saved (codes "p13"))
    ∷ reply 32 (said.Saved (codes "p14"))
    ∷ reply 33 (said.Saved (codes "p15"))
    ∷ reply 34 (said.Refused (refusals.TooManySavepoints))
    ∷ []
