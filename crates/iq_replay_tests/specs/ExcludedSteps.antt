-- Steps of a node that is excluded, and of one that isn't.
use Rattle.std.specs.Prelude.{true, false, List, [], ◌∷◌, Option, Some, None, codes}
use Rattle.iq_base.specs.declared.nodes.NodeKind.TheVariants as node_kinds
use Rattle.iq_base.specs.declared.refusals.Refusal.TheVariants as refusals
use Rattle.iq_ast.specs.declared.statements.Statement.TheVariants as statements
use Rattle.iq_history.specs.declared.entries.Entry.{Entry}
use Rattle.iq_history.specs.declared.entries.Entry.TheVariants as entries
use Rattle.iq_model.specs.declared.replies.Reply.{Reply}
use Rattle.iq_model.specs.declared.replies.Said.TheVariants as said
use Rattle.iq_model.specs.declared.scripts.Script.{Script}
use Rattle.iq_model.specs.declared.scripts.Step.TheVariants as steps
use Rattle.iq_replay.specs.State.{State}
use Rattle.iq_replay.specs.Start.{start}
use Rattle.iq_replay_tests.specs.Words.{node, session, line, step, create, insert, delete_all, delete_equal, select, reply, rows, version, versions}

abbrev pub script : Script
script =
    record {
      nodes = node (codes "c") node_kinds.Coordinator ∷ node (codes "r1") node_kinds.Reader ∷ [];
      sessions = session (codes "a") 0 4 ∷ session (codes "b") 1 6 ∷ [];
      lines =
          line 0 5 (create (codes "t") (codes "x"))
          ∷ line 0 6 (insert (codes "t") (1 ∷ 2 ∷ []))
          ∷ line 1 7 statements.Sync
          ∷ line 1 8 statements.Begin
          ∷ line 0 9 (delete_equal (codes "t") (codes "x") 1)
          ∷ line 0 10 (delete_all (codes "t"))
          ∷ line 1 11 (select (codes "x") (codes "t"))
          ∷ step 12 (steps.Exclude (codes "r1"))
          ∷ step 13 (steps.Exclude (codes "r1"))
          ∷ step 14 (steps.Apply (codes "r1"))
          ∷ step 15 (steps.Restart (codes "r1"))
          ∷ line 1 16 statements.Commit
          ∷ line 1 17 statements.Commit
          ∷ line 1 18 statements.Sync
          ∷ step 19 steps.Versions
          ∷ step 20 (steps.Include (codes "zz"))
          ∷ [];
    }

-- the store has 64 blocks, and no tables yet
abbrev pub before : State
before = start 64 true script []

abbrev pub history : List Entry
history =
    entries.Begin 0 5 0
    ∷ entries.Lock 0 5 (codes "catalog" ∷ [])
    ∷ entries.Done 0 5
    ∷ entries.Commit 0 5 1
    ∷ entries.Begin 0 6 1
    ∷ entries.Lock 0 6 (codes "t" ∷ [])
    ∷ entries.Done 0 6
    ∷ entries.Commit 0 6 2
    ∷ entries.Sync 1 7 2
    ∷ entries.Begin 1 8 2
    ∷ entries.Begin 0 9 2
    ∷ entries.Lock 0 9 (codes "t" ∷ [])
    ∷ entries.Done 0 9
    ∷ entries.Commit 0 9 3
    ∷ entries.Begin 0 10 3
    ∷ entries.Lock 0 10 (codes "t" ∷ [])
    ∷ entries.Done 0 10
    ∷ entries.Commit 0 10 4
    ∷ entries.Done 1 11
    ∷ entries.Exclude 1 12 2
    ∷ entries.Refused None 13 (refusals.Excluded (codes "r1"))
    ∷ entries.Refused None 14 (refusals.Excluded (codes "r1"))
    ∷ entries.Refused None 15 (refusals.Excluded (codes "r1"))
    ∷ entries.Refused (Some 1) 16 (refusals.Lost 2)
    ∷ entries.Refused (Some 1) 17 (refusals.Excluded (codes "r1"))
    ∷ entries.Refused (Some 1) 18 (refusals.Excluded (codes "r1"))
    ∷ entries.Versions 19
    ∷ entries.Refused None 20 (refusals.NoNode (codes "zz"))
    ∷ []

abbrev pub answered : List (Option Reply)
answered =
    reply 5 (said.Created (Some 1))
    ∷ reply 6 (said.Inserted 2 (Some 2))
    ∷ reply 7 (said.Synced 2)
    ∷ reply 8 (said.Begun 2)
    ∷ reply 9 (said.Deleted 1 (Some 3))
    ∷ reply 10 (said.Deleted 1 (Some 4))
    ∷ reply 11 (rows (1 ∷ 2 ∷ []))
    ∷ reply 12 (said.Excluded 2)
    ∷ reply 13 (said.Refused (refusals.Excluded (codes "r1")))
    ∷ reply 14 (said.Refused (refusals.Excluded (codes "r1")))
    ∷ reply 15 (said.Refused (refusals.Excluded (codes "r1")))
    ∷ reply 16 (said.Refused (refusals.Lost 2))
    ∷ reply 17 (said.Refused (refusals.Excluded (codes "r1")))
    ∷ reply 18 (said.Refused (refusals.Excluded (codes "r1")))
    ∷ reply 19 (versions 4 0 (version 0 4 4 4 1 false ∷ version 1 2 2 0 2 true ∷ []))
    ∷ reply 20 (said.Refused (refusals.NoNode (codes "zz")))
    ∷ []
