-- A reader that is excluded in the middle of its transaction, and included again.
use Rattle.std.specs.Prelude.{true, false, List, [], ◌∷◌, Option, Some, None, codes}
use Rattle.iq_base.specs.declared.nodes.NodeKind.TheVariants as node_kinds
use Rattle.iq_base.specs.declared.refusals.Refusal.TheVariants as refusals
use Rattle.iq_ast.specs.declared.statements.Statement.TheVariants as statements
use Rattle.iq_history.specs.declared.entries.Entry.{Entry}
use Rattle.iq_history.specs.declared.entries.Entry.TheVariants as entries
use Rattle.iq_model.specs.declared.answers.Sent.TheVariants as sent
use Rattle.iq_model.specs.declared.replies.Reply.{Reply}
use Rattle.iq_model.specs.declared.replies.Said.TheVariants as said
use Rattle.iq_model.specs.declared.scripts.Script.{Script}
use Rattle.iq_model.specs.declared.scripts.Step.TheVariants as steps
use Rattle.iq_replay.specs.State.{State}
use Rattle.iq_replay.specs.Start.{start}
use Rattle.iq_replay_tests.specs.Words.{node, session, line, step, create, insert, delete_all, delete_equal, select, count_all, reply, rows, census, version, versions}

abbrev pub script : Script
script =
    record {
      nodes = node (codes "c") node_kinds.Coordinator ∷ node (codes "r1") node_kinds.Reader ∷ [];
      sessions = session (codes "a") 0 4 ∷ session (codes "b") 1 6 ∷ [];
      lines =
          line 0 5 (create (codes "t") (codes "x"))
          ∷ line 0 6 (insert (codes "t") (1 ∷ 2 ∷ []))
          ∷ line 1 7 statements.Sync
          ∷ line 1 8 statements.Begin
          ∷ line 0 9 (delete_equal (codes "t") (codes "x") 1)
          ∷ line 0 10 (delete_all (codes "t"))
          ∷ line 1 11 (select (codes "x") (codes "t"))
          ∷ step 12 (steps.Exclude (codes "r1"))
          ∷ line 1 13 (select (codes "x") (codes "t"))
          ∷ line 1 14 (select (codes "x") (codes "t"))
          ∷ step 15 (steps.Report (codes "r1"))
          ∷ step 16 (steps.Report (codes "c"))
          ∷ step 17 steps.Space
          ∷ step 18 (steps.Include (codes "r1"))
          ∷ step 19 (steps.Include (codes "r1"))
          ∷ line 1 20 (count_all (codes "t"))
          ∷ step 21 (steps.Exclude (codes "c"))
          ∷ step 22 steps.Versions
          ∷ [];
    }

-- the store has 64 blocks, and no tables yet
abbrev pub before : State
before = start 64 true script []

abbrev pub history : List Entry
history =
    entries.Begin 0 5 0
    ∷ entries.Lock 0 5 (codes "catalog" ∷ [])
    ∷ entries.Done 0 5
    ∷ entries.Commit 0 5 1
    ∷ entries.Begin 0 6 1
    ∷ entries.Lock 0 6 (codes "t" ∷ [])
    ∷ entries.Done 0 6
    ∷ entries.Commit 0 6 2
    ∷ entries.Sync 1 7 2
    ∷ entries.Begin 1 8 2
    ∷ entries.Begin 0 9 2
    ∷ entries.Lock 0 9 (codes "t" ∷ [])
    ∷ entries.Done 0 9
    ∷ entries.Commit 0 9 3
    ∷ entries.Begin 0 10 3
    ∷ entries.Lock 0 10 (codes "t" ∷ [])
    ∷ entries.Done 0 10
    ∷ entries.Commit 0 10 4
    ∷ entries.Done 1 11
    ∷ entries.Exclude 1 12 2
    ∷ entries.Refused (Some 1) 13 (refusals.Lost 2)
    ∷ entries.Refused (Some 1) 14 (refusals.Excluded (codes "r1"))
    ∷ entries.Refused None 15 (refusals.Excluded (codes "r1"))
    ∷ entries.Own 0 16 4 7
    ∷ entries.Space 17 (census 53 0 0 7 0)
    ∷ entries.Include 1 18 4
    ∷ entries.Refused None 19 (refusals.NotExcluded (codes "r1"))
    ∷ entries.Begin 1 20 4
    ∷ entries.Done 1 20
    ∷ entries.End 1 20
    ∷ entries.Refused None 21 (refusals.IsCoordinator (codes "c"))
    ∷ entries.Versions 22
    ∷ []

abbrev pub answered : List (Option Reply)
answered =
    reply 5 (said.Created (Some 1))
    ∷ reply 6 (said.Inserted 2 (Some 2))
    ∷ reply 7 (said.Synced 2)
    ∷ reply 8 (said.Begun 2)
    ∷ reply 9 (said.Deleted 1 (Some 3))
    ∷ reply 10 (said.Deleted 1 (Some 4))
    ∷ reply 11 (rows (1 ∷ 2 ∷ []))
    ∷ reply 12 (said.Excluded 2)
    ∷ reply 13 (said.Refused (refusals.Lost 2))
    ∷ reply 14 (said.Refused (refusals.Excluded (codes "r1")))
    ∷ reply 15 (said.Refused (refusals.Excluded (codes "r1")))
    ∷ reply 16 (said.Sent (sent.Own 4 7))
    ∷ reply 17 (said.Space (census 53 0 0 7 0))
    ∷ reply 18 (said.Included 4)
    ∷ reply 19 (said.Refused (refusals.NotExcluded (codes "r1")))
    ∷ reply 20 (rows (0 ∷ []))
    ∷ reply 21 (said.Refused (refusals.IsCoordinator (codes "c")))
    ∷ reply 22 (versions 4 4 (version 0 4 4 4 1 false ∷ version 1 4 4 4 2 false ∷ []))
    ∷ []
