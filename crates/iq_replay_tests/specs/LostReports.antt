-- A report that is lost, and steps that are refused.
use Rattle.std.specs.Prelude.{true, List, [], ◌∷◌, Option, Some, None, codes}
use Rattle.iq_base.specs.declared.nodes.NodeKind.TheVariants as node_kinds
use Rattle.iq_base.specs.declared.refusals.Refusal.TheVariants as refusals
use Rattle.iq_ast.specs.declared.statements.Statement.TheVariants as statements
use Rattle.iq_history.specs.declared.entries.Entry.{Entry}
use Rattle.iq_history.specs.declared.entries.Entry.TheVariants as entries
use Rattle.iq_model.specs.declared.answers.Sent.TheVariants as sent
use Rattle.iq_model.specs.declared.replies.Reply.{Reply}
use Rattle.iq_model.specs.declared.replies.Said.TheVariants as said
use Rattle.iq_model.specs.declared.scripts.Script.{Script}
use Rattle.iq_model.specs.declared.scripts.Step.TheVariants as steps
use Rattle.iq_replay.specs.State.{State}
use Rattle.iq_replay.specs.Start.{start}
use Rattle.iq_replay_tests.specs.Words.{node, session, line, step, create, insert, reply, census}

abbrev pub script : Script
script =
    record {
      nodes = node (codes "c") node_kinds.Coordinator ∷ node (codes "r1") node_kinds.Reader ∷ [];
      sessions = session (codes "a") 0 2 ∷ session (codes "b") 1 1 ∷ [];
      lines =
          line 0 5 (create (codes "t") (codes "x"))
          ∷ line 0 6 (insert (codes "t") (1 ∷ 2 ∷ []))
          ∷ line 1 7 statements.Sync
          ∷ step 8 (steps.Report (codes "r1"))
          ∷ step 9 (steps.Lose 1)
          ∷ step 10 (steps.Take 1)
          ∷ step 11 (steps.Lose 1)
          ∷ step 12 steps.Space
          ∷ step 13 (steps.Report (codes "r1"))
          ∷ step 14 (steps.Take 2)
          ∷ step 15 (steps.Report (codes "c"))
          ∷ step 16 (steps.Restart (codes "c"))
          ∷ step 17 (steps.Restart (codes "zz"))
          ∷ [];
    }

-- the store has 64 blocks, and no tables yet
abbrev pub before : State
before = start 64 true script []

abbrev pub history : List Entry
history =
    entries.Begin 0 5 0
    ∷ entries.Lock 0 5 (codes "catalog" ∷ [])
    ∷ entries.Done 0 5
    ∷ entries.Commit 0 5 1
    ∷ entries.Begin 0 6 1
    ∷ entries.Lock 0 6 (codes "t" ∷ [])
    ∷ entries.Done 0 6
    ∷ entries.Commit 0 6 2
    ∷ entries.Sync 1 7 2
    ∷ entries.Send 1 8 1 2
    ∷ entries.Lose 9 1
    ∷ entries.Refused None 10 (refusals.NoReport 1)
    ∷ entries.Refused None 11 (refusals.NoReport 1)
    ∷ entries.Space 12 (census 52 0 0 7 1)
    ∷ entries.Send 1 13 2 2
    ∷ entries.Take 14 2 2 1
    ∷ entries.Own 0 15 2 0
    ∷ entries.Refused None 16 (refusals.IsCoordinator (codes "c"))
    ∷ entries.Refused None 17 (refusals.NoNode (codes "zz"))
    ∷ []

abbrev pub answered : List (Option Reply)
answered =
    reply 5 (said.Created (Some 1))
    ∷ reply 6 (said.Inserted 2 (Some 2))
    ∷ reply 7 (said.Synced 2)
    ∷ reply 8 (said.Sent (sent.Bagged 1 2))
    ∷ reply 9 (said.Lost 1)
    ∷ reply 10 (said.Refused (refusals.NoReport 1))
    ∷ reply 11 (said.Refused (refusals.NoReport 1))
    ∷ reply 12 (said.Space (census 52 0 0 7 1))
    ∷ reply 13 (said.Sent (sent.Bagged 2 2))
    ∷ reply 14 (said.Taken (record { horizon = 2; freed = 1 }))
    ∷ reply 15 (said.Sent (sent.Own 2 0))
    ∷ reply 16 (said.Refused (refusals.IsCoordinator (codes "c")))
    ∷ reply 17 (said.Refused (refusals.NoNode (codes "zz")))
    ∷ []
