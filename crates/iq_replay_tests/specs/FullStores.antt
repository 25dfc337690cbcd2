-- Writes that find no block.
use Rattle.std.specs.Prelude.{false, List, [], ◌∷◌, Option, Some, codes}
use Rattle.iq_base.specs.declared.nodes.NodeKind.TheVariants as node_kinds
use Rattle.iq_base.specs.declared.refusals.Refusal.TheVariants as refusals
use Rattle.iq_history.specs.declared.entries.Entry.{Entry}
use Rattle.iq_history.specs.declared.entries.Entry.TheVariants as entries
use Rattle.iq_model.specs.declared.replies.Reply.{Reply}
use Rattle.iq_model.specs.declared.replies.Said.TheVariants as said
use Rattle.iq_model.specs.declared.scripts.Script.{Script}
use Rattle.iq_replay.specs.State.{State}
use Rattle.iq_replay.specs.Start.{start}
use Rattle.iq_replay_tests.specs.Words.{node, session, line, create, insert, delete_all, drop_table, select, reply, no_space}

abbrev pub script : Script
script =
    record {
      nodes = node (codes "c") node_kinds.Coordinator ∷ [];
      sessions = session (codes "s") 0 6 ∷ [];
      lines =
          line 0 1 (create (codes "t") (codes "x"))
          ∷ line 0 2 (insert (codes "t") (1 ∷ []))
          ∷ line 0 3 (delete_all (codes "t"))
          ∷ line 0 4 (insert (codes "t") (1 ∷ []))
          ∷ line 0 5 (drop_table (codes "t"))
          ∷ line 0 6 (select (codes "x") (codes "t"))
          ∷ [];
    }

-- the store has 64 blocks, and no tables yet
abbrev pub before : State
before = start 64 false script []

abbrev pub history : List Entry
history =
    entries.Begin 0 1 0
    ∷ entries.Lock 0 1 (codes "catalog" ∷ [])
    ∷ entries.Done 0 1
    ∷ entries.Commit 0 1 1
    ∷ entries.Begin 0 2 1
    ∷ entries.Lock 0 2 (codes "t" ∷ [])
    ∷ entries.Refused (Some 0) 2 (no_space 0 10 20 5 25)
    ∷ entries.Begin 0 3 1
    ∷ entries.Lock 0 3 (codes "t" ∷ [])
    ∷ entries.Refused (Some 0) 3 (refusals.BadPage 256 0)
    ∷ entries.Begin 0 4 1
    ∷ entries.Lock 0 4 (codes "t" ∷ [])
    ∷ entries.Done 0 4
    ∷ entries.Commit 0 4 2
    ∷ entries.Begin 0 5 2
    ∷ entries.Lock 0 5 (codes "catalog" ∷ codes "t" ∷ [])
    ∷ entries.Done 0 5
    ∷ entries.Commit 0 5 3
    ∷ entries.Begin 0 6 3
    ∷ entries.Refused (Some 0) 6 (refusals.NoTable (codes "t"))
    ∷ []

abbrev pub answered : List (Option Reply)
answered =
    reply 1 (said.Created (Some 1))
    ∷ reply 2 (said.Refused (no_space 0 10 20 5 25))
    ∷ reply 3 (said.Refused (refusals.BadPage 256 0))
    ∷ reply 4 (said.Inserted 1 (Some 2))
    ∷ reply 5 (said.Dropped (Some 3))
    ∷ reply 6 (said.Refused (refusals.NoTable (codes "t")))
    ∷ []
