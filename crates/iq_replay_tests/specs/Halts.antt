-- A device fault in a commit.
use Rattle.std.specs.Prelude.{true, List, [], ◌∷◌, Option, Some, codes}
use Rattle.iq_base.specs.declared.nodes.NodeKind.TheVariants as node_kinds
use Rattle.iq_base.specs.declared.refusals.Refusal.TheVariants as refusals
use Rattle.iq_ast.specs.declared.statements.Statement.TheVariants as statements
use Rattle.iq_history.specs.declared.entries.Entry.{Entry}
use Rattle.iq_history.specs.declared.entries.Entry.TheVariants as entries
use Rattle.iq_model.specs.declared.replies.Reply.{Reply}
use Rattle.iq_model.specs.declared.replies.Said.TheVariants as said
use Rattle.iq_model.specs.declared.scripts.Script.{Script}
use Rattle.iq_replay.specs.State.{State}
use Rattle.iq_replay.specs.Start.{start}
use Rattle.iq_replay_tests.specs.Words.{node, session, line, create, insert, count_all, reply, rows}

abbrev pub script : Script
script =
    record {
      nodes = node (codes "c") node_kinds.Coordinator ∷ [];
      sessions = session (codes "s") 0 7 ∷ [];
      lines =
          line 0 1 (create (codes "t") (codes "x"))
          ∷ line 0 2 (insert (codes "t") (1 ∷ []))
          ∷ line 0 3 (insert (codes "t") (1 ∷ []))
          ∷ line 0 4 (count_all (codes "t"))
          ∷ line 0 5 statements.Begin
          ∷ line 0 6 (insert (codes "t") (1 ∷ []))
          ∷ line 0 7 statements.Commit
          ∷ [];
    }

-- the store has 64 blocks, and no tables yet
abbrev pub before : State
before = start 64 true script []

abbrev pub history : List Entry
history =
    entries.Begin 0 1 0
    ∷ entries.Lock 0 1 (codes "catalog" ∷ [])
    ∷ entries.Done 0 1
    ∷ entries.Commit 0 1 1
    ∷ entries.Begin 0 2 1
    ∷ entries.Lock 0 2 (codes "t" ∷ [])
    ∷ entries.Done 0 2
    ∷ entries.Halt 0 2 2 0 1
    ∷ entries.Begin 0 3 1
    ∷ entries.Refused (Some 0) 3 (refusals.Halted 2)
    ∷ entries.Begin 0 4 1
    ∷ entries.Done 0 4
    ∷ entries.End 0 4
    ∷ entries.Begin 0 5 1
    ∷ entries.Refused (Some 0) 6 (refusals.Halted 2)
    ∷ entries.End 0 7
    ∷ []

abbrev pub answered : List (Option Reply)
answered =
    reply 1 (said.Created (Some 1))
    ∷ reply 2 (said.Refused (refusals.StoreFault 0 1))
    ∷ reply 3 (said.Refused (refusals.Halted 2))
    ∷ reply 4 (rows (0 ∷ []))
    ∷ reply 5 (said.Begun 1)
    ∷ reply 6 (said.Refused (refusals.Halted 2))
    ∷ reply 7 said.Ended
    ∷ []
