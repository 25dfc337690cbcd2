use Rattle.std.proofs.Common.{◌≡◌, ◌+◌, ◌*◌, ◌++◌, take, length}
use Rattle.std.specs.List.{All}
use Rattle.iq_hg_leaves.specs.Entries.{IsEntry}
use Rattle.iq_hg_leaves.specs.Bytes.{entries_bytes}
use Rattle.iq_hg_leaves.proofs.leaf_pages.read_leaf.Given as goal

abbrev pub invariant-loop-i : goal.invariant-loop-i
invariant-loop-i l = record {
  kind : l.entries.kind ≡ l.kind;
  long : length l.entries.entries ≡ l.i;
  read : take (8 + l.i * l.wide) l.page ≡ take 8 l.page ++ entries_bytes l.kind l.entries.entries;
  each : All (IsEntry l.kind) l.entries.entries;
}
