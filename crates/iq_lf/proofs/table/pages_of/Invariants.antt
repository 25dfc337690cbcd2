use Rattle.std.proofs.Common.{◌≡◌, length}
use Rattle.iq_pieces.specs.Counts.{pages_for}
use Rattle.iq_lf.specs.Stands.{entries_in}
use Rattle.iq_lf.proofs.TableLaws.{CoversBelow}
use Rattle.iq_lf.proofs.table.pages_of.Given as goal

abbrev pub invariant-loop-v : goal.invariant-loop-v
invariant-loop-v l = record {
  long : length l.needed.items ≡ pages_for 4 (entries_in l.lf);
  covers : CoversBelow l.v l.hits l.needed.items;
}
