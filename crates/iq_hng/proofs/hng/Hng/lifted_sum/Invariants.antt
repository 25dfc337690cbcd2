use Rattle.std.proofs.Common.{◌<◌, ◌*◌, ◌^◌}
use Rattle.iq_pages.specs.PageCalls.{view}
use Rattle.iq_pieces.specs.Counts.{OnlyReads}
use Rattle.iq_chunks.specs.Chunks.{chunks_for}
use Rattle.iq_hng.specs.Sums.{GivesLow}
use Rattle.iq_hng.proofs.hng.Hng.lifted_sum.Given as goal

abbrev pub invariant-loop-bit : goal.invariant-loop-bit
invariant-loop-bit g l = record {
  sum : GivesLow l.self (g.S.PageSource.told l.fn.source) l.bit l.found l.sum;
  short : l.sum < 2 ^ 32 * 2 ^ l.bit;
  reads : OnlyReads (l.bit * chunks_for l.self.slots) (view g.S.PageSource l.fn.source) (view g.S.PageSource l.source);
}
