use Rattle.std.proofs.Common.{arith}
use Rattle.iq_free_list.proofs.BitLemmas.{clear_hinted, free_of_clear}
use Rattle.iq_free_list.proofs.free_list.FreeList.none.Goals as goal

pub invariant_of-result : goal.invariant_of-result
invariant_of-result c = rw (c.in_ok-empty.ensures) (clear_hinted c.args.count (omega (arith, c.ranges.count.fits)))

pub returns : goal.returns
returns c = free_of_clear c.args.count _ c.in_ok-empty.ensures
