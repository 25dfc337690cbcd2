use Rattle.std.proofs.Common.{arith, ap}
use Rattle.iq_block_map.specs.Objects.{leaf_count}
use Rattle.iq_block_map.proofs.StepLemmas.{needed_few}
use Rattle.iq_block_map.proofs.reading.most_maps.Goals as goal

pub returns-clause-enough : goal.returns-clause-enough
returns-clause-enough c = λ xs ys size. omega (arith, needed_few xs ys, ap leaf_count size, c.leaf_count.ensures)
