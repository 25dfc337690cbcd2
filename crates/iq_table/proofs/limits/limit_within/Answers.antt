use Rattle.std.proofs.Common.{arith}
use Rattle.iq_table.proofs.Room.{most_rows}
use Rattle.iq_table.proofs.limits.limit_within.Goals as goal

pub returns-clause-most : goal.returns-clause-most
returns-clause-most c = let most = most_rows c.args.longest c.args.low_fast in omega (arith, most, c.rows_within.ensures)
