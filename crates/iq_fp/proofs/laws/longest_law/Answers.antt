use Rattle.iq_fp.proofs.ColumnLaws.{none_longer}
use Rattle.iq_fp.proofs.laws.longest_law.Goals as goal

pub returns : goal.returns
returns c = none_longer c.args.columns.now
