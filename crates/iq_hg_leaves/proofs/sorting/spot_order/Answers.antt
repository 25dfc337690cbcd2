use Rattle.std.proofs.Common.{refl}
use Rattle.iq_hg_leaves.specs.Spots.{entry_of}
use Rattle.iq_hg_leaves.proofs.Joined.{cmp_is}
use Rattle.iq_hg_leaves.proofs.sorting.spot_order.Goals as goal

pub returns : goal.returns
returns c = cmp_is (entry_of c.args.a.now) (entry_of c.args.b.now) c.compare.result _ (entry_of c.args.a.now).value (entry_of c.args.b.now).value c.args.a.now.row c.args.b.now.row refl refl c.compare.ensures c.rows_then.ensures
