use Rattle.iq_bitmap.proofs.Lanes.{zip2-map_right}
use Rattle.iq_bitmap.proofs.operations.WithoutWordOperation.lanes.Goals as goal

pub returns : goal.returns
returns c = zip2-map_right _ _ c.args.a c.args.b
