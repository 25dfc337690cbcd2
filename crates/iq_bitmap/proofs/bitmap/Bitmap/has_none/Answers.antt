use Rattle.iq_bitmap.proofs.NextSet.{empty_where_none}
use Rattle.iq_bitmap.proofs.bitmap.Bitmap.has_none.Goals as goal

pub returns : goal.returns
returns c = empty_where_none c.args.self.now c.next.result c.is_none.result c.next.ensures.found c.next.ensures.none c.is_none.ensures
