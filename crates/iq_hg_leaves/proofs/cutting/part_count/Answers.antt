use Rattle.iq_hg_leaves.proofs.CutLaws.{all_parts, parts_some}
use Rattle.iq_hg_leaves.proofs.cutting.part_count.Goals as goal

pub returns-clause-some : goal.returns-clause-some
returns-clause-some c = parts_some c.args.n c.args.q c.div_ceil.result c.requires.some (all_parts c.args.n c.args.q c.div_ceil.result c.requires.some c.requires.room c.div_ceil.ensures)

pub returns-clause-cut : goal.returns-clause-cut
returns-clause-cut c = all_parts c.args.n c.args.q c.div_ceil.result c.requires.some c.requires.room c.div_ceil.ensures
