use Rattle.iq_hg_leaves.proofs.CutLaws.{next_rest}
use Rattle.iq_hg_leaves.proofs.cutting.next_part.Goals as goal

pub returns-clause-rest : goal.returns-clause-rest
returns-clause-rest c = next_rest c.args.q c.args.parts c.args.left c.args.rest c.requires.some c.requires.cuttable
