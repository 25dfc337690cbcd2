use Rattle.iq_block_map.proofs.PutLemmas.{put_none, looked_same}
use Rattle.iq_block_map.proofs.editing.top.Goals as goal

pub returns-then-pages-le252-clause-put : goal.returns-then-pages-le252-clause-put
returns-then-pages-le252-clause-put g c = put_none _ _ _ _ (looked_same _ _)

pub returns-then-keeps_leaves-clause-put : goal.returns-then-keeps_leaves-clause-put
returns-then-keeps_leaves-clause-put g c = put_none _ _ _ _ (looked_same _ _)
