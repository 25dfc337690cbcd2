use Rattle.iq_block_map.proofs.ReadLemmas.{ok_three}
use Rattle.iq_block_map.proofs.PageLemmas.{page_there}
use Rattle.iq_block_map.proofs.writing.put_page.Goals as goal

pub returns-clause-page : goal.returns-clause-page
returns-clause-page g c = ok_three _ _ _ _ c.put.result
    (λ at left fits block now told. page_there _ _ _ _ _ at c.args.page.now now c.requires.spare c.put.ensures.put left fits block told)
    c.put.ensures.left c.put.ensures.fits c.put.ensures.block
