use Rattle.iq_block_map.proofs.TradeLaws.{leaves_behind, pages_inside}
use Rattle.iq_block_map.proofs.laws.objects_are_behind_the_roots.Goals as goal

pub returns-clause-leaves : goal.returns-clause-leaves
returns-clause-leaves c = leaves_behind

pub returns-clause-pages : goal.returns-clause-pages
returns-clause-pages c = pages_inside
