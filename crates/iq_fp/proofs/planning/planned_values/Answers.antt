use Rattle.iq_fp.proofs.Growth.{are_numbered, numbered_below}
use Rattle.iq_fp.proofs.planning.planned_values.Goals as goal

pub returns-clause-below : goal.returns-clause-below
returns-clause-below g c = numbered_below _ _ _ _ _ c.in_ok-known.ensures.long c.in_ok-codes.ensures.ok

pub returns-clause-numbered : goal.returns-clause-numbered
returns-clause-numbered g c =
    are_numbered _ _ _ _ _ _ _ _ _ c.in_ok-known.ensures.kind c.requires.kind c.in_ok-known.ensures.long c.in_ok-known.ensures.known c.have_cells.ensures c.in_ok-codes.ensures.ok c.last_page-last_values.ensures
