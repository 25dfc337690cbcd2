use Rattle.std.proofs.Common.{◌∙◌, arith}
use Rattle.std.proofs.lemmas.List.{get_or_read}
use Rattle.iq_cells.proofs.GrowLaws.{cut_back, grow_stay}
use Rattle.iq_cells.proofs.growing.grow.Goals as goal

pub returns-in-Err-clause-err : goal.returns-in-Err-clause-err
returns-in-Err-clause-err c =
    cut_back c.loop-c.c _ _ _ _ c.args.values.now c.requires.long
    (grow_stay _ _ _ _ _ c.loop-c.invariant (c.in-Err.ensures.err ∙ get_or_read c.loop-c.columns.items c.loop-c.c _ (omega (arith, c.loop-c.invariant.long, c.requires.wide)) c.index_mut.ensures.value _))
    c.cut.ensures
