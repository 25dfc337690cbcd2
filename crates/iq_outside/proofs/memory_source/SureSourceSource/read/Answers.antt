use Rattle.std.proofs.Common.{refl}
use Rattle.iq_outside.proofs.StreamLemmas.{reads-drop}
use Rattle.iq_outside.proofs.memory_source.SureSourceSource.read.Goals as goal

pub returns-clause-front : goal.returns-clause-front
returns-clause-front c =
    rw (← c.self.view_is) (reads-drop _ _ _ _ _ 0 0
    (rw (c.split_at.ensures.back, c.deref.ensures.value) at c.copy_front-n.ensures.count)
    (rw (c.split_at.ensures.back, c.deref.ensures.value) at c.copy_front-n.ensures.front)
    refl)
