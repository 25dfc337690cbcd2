use Rattle.iq_lf.proofs.FindLaws.{adds_named}
use Rattle.iq_lf.proofs.finding.add_entry.Goals as goal

pub returns-clause-ok : goal.returns-clause-ok
returns-clause-ok g c = adds_named c.args.named _ _ _ c.if-named-eq0.false c.in_ok-add_bitmap.ensures.ok
