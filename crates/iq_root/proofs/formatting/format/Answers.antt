use Rattle.iq_root.proofs.StepLemmas.{cut_long}
use Rattle.iq_root.proofs.FormatLemmas.{formats, formats_newest}
use Rattle.iq_root.proofs.formatting.format.Goals as goal

pub put_slot-requires-clause-long : goal.put_slot-requires-clause-long
put_slot-requires-clause-long g c = cut_long _ _ _ _ c.in_ok-resize.ensures.resized.content c.requires

pub returns-clause-ok : goal.returns-clause-ok
returns-clause-ok g c =
    formats c.args.count _ _ _ _ _ _ _ _ c.empty_root.ensures c.empty_root-2.ensures c.in_ok-resize.ensures.resized.content
    c.in_ok-put_slot.ensures.ok c.in_ok-put_slot-2.ensures.ok c.in_ok-sync.ensures.synced.content

pub returns-clause-newest : goal.returns-clause-newest
returns-clause-newest g c =
    formats_newest c.args.count _ (g.D.Device.blocks c.args.disk.now) c.requires c.empty_root-2.ensures c.put_slot-2.ensures.fits
