use Rattle.iq_plex.proofs.Starts.{attached, controllable}
use Rattle.iq_plex.proofs.plex.Plex.attach.Goals as goal

pub opened-requires : goal.opened-requires
opened-requires c = controllable c.args.script.now c.requires

pub returns : goal.returns
returns c = attached c.args.script.now c.in_ok-opened.field-0 c.in_ok-new.field-0 c.requires c.in_ok-opened.ensures c.in_ok-new.ensures
