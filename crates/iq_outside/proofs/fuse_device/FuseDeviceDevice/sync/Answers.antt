use Rattle.iq_outside.proofs.DeviceLemmas.{counts_both, has_synced}
use Rattle.iq_outside.proofs.fuse_device.FuseDeviceDevice.sync.Goals as goal

pub returns-clause-synced : goal.returns-clause-synced
returns-clause-synced c = rw (← c.self.view_is) (has_synced _ _
    c.sync.result c.counted.result _ _ c.counted.ensures.variant c.sync.ensures.adds c.sync.ensures.err
    (counts_both c.counted.result _ _ _ c.pass.ensures.later c.counted.ensures.later c.counted.ensures.fault))
