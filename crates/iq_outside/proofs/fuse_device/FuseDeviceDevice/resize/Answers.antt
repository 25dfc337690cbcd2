use Rattle.iq_outside.proofs.DeviceLemmas.{counts_both, has_resized}
use Rattle.iq_outside.proofs.fuse_device.FuseDeviceDevice.resize.Goals as goal

pub returns-clause-resized : goal.returns-clause-resized
returns-clause-resized c = rw (← c.self.view_is) (has_resized _ _ _
    c.resize.result c.counted.result _ _ c.counted.ensures.variant c.resize.ensures.ok c.resize.ensures.adds c.resize.ensures.err
    (counts_both c.counted.result _ _ _ c.pass.ensures.later c.counted.ensures.later c.counted.ensures.fault))
