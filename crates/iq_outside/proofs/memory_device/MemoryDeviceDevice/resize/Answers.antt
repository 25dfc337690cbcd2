use Rattle.iq_outside.proofs.DeviceLemmas.{counts_call, has_resized}
use Rattle.iq_outside.proofs.memory_device.MemoryDeviceDevice.resize.Goals as goal

pub returns-clause-resized : goal.returns-clause-resized
returns-clause-resized c = rw (← c.self.view_is) (has_resized _ _ _
    c.resize.result c.counted.result _ _ c.counted.ensures.variant c.resize.ensures.ok c.resize.ensures.adds c.resize.ensures.err
    (counts_call c.counted.result _ _ _ c.call.ensures.later c.counted.ensures.later c.counted.ensures.fault))
