use Rattle.std.proofs.Common.{ap, sym}
use Rattle.iq_outside.specs.Records.{Taped, taped_seen}
use Rattle.iq_outside.proofs.DeviceLemmas.{counts_call, has_written}
use Rattle.iq_outside.proofs.memory_device.MemoryDeviceDevice.write.Goals as goal

pub returns-clause-written : goal.returns-clause-written
returns-clause-written c = rw (← c.self.view_is) (has_written _ _ _ _
    c.write.result c.counted.result _ _ c.counted.ensures.variant c.write.ensures.ok c.write.ensures.adds c.write.ensures.err
    (c.requires _ (ap (λ (d : Taped). (taped_seen d).blocks) (sym c.self.view_is)))
    (counts_call c.counted.result _ _ _ c.call.ensures.later c.counted.ensures.later c.counted.ensures.fault))
