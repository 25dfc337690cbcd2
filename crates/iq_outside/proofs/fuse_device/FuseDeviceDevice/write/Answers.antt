use Rattle.std.proofs.Common.{ap, sym}
use Rattle.iq_outside.specs.Records.{Fused, fused_seen}
use Rattle.iq_outside.proofs.DeviceLemmas.{counts_both, has_written}
use Rattle.iq_outside.proofs.fuse_device.FuseDeviceDevice.write.Goals as goal

pub returns-clause-written : goal.returns-clause-written
returns-clause-written c = rw (← c.self.view_is) (has_written _ _ _ _
    c.write.result c.counted.result _ _ c.counted.ensures.variant c.write.ensures.ok c.write.ensures.adds c.write.ensures.err
    (c.requires _ (ap (λ (d : Fused). (fused_seen d).blocks) (sym c.self.view_is)))
    (counts_both c.counted.result _ _ _ c.pass.ensures.later c.counted.ensures.later c.counted.ensures.fault))
