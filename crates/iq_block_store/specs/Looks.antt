-- What calls of a device that only look at it leave.
use Rattle.std.specs.Prelude.{◌≡◌, ◌≤◌}
use Rattle.iq_outside.specs.declared.device.Device.{Ghosts}
use Rattle.iq_outside.specs.DeviceCalls.{KeepsPast, AddsNone}

-- no block changed, the count of faults didn't fall, and a stop leaves nothing that a stop before could not have left
pub record HasLooked {D : Type 0} (g : Ghosts D) (old new : D) : Type 0 where
  pub unchanged : g.blocks new ≡ g.blocks old
  pub later : g.faults old ≤ g.faults new
  pub past : KeepsPast g old new
  pub since : AddsNone g old new
