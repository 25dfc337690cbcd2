use Rattle.std.proofs.Common.{◌≡◌, take}
use Rattle.iq_root.proofs.addresses.Addresses.again.Given as goal

abbrev pub invariant-loop-address : goal.invariant-loop-address
invariant-loop-address l = l.copy ≡ take l.address-index l.self
