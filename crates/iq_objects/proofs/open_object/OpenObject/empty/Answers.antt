use Rattle.std.proofs.Common.{rules, ◌≡◌, []}
use Rattle.iq_objects.specs.Open.{Held}
use Rattle.iq_objects.proofs.StandLemmas.{stands_empty}
use Rattle.iq_objects.proofs.open_object.OpenObject.empty.Goals as goal

pub returns-clause-stands : goal.returns-clause-stands
returns-clause-stands c =
    let o : Held = record { pages = c.new.result.items; leaves = c.new-2.result.items; top = 0; lost = c.new-3.result.items } in
    let is : o ≡ record { pages = []; leaves = []; top = 0; lost = [] } = search rules in
    λ told left spare all fits. stands_empty told left o all spare fits is
