use Rattle.std.proofs.Common.{◌≡◌, true, take}
use Rattle.std.specs.List.{All}
use Rattle.iq_hg.specs.declared.places.Place.{Place}
use Rattle.iq_hg.specs.Bounds.{is_under}
use Rattle.iq_hg.proofs.searching.count_under.Given as goal

abbrev pub invariant-loop-i : goal.invariant-loop-i
invariant-loop-i l = All (λ (place : Place). is_under l.low place.first.value ≡ true) (take l.i l.places)
