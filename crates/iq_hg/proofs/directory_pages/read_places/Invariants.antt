use Rattle.std.proofs.Common.{◌≡◌, ◌+◌, ◌*◌, ◌++◌, take, length}
use Rattle.std.specs.List.{All}
use Rattle.iq_hg.specs.Places.{IsPlace, places_bytes}
use Rattle.iq_hg.proofs.directory_pages.read_places.Given as goal

abbrev pub invariant-loop-i : goal.invariant-loop-i
invariant-loop-i l = record {
  long : length l.places.items ≡ l.i;
  read : take (4 + l.i * l.wide) l.page ≡ take 4 l.page ++ places_bytes l.kind l.places.items;
  each : All (IsPlace l.kind) l.places.items;
}
