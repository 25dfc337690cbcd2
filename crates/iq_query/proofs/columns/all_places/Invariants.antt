use Rattle.std.proofs.Common.{◌≡◌, [], length, take}
use Rattle.iq_query.specs.Calls.{AreWithin, item_place}
use Rattle.std.specs.List.{filter_map}
use Rattle.iq_statements.specs.Named.{members_of}
use Rattle.iq_query.proofs.columns.all_places.Given as goal

-- the places of the columns so far
abbrev pub invariant-loop-column : goal.invariant-loop-column
invariant-loop-column l =
    (l.places.items ≡ filter_map (item_place l.columns) (members_of (take l.column-index l.columns) []))
    × AreWithin (length l.columns) l.places.items
