use Rattle.std.proofs.Common.{◌≡◌, length, take, drop}
use Rattle.std.specs.List.{AllByRecursion, filter_map}
use Rattle.iq_statements.specs.Checks.{first_found}
use Rattle.iq_statements.specs.Named.{item_column, no_column}
use Rattle.iq_query.specs.Simple.{IsColumnItem}
use Rattle.iq_query.specs.Calls.{AreWithin, item_place}
use Rattle.iq_query.proofs.columns.named_places.Given as goal

-- the places of those so far, all of which are columns
abbrev pub invariant-loop-item : goal.invariant-loop-item
invariant-loop-item l =
    (l.places.items ≡ filter_map (item_place l.columns) (take l.item-index l.items))
    × AreWithin (length l.columns) l.places.items
    × (first_found (no_column l.columns) (filter_map item_column (drop l.item-index l.items)) ≡ first_found (no_column l.columns) (filter_map item_column l.items))
    × AllByRecursion IsColumnItem (drop l.item-index l.items)
