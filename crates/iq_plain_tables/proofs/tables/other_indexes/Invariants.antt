use Rattle.std.proofs.Common.{◌≡◌, ◌++◌, filter, not, drop}
use Rattle.iq_base.specs.declared.descriptors.IndexSpec.{IndexSpec}
use Rattle.iq_conditions.specs.Servers.{same_name}
use Rattle.iq_plain_tables.proofs.tables.other_indexes.Given as goal

abbrev pub invariant-loop-index : goal.invariant-loop-index
invariant-loop-index l =
    l.kept ++ filter (λ (index : IndexSpec). not (same_name index.name l.name)) (drop l.index-index l.indexes)
    ≡ filter (λ (index : IndexSpec). not (same_name index.name l.name)) l.indexes
