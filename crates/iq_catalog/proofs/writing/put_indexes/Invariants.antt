use Rattle.std.proofs.Common.{◌≡◌, ◌++◌, take}
use Rattle.std.specs.Prelude.{flat_map}
use Rattle.iq_catalog.specs.Texts.{index_text}
use Rattle.iq_catalog.proofs.writing.put_indexes.Given as goal

abbrev pub invariant-loop-index : goal.invariant-loop-index
invariant-loop-index l = l.out.items ≡ l.fn.out.items ++ flat_map index_text (take l.index-index l.indexes)
