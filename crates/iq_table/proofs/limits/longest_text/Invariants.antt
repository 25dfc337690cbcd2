use Rattle.std.proofs.Common.{◌≡◌, drop, max}
use Rattle.iq_base.specs.Limits.{longest}
use Rattle.iq_table.specs.Limits.{as_columns}
use Rattle.iq_table.proofs.limits.longest_text.Given as goal

abbrev pub invariant-loop-part : goal.invariant-loop-part
invariant-loop-part l = max l.most (longest (as_columns (drop l.part-index l.parts))) ≡ longest (as_columns l.parts)
