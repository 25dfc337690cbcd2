use Rattle.std.proofs.Common.{◌≡◌, ◌<◌, ℕ, slice_index_or}
use Rattle.iq_base.specs.declared.values.Kind.TheVariants.{Int}
use Rattle.iq_table.specs.Places.{part_at}
use Rattle.iq_table.proofs.table.have_kinds.Given as goal

abbrev pub invariant-loop-c : goal.invariant-loop-c
invariant-loop-c l = (j : ℕ) → j < l.c → slice_index_or l.rows.kinds j Int ≡ (part_at j l.parts).kind
