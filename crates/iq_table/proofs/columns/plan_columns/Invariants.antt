use Rattle.std.proofs.Common.{◌≡◌, ◌<◌, ℕ, Some, length, take}
use Rattle.std.specs.List.{slice_get}
use Rattle.iq_pages.specs.PageCalls.{view}
use Rattle.iq_pieces.specs.Counts.{OnlyReads}
use Rattle.iq_fp.specs.declared.plan.Plan.{Plan}
use Rattle.iq_table.specs.Places.{part_at}
use Rattle.iq_table.specs.Calls.{IsPartGrown, columns_read}
use Rattle.iq_table.specs.Plans.{IsColumnPlan}
use Rattle.iq_table.proofs.columns.plan_columns.Given as goal

abbrev pub invariant-loop-c : goal.invariant-loop-c
invariant-loop-c g l = record {
  many : length l.plans.items ≡ l.c;
  long : length l.grown.items ≡ l.c;
  each : (j : ℕ) → j < l.c → IsPartGrown (length l.rows.rows) (part_at j l.parts) (part_at j l.grown.items);
  plans : (j : ℕ) (plan : Plan) → slice_get l.plans.items j ≡ Some plan → IsColumnPlan l.place l.slots j (part_at j l.parts) (part_at j l.grown.items) l.rows.rows (view g.S.PageSource l.fn.source) plan;
  reads : OnlyReads (columns_read l.slots (take l.c l.parts)) (view g.S.PageSource l.fn.source) (view g.S.PageSource l.source);
}
