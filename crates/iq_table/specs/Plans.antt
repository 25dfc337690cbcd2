-- What an append of rows is planned to write.
use Rattle.std.specs.Prelude.{◌≡◌, ℕ, List, Some, length, slice_get}
use Rattle.iq_base.specs.declared.values.Value.{Value}
use Rattle.iq_base.specs.declared.descriptors.ColumnPart.{ColumnPart}
use Rattle.iq_pages.specs.Pages.{Seen}
use Rattle.iq_cells.specs.Tables.{column_of}
use Rattle.iq_fp.specs.declared.plan.Plan.{Plan}
use Rattle.iq_fp.specs.Forms.{code_width}
use Rattle.iq_fp.specs.Calls.{IsLonger}
use Rattle.iq_fp.specs.Plans.{IsPlanFor, IsReached}
use Rattle.iq_table.specs.Places.{part_at, fp_of}

-- a plan is of column c of a table, for putting rows behind what the pages that are seen stand for, and leads to the new column
pub record IsColumnPlan (place slots c : ℕ) (old new : ColumnPart) (rows : List (List Value)) (seen : Seen) (plan : Plan) : Type 0 where
  pub column : plan.column ≡ fp_of place slots c old
  pub longer : IsLonger plan.column plan.grown (length rows)
  pub grown : new ≡ record old { form = code_width plan.grown.distinct; distinct = plan.grown.distinct }
  pub made_for : IsPlanFor seen.told (column_of c rows) plan
  pub reached : IsReached seen.counts plan

-- a plan for each column
pub record ArePlans (place slots : ℕ) (old new : List ColumnPart) (rows : List (List Value)) (seen : Seen) (plans : List Plan) : Type 0 where
  pub long : length plans ≡ length old
  pub each : (c : ℕ) (plan : Plan) → slice_get plans c ≡ Some plan → IsColumnPlan place slots c (part_at c old) (part_at c new) rows seen plan
