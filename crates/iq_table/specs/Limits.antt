-- How many rows a table may have.
use Rattle.std.specs.Prelude.{ℕ, ◌≤◌, ◌*◌, ◌^◌, Bool, true, false, List, map}
use Rattle.std.specs.List.{list_any}
use Rattle.iq_base.specs.declared.sizes.TheConstants.{MOST_PAGES}
use Rattle.iq_base.specs.declared.values.Kind.{Kind}
use Rattle.iq_base.specs.declared.schemas.Column.{Column}
use Rattle.iq_base.specs.declared.schemas.IndexKind.{IndexKind}
use Rattle.iq_base.specs.declared.schemas.IndexKind.TheVariants.{Lf, Hg, Hng, Cmp}
use Rattle.iq_base.specs.declared.descriptors.ColumnPart.{ColumnPart}
use Rattle.iq_base.specs.declared.descriptors.IndexPart.{IndexPart}
use Rattle.iq_base.specs.declared.descriptors.Descriptor.{Descriptor}
use Rattle.iq_base.specs.Cells.{width}
use Rattle.iq_base.specs.Limits.{row_limit}
use Rattle.iq_pieces.specs.Counts.{per_page}
use Rattle.iq_table.specs.Places.{as_column}

-- columns as statements know them
abbrev pub as_columns : List ColumnPart → List Column
as_columns parts = map as_column parts

-- whether a kind of index is Low Fast
abbrev pub is_low_fast : IndexKind → Bool
is_low_fast Lf = true
is_low_fast Hg = false
is_low_fast Hng = false
is_low_fast Cmp = false

-- whether a Low Fast index is among indexes
abbrev pub has_low_fast : List IndexPart → Bool
has_low_fast indexes = list_any (λ (index : IndexPart). is_low_fast index.spec.kind) indexes

-- how many rows a table may have, removed ones counted
abbrev pub limit_of : Descriptor → ℕ
limit_of parts = row_limit (as_columns parts.columns) (has_low_fast parts.indexes)

-- so many rows find room in a column: codes of 3 bytes tell their values apart, and no object gets more pages than it may have
pub record FindsRoom (kind : Kind) (rows : ℕ) : Type 0 where
  pub codes : rows ≤ 256 ^ 3
  pub values : rows ≤ per_page (width kind) * MOST_PAGES
