-- The rows of columns, value by value, as they are answered.
use Rattle.std.proofs.Common.{◌≡◌, ◌<◌, ℕ, List, [], length, map, slice_index_or, ap, ◌∙◌, arith}
use Rattle.std.proofs.lemmas.List.{length-map, get_or-map}
use Rattle.iq_base.specs.declared.values.Value.{Value}
use Rattle.iq_base.specs.declared.values.Value.TheVariants as values
use Rattle.iq_model.specs.declared.answers.Out.{Out}
use Rattle.iq_model.specs.declared.answers.Out.TheVariants as outs
use Rattle.iq_cells.specs.Packed.{value_at}
use Rattle.iq_cells.specs.Tables.{row_at}
use Rattle.iq_model.specs.Outs.{out_of, outs_of}

module _ (rows : List (List Value)) (r : ℕ) (there : r < length rows) where
  outs_at : slice_index_or (map outs_of rows) r [] ≡ outs_of (row_at r rows)
  outs_at = get_or-map outs_of rows r [] [] there

  -- a row has as many values as it had
  pub length-outs : length (slice_index_or (map outs_of rows) r []) ≡ length (row_at r rows)
  length-outs = ap (λ (row : List Out). length row) outs_at ∙ length-map (row_at r rows) out_of

  -- and each is its value
  pub out_at : (c : ℕ) → c < length (row_at r rows) → slice_index_or (slice_index_or (map outs_of rows) r []) c outs.Null ≡ out_of (value_at c (row_at r rows))
  out_at c h = ap (λ (row : List Out). slice_index_or row c outs.Null) outs_at ∙ get_or-map out_of (row_at r rows) c values.Null outs.Null h

-- rows that are answered are as many, and as wide
module _ (answered : List (List Out)) (rows : List (List Value)) (r : ℕ) where
  pub rows_there : answered ≡ map outs_of rows → r < length answered → r < length rows
  rows_there are h = omega (arith, ap (λ (x : List (List Out)). length x) are, length-map rows outs_of)

  pub column_there : (c : ℕ) → answered ≡ map outs_of rows → r < length rows → c < length (slice_index_or answered r []) → c < length (row_at r rows)
  column_there c are there h = omega (arith, ap (λ (x : List (List Out)). length (slice_index_or x r [])) are, length-outs rows r there)
