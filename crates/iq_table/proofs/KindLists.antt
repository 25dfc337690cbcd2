-- Columns that hold the same.
use Rattle.std.proofs.Common.{◌≡◌, ◌<◌, ℕ, List, [], true, length, slice_index_or, sym, ap, ◌∙◌, arith}
use Rattle.std.proofs.lemmas.List.{length-map, get_or-map, ext_get_or}
use Rattle.iq_base.specs.declared.values.Kind.{Kind}
use Rattle.iq_base.specs.declared.values.Kind.TheVariants.{Int}
use Rattle.iq_base.specs.declared.descriptors.ColumnPart.{ColumnPart}
use Rattle.iq_table.specs.Places.{new_part, part_at, part_kinds}

-- as many, and each the same
pub kinds_are : (kinds : List Kind) (parts : List ColumnPart) → length kinds ≡ length parts → ((j : ℕ) → j < length parts → slice_index_or kinds j Int ≡ (part_at j parts).kind) → kinds ≡ part_kinds parts
kinds_are kinds parts long each =
    let kind = λ (part : ColumnPart). part.kind in
    ext_get_or Int kinds (part_kinds parts) (long ∙ sym (length-map parts kind))
    (λ j h. let within : j < length parts = omega (arith, long) in each j within ∙ sym (get_or-map kind parts j (new_part (record { name = []; kind = Int; null = true })) Int within))

-- what a column may hold, by its place
pub kind_at : (kinds : List Kind) (parts : List ColumnPart) (c k : ℕ) → c ≡ k → k < length parts → kinds ≡ part_kinds parts → slice_index_or kinds c Int ≡ (part_at k parts).kind
kind_at kinds parts c k e h is =
    ap (λ (ks : List Kind). slice_index_or ks c Int) is ∙ ap (λ (j : ℕ). slice_index_or (part_kinds parts) j Int) e
    ∙ get_or-map (λ (part : ColumnPart). part.kind) parts k (new_part (record { name = []; kind = Int; null = true })) Int h
