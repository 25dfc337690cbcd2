use Rattle.std.proofs.Common.{◌++◌, ℕ, List, ap₂, ◌∙◌}
use Rattle.std.proofs.lemmas.List.{drop-replicate}
use Rattle.iq_hg_leaves.proofs.leaf_pages.page_of.Goals as goal

pub returns : goal.returns
returns c = ap₂ (λ (a b : List ℕ). a ++ b) c.copy_from_slice.ensures.after (c.split_at_mut-front.ensures.back ∙ drop-replicate _ 1008 0)
