use Rattle.std.specs.Prelude.{◌≡◌, ℕ, List, false, slice_index_or}
use Rattle.std.proofs.Common.{subst}
use Rattle.iq_block_map.specs.Takers.{taken_of}
use Rattle.iq_block_map.specs.Writing.{holds}
use Rattle.iq_block_map.proofs.PutLemmas.{holds-append}
use Rattle.iq_block_map.proofs.TradeLaws.{contents_same}
use Rattle.iq_objects.proofs.StandLemmas.{stands_on}
use Rattle.iq_objects.proofs.laws.an_opened_object_stands_beside_others.Goals as goal

pub returns-clause-stands : goal.returns-clause-stands
returns-clause-stands c = λ before after o all now split same stands. stands_on before after o all now split same stands

pub returns-clause-content : goal.returns-clause-content
returns-clause-content c = λ before after o all now split same stands.
    contents_same all now o.pages
    (λ k d within.
    let b = slice_index_or o.pages k d in
    same.others b (holds-append (taken_of before after) after b (subst (λ (ys : List ℕ). holds ys b ≡ false) split (stands.free_pages k d within))).0)
