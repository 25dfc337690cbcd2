use Rattle.std.specs.Prelude.{◌≡◌, ℕ, List, false, slice_index_or}
use Rattle.std.proofs.Common.{subst}
use Rattle.iq_block_map.specs.Takers.{taken_of}
use Rattle.iq_block_map.specs.Writing.{holds}
use Rattle.iq_block_map.proofs.PutLemmas.{holds-append}
use Rattle.iq_block_map.proofs.FrameLaws.{frame_law}
use Rattle.iq_objects.proofs.laws.what_may_not_be_taken_stays.Goals as goal

pub returns-clause-same : goal.returns-clause-same
returns-clause-same c = λ before after all now object blocks split same few is free.
    frame_law all now object blocks few is record {
      size = same.size;
      blocks = λ k d within.
          let b = slice_index_or blocks k d in
          same.others b (holds-append (taken_of before after) after b (subst (λ (ys : List ℕ). holds ys b ≡ false) split (free k d within))).0;
    }

pub returns-clause-apart : goal.returns-clause-apart
returns-clause-apart c = λ before after blocks split free k d within.
    let b = slice_index_or blocks k d in
    (holds-append (taken_of before after) after b (subst (λ (ys : List ℕ). holds ys b ≡ false) split (free k d within))).1
