-- The words are too long for the search to compare: the three writes one after another.
use Rattle.std.proofs.Common.{append_assoc}
use Rattle.iq_render.proofs.replies.push_latest.Goals as goal

pub returns : goal.returns
returns c =
    let written = rw (c.in_ok-push_count.ensures, c.in_ok-push_str.ensures.bytes) at c.push_count-2.ensures in
    simp append_assoc (simp append_assoc at written)
