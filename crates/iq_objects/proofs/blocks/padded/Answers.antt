use Rattle.std.proofs.Common.{arith, refl, ◌≡◌, ◌-◌, length, []}
use Rattle.iq_block_map.proofs.EditLemmas.{padded_put}
use Rattle.iq_objects.proofs.blocks.padded.Goals as goal

pub returns : goal.returns
returns c =
    let count : length c.args.named.now - 0 ≡ length c.args.named.now = omega arith in
    rw (count, c.copy_from_slice.ensures.after) (padded_put [] c.args.named.now 0 refl)
