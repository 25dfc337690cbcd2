use Rattle.std.proofs.Common.{rules, arith, ◌≡◌, length, slice_index}
use Rattle.iq_block_map.proofs.NextLemmas.{below_of}
use Rattle.iq_objects.proofs.open_object.OpenObject.page.Goals as goal

pub read_page-requires : goal.read_page-requires
read_page-requires g c = λ all told.
    let at : slice_index c.as_slice.result.now c.args.n ≡ slice_index c.args.self.now.pages c.args.n = search rules in
    omega (arith, at, below_of (length all) (slice_index c.args.self.now.pages c.args.n) (c.requires.inside all told c.args.n 0 c.requires.page))
