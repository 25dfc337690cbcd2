use Rattle.std.proofs.Common.{rules, arith, ◌∙◌, sym, ◌<◌, ◌/◌, ◌%◌}
use Rattle.iq_block_map.specs.Objects.{leaf_count, used_in}
use Rattle.iq_block_map.proofs.ReadLemmas.{below_count}
use Rattle.iq_block_map.proofs.reading.page.Goals as goal

pub read_map-requires-clause-told : goal.read_map-requires-clause-told
read_map-requires-clause-told g c = λ all told.
    let before = sym c.in_ok-leaves.ensures.looked.unchanged ∙ told in
    let first = sym c.in_ok-count.ensures.looked.unchanged ∙ before in
    let within : c.args.n / 252 < leaf_count c.args.object.pages = omega (arith, c.requires.page) in (
      c.in_ok-count.ensures.count all first,
      below_count _ (leaf_count c.args.object.pages) (c.args.n / 252) c.in_ok-leaves.leaves (c.in_ok-leaves.ensures.places.may all before) within (omega (arith, c.requires.object.few)),
    )

pub read_page-requires : goal.read_page-requires
read_page-requires g c = λ all told.
    let leafed = sym c.in_ok-leaf.ensures.looked.unchanged ∙ told in
    let before = sym c.in_ok-leaves.ensures.looked.unchanged ∙ leafed in
    let first = sym c.in_ok-count.ensures.looked.unchanged ∙ before in
    let within : c.args.n % 252 < used_in c.args.object.pages (c.args.n / 252) = omega (arith, c.requires.page) in
    rw (← c.in_ok-count.ensures.count all first)
    (below_count _ (used_in c.args.object.pages (c.args.n / 252)) (c.args.n % 252) c.in_ok-leaf.leaf (search rules) within (omega arith))
