use Rattle.std.proofs.Common.{rules, arith, ◌≡◌, ◌∙◌, sym, ap, ◌+◌, ◌<◌, ◌≤◌, ◌*◌, ◌-◌, ℕ, List, Ok, Err, length, take, drop, slice_index}
use Rattle.std.proofs.lemmas.Result.{err_from_is_err_and}
use Rattle.std.proofs.lemmas.List.{length-take, get_or-take}
use Rattle.iq_block_map.specs.Objects.{leaf_count, used_in, map_at, joined, listed}
use Rattle.iq_block_map.proofs.ObjectLemmas.{listed_more, listed_stops}
use Rattle.iq_block_map.proofs.ReadLemmas.{below_count, walk_fault_on}
use Rattle.iq_block_map.proofs.reading.walk.Goals as goal

pub read_map-requires-clause-told : goal.read_map-requires-clause-told
read_map-requires-clause-told g c = λ all told.
    let opened = sym c.loop-k.invariant.looked.unchanged ∙ told in
    let before = c.in_ok-leaves.ensures.looked.unchanged ∙ (c.in_ok-count.ensures.looked.unchanged ∙ opened) in
    let within : c.loop-k.k < leaf_count c.args.object.pages = search rules in (
      c.in_ok-count.ensures.count all opened,
      below_count _ (leaf_count c.args.object.pages) c.loop-k.k c.in_ok-leaves.leaves (c.in_ok-leaves.ensures.places.may all (sym c.in_ok-leaves.ensures.looked.unchanged ∙ before)) within (omega (arith, c.requires.object.few)),
    )

pub loop-k-preserved : goal.loop-k-preserved
loop-k-preserved g c = record {
  looked = search rules;
  so_far = λ all told.
      let here = c.loop-k.invariant.looked.unchanged ∙ told in
      let few : leaf_count c.args.object.pages ≤ 252 = omega (arith, c.requires.object.few) in
      let within : c.loop-k.k < leaf_count c.args.object.pages = search rules in
      let size : length (take (leaf_count c.args.object.pages) c.in_ok-leaves.leaves) ≡ leaf_count c.args.object.pages
      = length-take (leaf_count c.args.object.pages) c.in_ok-leaves.leaves ∙ omega (arith, few) in
      let right = c.in_ok-leaf.ensures.ok all here in
      let same : slice_index (take (leaf_count c.args.object.pages) c.in_ok-leaves.leaves) c.loop-k.k ≡ slice_index c.in_ok-leaves.leaves c.loop-k.k
      = get_or-take (leaf_count c.args.object.pages) c.in_ok-leaves.leaves c.loop-k.k 0 within in
      let inside : c.loop-k.k < length (take (leaf_count c.args.object.pages) c.in_ok-leaves.leaves) = omega (arith, within, size) in
      let step = listed_more c.args.maps all c.args.object.pages c.loop-k.k (take (leaf_count c.args.object.pages) c.in_ok-leaves.leaves) _ _ inside
      (ap (map_at all 1 (used_in c.args.object.pages c.loop-k.k)) same ∙ rw c.used_in-used.ensures at right) in
      ap (λ (bs : List ℕ). joined (Ok bs) (listed c.args.maps all (c.args.object.pages - 252 * (c.loop-k.k + 1)) (drop (c.loop-k.k + 1) (take (leaf_count c.args.object.pages) c.in_ok-leaves.leaves)))) (rw same (search rules))
      ∙ step ∙ c.loop-k.invariant.so_far all told;
}

pub returns-in_err-leaf-clause-cause : goal.returns-in_err-leaf-clause-cause
returns-in_err-leaf-clause-cause g c =
    let p = err_from_is_err_and c.from_residual-in_err-leaf.result c.from_residual-in_err-leaf.ensures.1 in
    let few : leaf_count c.args.object.pages ≤ 252 = omega (arith, c.requires.object.few) in
    let within : c.loop-k.k < leaf_count c.args.object.pages = search rules in
    let size : length (take (leaf_count c.args.object.pages) c.in_ok-leaves.leaves) ≡ leaf_count c.args.object.pages
    = length-take (leaf_count c.args.object.pages) c.in_ok-leaves.leaves ∙ omega (arith, few) in
    let same : slice_index (take (leaf_count c.args.object.pages) c.in_ok-leaves.leaves) c.loop-k.k ≡ slice_index c.in_ok-leaves.leaves c.loop-k.k
    = get_or-take (leaf_count c.args.object.pages) c.in_ok-leaves.leaves c.loop-k.k 0 within in
    let inside : c.loop-k.k < length (take (leaf_count c.args.object.pages) c.in_ok-leaves.leaves) = omega (arith, within, size) in
    rw (p.1, p.2) (walk_fault_on _ _ c.in_err-leaf.field-0.0 _ _ _ _ _ _ c.loop-k.invariant.looked.unchanged c.loop-k.invariant.looked.later (omega arith)
    (λ b all told bad.
    sym (c.loop-k.invariant.so_far all told)
    ∙ listed_stops c.args.maps all c.args.object.pages c.loop-k.k b (take (leaf_count c.args.object.pages) c.in_ok-leaves.leaves) _ inside
    (ap (map_at all 1 (used_in c.args.object.pages c.loop-k.k)) same ∙ rw c.used_in-used.ensures at bad.1 ∙ ap Err (sym bad.0)))
    c.in_err-leaf.ensures.cause)
