use Rattle.std.proofs.Common.{rules, arith, ◌≡◌, ◌∙◌, sym, ap, subst, ◌+◌, ◌<◌, ◌≤◌, ◌*◌, ◌-◌, ◌++◌, ℕ, List, Ok, Err, length, take, drop, slice_index, slice_index_or, false, length-append}
use Rattle.std.specs.List.{All}
use Rattle.std.proofs.lemmas.Result.{err_from_is_err_and}
use Rattle.std.proofs.lemmas.List.{length-take, get_or-take, get_or_default}
use Rattle.iq_block_map.specs.Objects.{leaf_count, used_in, map_at, joined, listed}
use Rattle.iq_block_map.proofs.ObjectLemmas.{listed_more, listed_stops}
use Rattle.iq_block_map.proofs.PutLemmas.{looked_then}
use Rattle.iq_block_map.proofs.FrameLaws.{all_both}
use Rattle.iq_block_map.proofs.ReadLemmas.{below_count, from_four, walk_fault_on}
use Rattle.iq_objects.proofs.blocks.read_leaves.Goals as goal

pub read_map-requires-clause-told : goal.read_map-requires-clause-told
read_map-requires-clause-told g c = λ all told.
    let before = sym c.loop-k.invariant.looked.unchanged ∙ told in
    let within : c.loop-k.k < leaf_count c.args.pages = search rules in (
      c.requires.count all before,
      below_count _ (leaf_count c.args.pages) c.loop-k.k c.args.leaves.now (c.requires.leaves.may all before) within (omega (arith, c.requires.few)),
    )

pub loop-k-preserved : goal.loop-k-preserved
loop-k-preserved g c =
    let pages = c.args.pages in
    let k = c.loop-k.k in
    let named = c.in_ok-leaf.leaf in
    let used = used_in pages k in
    let few : used ≤ 252 = omega arith in
    let within : k < leaf_count pages = search rules in
    let long : length named ≡ 252 = c.in_ok-leaf.ensures.places.size in
    let new : c.put_all.new.list.items ≡ c.loop-k.into.items ++ take used named = search rules in
    let cut : length (take used named) ≡ used = length-take used named ∙ omega (arith, long, few) in
    record {
      looked = looked_then _ _ _ _ c.loop-k.invariant.looked c.read_map.ensures.looked;
      so_far = λ all told.
          let here = c.loop-k.invariant.looked.unchanged ∙ told in
          let ls = take (leaf_count pages) c.args.leaves.now in
          let size : length ls ≡ leaf_count pages = length-take (leaf_count pages) c.args.leaves.now ∙ omega (arith, c.requires.few, (c.requires.leaves.may all told).size) in
          let right = c.in_ok-leaf.ensures.ok all here in
          let same : slice_index ls k ≡ slice_index c.args.leaves.now k = get_or-take (leaf_count pages) c.args.leaves.now k 0 within in
          let inside : k < length ls = omega (arith, within, size) in
          let step = listed_more false all pages k ls c.loop-k.into.items (take used named) inside
          (ap (map_at all 1 used) same ∙ rw c.used_in-used.ensures at right) in
          ap (λ (bs : List ℕ). joined (Ok bs) (listed false all (pages - 252 * (k + 1)) (drop (k + 1) ls))) new
          ∙ step ∙ c.loop-k.invariant.so_far all told;
      size = ap length new ∙ length-append c.loop-k.into.items (take used named) ∙ omega (arith, cut, c.loop-k.invariant.size);
      above = subst (All (λ a. 4 ≤ a)) (sym new)
          (all_both (λ a. 4 ≤ a) c.loop-k.into.items (take used named) c.loop-k.invariant.above
          (λ j d inner.
          let near : j < used = omega (arith, inner, cut) in
          let four : 4 ≤ slice_index named j = from_four c.args.count used j named (rw c.used_in-used.ensures at c.in_ok-leaf.ensures.places) near few in
          let there : slice_index_or (take used named) j d ≡ slice_index named j = get_or-take used named j d near ∙ get_or_default named j d 0 (omega (arith, near, few, long)) in
          omega (arith, four, there)));
      room = search rules;
    }

pub returns-in_err-leaf-clause-cause : goal.returns-in_err-leaf-clause-cause
returns-in_err-leaf-clause-cause g c =
    let p = err_from_is_err_and c.from_residual.result c.from_residual.ensures.1 in
    let within : c.loop-k.k < leaf_count c.args.pages = search rules in
    let ls = take (leaf_count c.args.pages) c.args.leaves.now in
    let same : slice_index ls c.loop-k.k ≡ slice_index c.args.leaves.now c.loop-k.k = get_or-take (leaf_count c.args.pages) c.args.leaves.now c.loop-k.k 0 within in
    rw (p.1, p.2) (walk_fault_on _ _ c.in_err-leaf.field-0.0 _ _ _ _ _ _ c.loop-k.invariant.looked.unchanged c.loop-k.invariant.looked.later (omega arith)
    (λ b all told bad.
    let size : length ls ≡ leaf_count c.args.pages = length-take (leaf_count c.args.pages) c.args.leaves.now ∙ omega (arith, c.requires.few, (c.requires.leaves.may all told).size) in
    let inside : c.loop-k.k < length ls = omega (arith, within, size) in
    sym (c.loop-k.invariant.so_far all told)
    ∙ listed_stops false all c.args.pages c.loop-k.k b ls c.loop-k.into.items inside
    (ap (map_at all 1 (used_in c.args.pages c.loop-k.k)) same ∙ rw c.used_in-used.ensures at bad.1 ∙ ap Err (sym bad.0)))
    c.in_err-leaf.ensures.cause)
