use Rattle.std.proofs.Common.{rules, arith, ◌≡◌, ◌∙◌, ◌-◌, ◌+◌, ◌<◌, sym, ap, length, take, slice_index_or, slice_set, ℕ, List}
use Rattle.std.proofs.lemmas.List.{take_all}
use Rattle.iq_block_map.specs.Editing.{replaced_from}
use Rattle.iq_block_map.specs.Leaves.{padded}
use Rattle.iq_block_map.proofs.EditLemmas.{change_bounds, padded_set, padded_put, replaced_more, length-replaced}
use Rattle.iq_block_map.proofs.editing.edit.Goals as goal

pub overflow_sub-places : goal.overflow_sub-places
overflow_sub-places c = (change_bounds _ _ c.args.here.now c.loop-change.change-index (0, 0) c.requires.here (search rules)).0

pub bounds-places-change : goal.bounds-places-change
bounds-places-change c =
    let bounds = change_bounds _ _ c.args.here.now c.loop-change.change-index (0, 0) c.requires.here (search rules) in
    omega (arith, bounds.0, bounds.1, c.requires.room)

pub loop-change-preserved : goal.loop-change-preserved
loop-change-preserved c = λ xs size is.
    let within : c.loop-change.change-index < length c.args.here.now = search rules in
    let bounds = change_bounds _ _ c.args.here.now c.loop-change.change-index (0, 0) c.requires.here within in
    let change = slice_index_or c.args.here.now c.loop-change.change-index (0, 0) in
    let done = replaced_from c.args.leaf.first xs (take c.loop-change.change-index c.args.here.now) in
    let inside : change.0 - c.args.leaf.first < length done = omega (arith, bounds.0, bounds.1, size, length-replaced c.args.leaf.first xs (take c.loop-change.change-index c.args.here.now)) in
    ap (λ (ps : List ℕ). slice_set ps (change.0 - c.args.leaf.first) change.1) (c.loop-change.invariant xs size is)
    ∙ padded_set done (change.0 - c.args.leaf.first) change.1 inside
    ∙ ap padded (sym (replaced_more c.args.leaf.first xs c.args.here.now c.loop-change.change-index (0, 0) within))

pub returns : goal.returns
returns c = λ xs size is.
    let done = replaced_from c.args.leaf.first xs c.args.here.now in
    let whole : take c.loop-change.change-index c.args.here.now ≡ c.args.here.now = take_all c.loop-change.change-index c.args.here.now (search rules) in
    let places : c.loop-change.places ≡ padded done = rw whole at c.loop-change.invariant xs size is in
    let size_done : length done ≡ c.args.leaf.used = length-replaced c.args.leaf.first xs c.args.here.now ∙ size in
    let count : c.args.leaf.used + length c.args.more.now - c.args.leaf.used ≡ length c.args.more.now = omega arith in
    rw (count, places, c.copy_from_slice.ensures.after) (padded_put done c.args.more.now c.args.leaf.used size_done)
