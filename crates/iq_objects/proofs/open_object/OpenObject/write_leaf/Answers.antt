use Rattle.std.proofs.Common.{rules, arith, sym, ap, subst, ◌≡◌, ◌∙◌, ◌++◌, ℕ, List, slice_index, slice_set, Some}
use Rattle.std.specs.List.{flat_map}
use Rattle.iq_block_store.specs.Frames.{map_kind, framed, bytes_of}
use Rattle.iq_block_map.specs.Takers.{taken_of}
use Rattle.iq_block_map.specs.Editing.{piece}
use Rattle.iq_block_map.specs.Leaves.{padded}
use Rattle.iq_block_map.proofs.PutLemmas.{put_none, looked_same}
use Rattle.iq_block_map.proofs.StepLemmas.{piece_length}
use Rattle.iq_objects.specs.Open.{Held, Stands, Moves, with_lost}
use Rattle.iq_objects.proofs.PageLemmas.{lost_stands}
use Rattle.iq_objects.proofs.CloseLemmas.{with_leaf, leaf_stands, moves_leaf}
use Rattle.iq_objects.proofs.open_object.OpenObject.write_leaf.Goals as goal

pub returns-then-as_slice-k-gt0-clause-put : goal.returns-then-as_slice-k-gt0-clause-put
returns-then-as_slice-k-gt0-clause-put g c = put_none _ _ _ _ (looked_same _ _)

pub returns-in_err-make_room-clause-put : goal.returns-in_err-make_room-clause-put
returns-in_err-make_room-clause-put g c = put_none _ _ _ _ (looked_same _ _)

pub returns-in_err-make_room-clause-stands : goal.returns-in_err-make_room-clause-stands
returns-in_err-make_room-clause-stands g c =
    let is : record { pages = c.self.inside.pages.items; leaves = c.self.inside.leaves.items; top = c.self.inside.top; lost = c.make_room.new.list.items } ≡ c.args.self.now = search rules in
    λ all told. subst (λ (o : Held). Stands (g.T.Taker.left c.args.space.now) o all) (sym is) (c.requires.stands all told)

pub padded-places-requires : goal.padded-places-requires
padded-places-requires g c = rw c.piece_of.ensures (omega (arith, piece_length c.args.k c.as_slice-2.result.now))

pub returns-in_err-at-clause-stands : goal.returns-in_err-at-clause-stands
returns-in_err-at-clause-stands g c =
    let before = g.T.Taker.left c.args.space.now in
    let after = g.T.Taker.left c.put.new.space in
    let is : record { pages = c.self.inside.pages.items; leaves = c.self.inside.leaves.items; top = c.self.inside.top; lost = c.put.new.lost.items }
    ≡ with_lost (c.args.self.now.lost ++ taken_of before after) c.args.self.now = search rules in
    λ all told. subst (λ (o : Held). Stands after o all) (sym is)
    (lost_stands g.D.Device before after c.args.disk.now c.put.new.disk c.args.self.now c.requires.spare c.put.ensures.put c.requires.stands all told)

pub returns-clause-stands : goal.returns-clause-stands
returns-clause-stands g c =
    let before = g.T.Taker.left c.args.space.now in
    let after = g.T.Taker.left c.put.new.space in
    let is : record { pages = c.self.inside.pages.items; leaves = c.set.new.self.items; top = c.self.inside.top; lost = c.put.new.lost.items } ≡ with_leaf c.args.k c.in_ok-at.at c.args.self.now = search rules in
    let none : slice_index c.args.self.now.leaves c.args.k ≡ 0 = search rules in
    let places : c.padded-places.result ≡ padded (piece c.args.k c.args.self.now.pages) = search rules in
    let block : (all : List (List ℕ)) → g.D.Device.blocks c.args.disk.now ≡ Some all
    → g.D.Device.blocks c.put.new.disk ≡ Some (slice_set all c.in_ok-at.at (framed map_kind c.in_ok-at.at 1 (flat_map bytes_of (padded (piece c.args.k c.args.self.now.pages)))))
    = λ all told. c.in_ok-at.ensures.block all told
    ∙ ap (λ (t : List ℕ). Some (slice_set all c.in_ok-at.at (framed map_kind c.in_ok-at.at 1 t))) (c.payload_of.ensures ∙ ap (flat_map bytes_of) places) in
    λ all told. subst (λ (o : Held). Stands after o all) (sym is)
    (leaf_stands g.D.Device before after c.args.disk.now c.put.new.disk c.args.self.now c.args.k c.in_ok-at.at c.requires.spare c.in_ok-at.ensures.left
    c.put.ensures.put c.in_ok-at.ensures.is_in c.requires.leaf none block c.requires.stands all told)

pub returns-clause-moves : goal.returns-clause-moves
returns-clause-moves g c =
    let before = g.T.Taker.left c.args.space.now in
    let after = g.T.Taker.left c.put.new.space in
    let is : record { pages = c.self.inside.pages.items; leaves = c.set.new.self.items; top = c.self.inside.top; lost = c.put.new.lost.items } ≡ with_leaf c.args.k c.in_ok-at.at c.args.self.now = search rules in
    let none : slice_index c.args.self.now.leaves c.args.k ≡ 0 = search rules in
    subst (λ (o : Held). Moves before after c.args.self.now o) (sym is) (moves_leaf c.args.k c.in_ok-at.at before after c.args.self.now c.in_ok-at.ensures.left c.requires.leaf none)
