use Rattle.std.proofs.Common.{rules, sym, subst, ◌≡◌, ◌+◌, ◌/◌, ◌++◌, ℕ, List, [], ◌∷◌, length}
use Rattle.iq_block_map.specs.Takers.{taken_of}
use Rattle.iq_block_map.proofs.PutLemmas.{put_none, looked_same}
use Rattle.iq_objects.specs.Open.{Held, Stands, Moves, with_more, with_lost}
use Rattle.iq_objects.specs.Changes.{ChangesContents}
use Rattle.iq_objects.proofs.PageLemmas.{more_stands, lost_stands, moves_more, more_contents}
use Rattle.iq_objects.proofs.open_object.OpenObject.push_page.Goals as goal

pub returns-in_err-make_room-clause-put : goal.returns-in_err-make_room-clause-put
returns-in_err-make_room-clause-put g c = put_none _ _ _ _ (looked_same _ _)

pub returns-in_err-make_room-clause-stands : goal.returns-in_err-make_room-clause-stands
returns-in_err-make_room-clause-stands g c =
    let is : record { pages = c.make_room.new.list.items; leaves = c.self.inside.leaves.items; top = c.self.inside.top; lost = c.self.inside.lost.items } ≡ c.args.self.now = search rules in
    λ all told. subst (λ (o : Held). Stands (g.T.Taker.left c.args.space.now) o all) (sym is) (c.requires.stands all told)

pub returns-in_err-make_room-2-clause-put : goal.returns-in_err-make_room-2-clause-put
returns-in_err-make_room-2-clause-put g c = put_none _ _ _ _ (looked_same _ _)

pub returns-in_err-make_room-2-clause-stands : goal.returns-in_err-make_room-2-clause-stands
returns-in_err-make_room-2-clause-stands g c =
    let is : record { pages = c.make_room.new.list.items; leaves = c.make_room-2.new.list.items; top = c.self.inside.top; lost = c.self.inside.lost.items } ≡ c.args.self.now = search rules in
    λ all told. subst (λ (o : Held). Stands (g.T.Taker.left c.args.space.now) o all) (sym is) (c.requires.stands all told)

pub returns-in_err-make_room-3-clause-put : goal.returns-in_err-make_room-3-clause-put
returns-in_err-make_room-3-clause-put g c = put_none _ _ _ _ (looked_same _ _)

pub returns-in_err-make_room-3-clause-stands : goal.returns-in_err-make_room-3-clause-stands
returns-in_err-make_room-3-clause-stands g c =
    let is : record { pages = c.make_room.new.list.items; leaves = c.make_room-2.new.list.items; top = c.self.inside.top; lost = c.make_room-3.new.list.items } ≡ c.args.self.now = search rules in
    λ all told. subst (λ (o : Held). Stands (g.T.Taker.left c.args.space.now) o all) (sym is) (c.requires.stands all told)

pub returns-in_err-at-clause-stands : goal.returns-in_err-at-clause-stands
returns-in_err-at-clause-stands g c =
    let before = g.T.Taker.left c.args.space.now in
    let after = g.T.Taker.left c.put.new.space in
    let is : record { pages = c.make_room.new.list.items; leaves = c.make_room-2.new.list.items; top = c.self.inside.top; lost = c.put.new.lost.items }
    ≡ with_lost (c.args.self.now.lost ++ taken_of before after) c.args.self.now = search rules in
    λ all told. subst (λ (o : Held). Stands after o all) (sym is)
    (lost_stands g.D.Device before after c.args.disk.now c.put.new.disk c.args.self.now c.requires.spare c.put.ensures.put c.requires.stands all told)

pub returns-clause-stands : goal.returns-clause-stands
returns-clause-stands g c =
    let before = g.T.Taker.left c.args.space.now in
    let after = g.T.Taker.left c.put.new.space in
    let is : record { pages = c.push.new.self.items; leaves = c.push-2.new.self.items; top = 0; lost = c.leave.new.lost.items } ≡ with_more c.in_ok-at.at c.args.self.now = search rules in
    let count : length c.args.self.now.leaves ≡ (length c.args.self.now.pages + 251) / 252 = search rules in
    λ all told. subst (λ (o : Held). Stands after o all) (sym is)
    (more_stands g.D.Device before after c.args.disk.now c.put.new.disk c.args.self.now c.in_ok-at.at c.requires.spare c.put.ensures.spare c.in_ok-at.ensures.left
    c.put.ensures.put c.in_ok-at.ensures.is_in count c.requires.stands all told)

pub returns-clause-moves : goal.returns-clause-moves
returns-clause-moves g c =
    let before = g.T.Taker.left c.args.space.now in
    let after = g.T.Taker.left c.put.new.space in
    let is : record { pages = c.push.new.self.items; leaves = c.push-2.new.self.items; top = 0; lost = c.leave.new.lost.items } ≡ with_more c.in_ok-at.at c.args.self.now = search rules in
    let count : length c.args.self.now.leaves ≡ (length c.args.self.now.pages + 251) / 252 = search rules in
    subst (λ (o : Held). Moves before after c.args.self.now o) (sym is) (moves_more c.in_ok-at.at before after c.args.self.now c.in_ok-at.ensures.left count)

pub returns-clause-content : goal.returns-clause-content
returns-clause-content g c =
    let before = g.T.Taker.left c.args.space.now in
    let after = g.T.Taker.left c.put.new.space in
    let is : record { pages = c.push.new.self.items; leaves = c.push-2.new.self.items; top = 0; lost = c.leave.new.lost.items } ≡ with_more c.in_ok-at.at c.args.self.now = search rules in
    let count : length c.args.self.now.leaves ≡ (length c.args.self.now.pages + 251) / 252 = search rules in
    subst (λ (o : Held). ChangesContents (g.D.Device.blocks c.args.disk.now) (g.D.Device.blocks c.put.new.disk) (λ (ps : List (List ℕ)). ps ++ c.args.from.now ∷ []) c.args.self.now o) (sym is)
    (more_contents g.D.Device before after c.args.disk.now c.put.new.disk c.args.self.now c.in_ok-at.at c.args.from.now c.requires.spare c.in_ok-at.ensures.left
    c.in_ok-at.ensures.fits c.put.ensures.put c.in_ok-at.ensures.block c.requires.stands)
