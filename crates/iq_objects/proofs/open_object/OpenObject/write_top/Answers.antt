use Rattle.std.proofs.Common.{rules, sym, ap, subst, ◌≡◌, ◌∙◌, ◌≤◌, ◌++◌, ℕ, List, length, slice_set, Some}
use Rattle.std.specs.List.{flat_map}
use Rattle.iq_block_store.specs.Frames.{map_kind, framed, bytes_of}
use Rattle.iq_block_map.specs.Takers.{taken_of}
use Rattle.iq_block_map.specs.Leaves.{padded}
use Rattle.iq_block_map.proofs.PutLemmas.{put_none, looked_same}
use Rattle.iq_objects.specs.Open.{Held, Stands, with_lost}
use Rattle.iq_objects.proofs.PageLemmas.{lost_stands}
use Rattle.iq_objects.proofs.CloseLemmas.{with_top, top_stands}
use Rattle.iq_objects.proofs.open_object.OpenObject.write_top.Goals as goal

pub returns-then-len-le252-clause-put : goal.returns-then-len-le252-clause-put
returns-then-len-le252-clause-put g c = put_none _ _ _ _ (looked_same _ _)

pub returns-in_err-make_room-clause-put : goal.returns-in_err-make_room-clause-put
returns-in_err-make_room-clause-put g c = put_none _ _ _ _ (looked_same _ _)

pub returns-in_err-make_room-clause-stands : goal.returns-in_err-make_room-clause-stands
returns-in_err-make_room-clause-stands g c =
    let is : record { pages = c.self.inside.pages.items; leaves = c.self.inside.leaves.items; top = c.self.inside.top; lost = c.make_room.new.list.items } ≡ c.args.self.now = search rules in
    λ all told. subst (λ (o : Held). Stands (g.T.Taker.left c.args.space.now) o all) (sym is) (c.requires.stands all told)

pub returns-in_err-self-inside-clause-stands : goal.returns-in_err-self-inside-clause-stands
returns-in_err-self-inside-clause-stands g c =
    let before = g.T.Taker.left c.args.space.now in
    let after = g.T.Taker.left c.put.new.space in
    let is : record { pages = c.self.inside.pages.items; leaves = c.self.inside.leaves.items; top = c.self.inside.top; lost = c.put.new.lost.items }
    ≡ with_lost (c.args.self.now.lost ++ taken_of before after) c.args.self.now = search rules in
    λ all told. subst (λ (o : Held). Stands after o all) (sym is)
    (lost_stands g.D.Device before after c.args.disk.now c.put.new.disk c.args.self.now c.requires.spare c.put.ensures.put c.requires.stands all told)

pub returns-clause-stands : goal.returns-clause-stands
returns-clause-stands g c =
    let before = g.T.Taker.left c.args.space.now in
    let after = g.T.Taker.left c.put.new.space in
    let at = c.in_ok-self-inside.field-0 in
    let is : record { pages = c.self.inside.pages.items; leaves = c.self.inside.leaves.items; top = at; lost = c.put.new.lost.items } ≡ with_top at c.args.self.now = search rules in
    let few : length c.args.self.now.leaves ≤ 252 = search rules in
    let places : c.padded-places.result ≡ padded c.args.self.now.leaves = search rules in
    let block : (all : List (List ℕ)) → g.D.Device.blocks c.args.disk.now ≡ Some all
    → g.D.Device.blocks c.put.new.disk ≡ Some (slice_set all at (framed map_kind at 2 (flat_map bytes_of (padded c.args.self.now.leaves))))
    = λ all told. c.in_ok-self-inside.ensures.block all told
    ∙ ap (λ (t : List ℕ). Some (slice_set all at (framed map_kind at 2 t))) (c.payload_of.ensures ∙ ap (flat_map bytes_of) places) in
    λ all told. subst (λ (o : Held). Stands after o all) (sym is)
    (top_stands g.D.Device before after c.args.disk.now c.put.new.disk c.args.self.now at c.requires.spare c.in_ok-self-inside.ensures.left
    c.put.ensures.put c.in_ok-self-inside.ensures.is_in c.requires.leaves few block c.requires.stands all told)
