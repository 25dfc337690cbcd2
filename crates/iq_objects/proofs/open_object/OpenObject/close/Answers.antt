use Rattle.std.proofs.Common.{sym, subst}
use Rattle.iq_base.specs.declared.refs.Ref.{Ref}
use Rattle.iq_block_map.specs.Refs.{IsIn}
use Rattle.iq_block_map.proofs.PutLemmas.{put_then}
use Rattle.iq_objects.specs.Opened.{IsClosed}
use Rattle.iq_objects.proofs.CountLemmas.{moves_then}
use Rattle.iq_objects.proofs.CloseLemmas.{closed_is, closed_in}
use Rattle.iq_objects.proofs.open_object.OpenObject.close.Goals as goal

pub returns-in_err-write_top-clause-put : goal.returns-in_err-write_top-clause-put
returns-in_err-write_top-clause-put g c = put_then _ _ _ _ _ _ _ c.write_leaves.ensures.put c.write_top.ensures.put

pub returns-in_err-write_top-clause-moves : goal.returns-in_err-write_top-clause-moves
returns-in_err-write_top-clause-moves g c =
    moves_then (g.T.Taker.left c.args.space.now) (g.T.Taker.left c.write_leaves.new.space) (g.T.Taker.left c.write_top.new.space) c.args.self.now c.write_leaves.new.self c.write_top.new.self
    c.write_leaves.ensures.put.left c.write_top.ensures.put.left c.write_leaves.ensures.moves c.write_top.ensures.moves

pub returns-clause-put : goal.returns-clause-put
returns-clause-put g c = put_then _ _ _ _ _ _ _ c.write_leaves.ensures.put c.write_top.ensures.put

pub returns-clause-moves : goal.returns-clause-moves
returns-clause-moves g c =
    moves_then (g.T.Taker.left c.args.space.now) (g.T.Taker.left c.write_leaves.new.space) (g.T.Taker.left c.write_top.new.space) c.args.self.now c.write_leaves.new.self c.write_top.new.self
    c.write_leaves.ensures.put.left c.write_top.ensures.put.left c.write_leaves.ensures.moves c.write_top.ensures.moves

pub returns-clause-closed : goal.returns-clause-closed
returns-clause-closed g c = λ all told.
    let is = closed_is (g.T.Taker.left c.write_top.new.space) c.write_top.new.self all c.reference.ensures.held (c.write_top.ensures.stands all told) c.in_ok-write_top.ensures.settled in
    subst (λ (r : Ref). IsClosed r c.write_top.new.self all) (sym c.reference.ensures.ok) is

pub returns-clause-is_in : goal.returns-clause-is_in
returns-clause-is_in g c =
    let is = closed_in (g.D.Device.blocks c.write_top.new.disk) (g.T.Taker.left c.write_top.new.space) c.write_top.new.self c.reference.ensures.held c.write_top.ensures.stands c.in_ok-write_top.ensures.settled in
    subst (λ (r : Ref). IsIn (g.D.Device.blocks c.write_top.new.disk) r) (sym c.reference.ensures.ok) is
