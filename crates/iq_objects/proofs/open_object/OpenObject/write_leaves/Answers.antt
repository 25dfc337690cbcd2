use Rattle.std.proofs.Common.{arith, refl, ap, inl, inr, ◌≡◌, ◌∙◌, ◌≤◌, length, slice_index}
use Rattle.std.proofs.lemmas.Bool.{cases_eq}
use Rattle.iq_block_map.proofs.PutLemmas.{put_none, put_then, looked_same}
use Rattle.iq_objects.proofs.CountLemmas.{moves_none, moves_then}
use Rattle.iq_objects.proofs.CloseLemmas.{writes_then, zero_none}
use Rattle.iq_objects.proofs.open_object.OpenObject.write_leaves.Goals as goal

pub loop-k-init : goal.loop-k-init
loop-k-init g c = record {
  put = put_none _ _ _ _ (looked_same _ _);
  spare = c.requires.spare;
  stands = c.requires.stands;
  moves = moves_none (g.T.Taker.left c.args.space.now) c.args.self.now;
  maps = record { pages = refl; size = refl; leaves = λ k some. refl; top = λ some. refl };
  top = refl;
  lost = refl;
  count = refl;
  done = λ j within. absurd (omega (arith, within));
}

pub returns-in_err-write_leaf-clause-put : goal.returns-in_err-write_leaf-clause-put
returns-in_err-write_leaf-clause-put g c = put_then _ _ _ _ _ _ _ c.loop-k.invariant.put c.write_leaf.ensures.put

pub returns-in_err-write_leaf-clause-moves : goal.returns-in_err-write_leaf-clause-moves
returns-in_err-write_leaf-clause-moves g c =
    moves_then (g.T.Taker.left c.args.space.now) (g.T.Taker.left c.loop-k.space) (g.T.Taker.left c.write_leaf.new.space) c.args.self.now c.loop-k.self c.write_leaf.new.self
    c.loop-k.invariant.put.left c.write_leaf.ensures.put.left c.loop-k.invariant.moves c.write_leaf.ensures.moves

pub loop-k-preserved : goal.loop-k-preserved
loop-k-preserved g c = record {
  put = put_then _ _ _ _ _ _ _ c.loop-k.invariant.put c.write_leaf.ensures.put;
  spare = c.write_leaf.ensures.spare;
  stands = c.write_leaf.ensures.stands;
  moves =
      moves_then (g.T.Taker.left c.args.space.now) (g.T.Taker.left c.loop-k.space) (g.T.Taker.left c.write_leaf.new.space) c.args.self.now c.loop-k.self c.write_leaf.new.self
      c.loop-k.invariant.put.left c.write_leaf.ensures.put.left c.loop-k.invariant.moves c.write_leaf.ensures.moves;
  maps = writes_then c.args.self.now c.loop-k.self c.write_leaf.new.self c.loop-k.invariant.maps c.write_leaf.ensures.maps;
  top = c.write_leaf.ensures.top ∙ c.loop-k.invariant.top;
  lost = c.in_ok-write_leaf.ensures.lost ∙ c.loop-k.invariant.lost;
  count = omega (arith, c.in_ok-write_leaf.ensures.count, c.loop-k.invariant.count);
  done = λ j within. elim (cases_eq j c.loop-k.k) [
    | inl here ↦
        (let at = c.in_ok-write_leaf.ensures.here in
        omega (arith, at, ap (slice_index c.write_leaf.new.self.leaves) here))
    | inr other ↦
        (let some = c.loop-k.invariant.done j (omega (arith, within, λ (is : j ≡ c.loop-k.k). other is)) in
        omega (arith, some, c.write_leaf.ensures.maps.leaves j some))
  ];
}

pub returns-clause-settled : goal.returns-clause-settled
returns-clause-settled g c =
    let over : length c.args.self.now.leaves ≤ c.loop-k.k = omega (arith, c.loop-k-test.false, c.leaf_count-k-end.ensures) in
    zero_none c.loop-k.self.leaves (λ j within. c.loop-k.invariant.done j (omega (arith, within, over, c.loop-k.invariant.maps.size)))

pub returns-clause-count : goal.returns-clause-count
returns-clause-count g c =
    let over : length c.args.self.now.leaves ≤ c.loop-k.k = omega (arith, c.loop-k-test.false, c.leaf_count-k-end.ensures) in
    let settled = zero_none c.loop-k.self.leaves (λ j within. c.loop-k.invariant.done j (omega (arith, within, over, c.loop-k.invariant.maps.size))) in
    omega (arith, settled, c.loop-k.invariant.count)
