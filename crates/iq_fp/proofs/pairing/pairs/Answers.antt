use Rattle.std.proofs.Common.{◌≡◌, ℕ, length, slice_index, ap, ap₂, ◌∙◌, arith}
use Rattle.std.proofs.lemmas.Grind.{get_or_default_zero}
use Rattle.std.proofs.lemmas.List.{length-set}
use Rattle.iq_truth.specs.Sides.{is_on}
use Rattle.iq_cells.specs.Packed.{value_at}
use Rattle.iq_fp.specs.Scans.{is_pair}
use Rattle.iq_fp.proofs.Pairs.{paired, bits_next, pairs_are}
use Rattle.iq_fp.proofs.pairing.pairs.Goals as goal

pub loop-row-preserved : goal.loop-row-preserved
loop-row-preserved c =
    let row = c.loop-row.row in
    let left = c.args.left.now in
    let right = c.args.right.now in
    let v : c.index.result.now ≡ slice_index left.codes.items row = c.index.ensures ∙ get_or_default_zero left.codes.items row c.index.result.now (omega (arith, c.requires.left_long, c.loop-row-test.true)) in
    let w : c.index-in-loop-row.result.now ≡ slice_index right.codes.items row = c.index-in-loop-row.ensures ∙ get_or_default_zero right.codes.items row c.index-in-loop-row.result.now (omega (arith, c.requires.right_long, c.loop-row-test.true)) in
    let on : c.has.result ≡ paired c.args.side c.args.op left.known.values left.codes.items right.known.values right.codes.items row =
    c.has.ensures.is ∙ ap (is_on c.args.side) c.comparison_of-truth.ensures ∙ ap₂ (λ (a b : ℕ). is_pair c.args.side c.args.op (value_at a left.known.values) (value_at b right.known.values)) v w in
    record {
      long = ap length c.set.ensures ∙ length-set c.loop-row.bits row c.has.result ∙ c.loop-row.invariant.long;
      rows = bits_next (paired c.args.side c.args.op left.known.values left.codes.items right.known.values right.codes.items) c.loop-row.bits c.set.new.self row c.has.result c.set.ensures on (omega (arith, c.loop-row.invariant.long, c.loop-row-test.true)) c.loop-row.invariant.rows;
    }

pub returns-clause-pairs : goal.returns-clause-pairs
returns-clause-pairs c = pairs_are c.args.side c.args.op _ _ _ _ c.args.count c.loop-row.bits c.requires.left_long c.requires.right_long c.loop-row.invariant.long (λ i h. c.loop-row.invariant.rows i (omega (arith, c.loop-row-test.false)))
