use Rattle.std.proofs.Common.{◌≡◌, ℕ, length, ap, ◌∙◌, arith}
use Rattle.std.proofs.lemmas.List.{length-set}
use Rattle.iq_cells.specs.Packed.{value_at}
use Rattle.iq_truth.specs.declared.truth.Side.TheVariants as sides
use Rattle.iq_truth.specs.Sides.{is_on}
use Rattle.iq_cmp.specs.Relations.{is_pair}
use Rattle.iq_cmp.proofs.Pairs.{bits_next, pairs_are}
use Rattle.iq_cmp.proofs.cmp.pairs.Goals as goal

pub loop-row-preserved : goal.loop-row-preserved
loop-row-preserved c =
    let row = c.loop-row.row in
    let on : c.has.result ≡ is_pair sides.True c.args.op (value_at row c.args.first.now.values) (value_at row c.args.second.now.values) =
    c.has.ensures.is ∙ ap (is_on sides.True) c.comparison_of.ensures in
    record {
      long = ap length c.set.ensures ∙ length-set c.loop-row.bits row c.has.result ∙ c.loop-row.invariant.long;
      rows = rw c.set.ensures (bits_next (λ (i : ℕ). is_pair sides.True c.args.op (value_at i c.args.first.now.values) (value_at i c.args.second.now.values)) c.loop-row.bits row c.has.result on
          (omega (arith, c.loop-row.invariant.long, c.loop-row-test.true)) c.loop-row.invariant.rows);
    }

pub returns : goal.returns
returns c = pairs_are c.args.op c.args.first.now.values c.args.second.now.values c.loop-row.bits (c.loop-row.invariant.long ∙ c.len-count.ensures) c.requires.long
    (λ i h. c.loop-row.invariant.rows i (omega (arith, h, c.len-count.ensures, c.loop-row-test.false)))
