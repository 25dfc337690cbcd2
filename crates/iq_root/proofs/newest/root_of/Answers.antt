use Rattle.std.proofs.Common.{ap, arith, length, length-append, [], ◌∷◌}
use Rattle.iq_root.proofs.PageLemmas.{numbers_go_on}
use Rattle.iq_root.proofs.newest.root_of.Goals as goal

pub loop-k-preserved : goal.loop-k-preserved
loop-k-preserved c = record {
  size = omega (arith, c.loop-k.invariant.size, ap length c.push.ensures, length-append c.loop-k.tables (c.number_at.result ∷ []));
  goes_on = numbers_go_on c.args.body.now c.loop-k.tables c.push.new.self _ c.number_at.result _ c.loop-k.k c.push.ensures c.number_at.ensures
      (omega (arith, c.loop-k-test.true, c.number_at-k-end.ensures)) c.loop-k.invariant.goes_on;
}
