use Rattle.std.proofs.Common.{arith, ap, get_or, length, ◌<◌, ◌^◌}
use Rattle.std.proofs.lemmas.List.Elements.{All-from_get_or}
use Rattle.iq_block_store.proofs.FrameLemmas.{length-bytes_of}
use Rattle.iq_root.proofs.PageLemmas.{IsDone-at, one_more}
use Rattle.iq_root.proofs.pages.put_all.Goals as goal

pub loop-k-preserved : goal.loop-k-preserved
loop-k-preserved c done start =
    IsDone-at _ _ _ _ _
    (omega (arith, ap length c.bytes_of.ensures.bytes, length-bytes_of (get_or c.args.tables.now c.loop-k.k 0)))
    (one_more done _ c.args.tables.now c.loop-k.k c.loop-k-test.true c.bytes_of.ensures.bytes)
    (c.put.ensures _ (c.loop-k.invariant done start))

pub returns-clause-fits : goal.returns-clause-fits
returns-clause-fits c = All-from_get_or (λ address. address < 2 ^ 32) c.args.tables.now 0 (λ i within. omega (arith, c.type_inv.tables i))
