use Rattle.iq_block_map.proofs.PutLemmas.{put_one, put_none, looked_same, first_inside, first_above, written_ok}
use Rattle.iq_block_map.proofs.RewriteLemmas.{spare_after, place_after}
use Rattle.iq_objects.proofs.blocks.put.Goals as goal

pub returns-in_default-clause-put : goal.returns-in_default-clause-put
returns-in_default-clause-put g c = rw (c.in_default.ensures.0, c.in_default.ensures.1) (put_none _ _ _ _ (looked_same _ _))

pub returns-in-Ok-clause-put : goal.returns-in-Ok-clause-put
returns-in-Ok-clause-put g c = put_one g.D.Device c.in-Some.at _ _ _ c.write.result c.args.disk.now c.write.new.disk c.in-Some.ensures c.write.ensures.written

pub returns-in-Ok-clause-spare : goal.returns-in-Ok-clause-spare
returns-in-Ok-clause-spare g c = spare_after g.D.Device _ _ c.args.disk.now c.write.new.disk c.requires.spare
    (put_one g.D.Device c.in-Some.at _ _ _ c.write.result c.args.disk.now c.write.new.disk c.in-Some.ensures c.write.ensures.written)

pub returns-in-Ok-clause-is_in : goal.returns-in-Ok-clause-is_in
returns-in-Ok-clause-is_in g c = place_after g.D.Device _ _ c.args.disk.now c.write.new.disk c.in-Some.at
    (record { above = first_above _ _ _ _ c.requires.spare c.in-Some.ensures; below = λ all told. first_inside _ all _ _ _ c.requires.spare told c.in-Some.ensures })
    (put_one g.D.Device c.in-Some.at _ _ _ c.write.result c.args.disk.now c.write.new.disk c.in-Some.ensures c.write.ensures.written)

pub returns-in-Ok-clause-block : goal.returns-in-Ok-clause-block
returns-in-Ok-clause-block g c = λ all told. written_ok c.write.result _ _ _ _ c.in-Ok.is c.write.ensures.written.content all told

pub returns-in-Err-StoreFault-clause-put : goal.returns-in-Err-StoreFault-clause-put
returns-in-Err-StoreFault-clause-put g c = put_one g.D.Device c.in-Some.at _ _ _ c.write.result c.args.disk.now c.write.new.disk c.in-Some.ensures c.write.ensures.written

pub returns-in-Err-StoreFault-clause-spare : goal.returns-in-Err-StoreFault-clause-spare
returns-in-Err-StoreFault-clause-spare g c = spare_after g.D.Device _ _ c.args.disk.now c.write.new.disk c.requires.spare
    (put_one g.D.Device c.in-Some.at _ _ _ c.write.result c.args.disk.now c.write.new.disk c.in-Some.ensures c.write.ensures.written)
