use Rattle.std.proofs.Common.{ap, arith}
use Rattle.iq_block_store.specs.Frames.{framed, body_kind, gate_kind}
use Rattle.iq_root.specs.Roots.{body_place, gate_place}
use Rattle.iq_root.proofs.StepLemmas.{stored_long, stored_long_ok, slot_put}
use Rattle.iq_root.proofs.formatting.put_slot.Goals as goal

pub put-requires-2 : goal.put-requires-2
put-requires-2 g c = λ all told. omega (arith, c.requires.slot, stored_long _ _ _ _ _ c.in_ok-put.ensures.written.content c.requires.long all told)

pub returns-clause-ok : goal.returns-clause-ok
returns-clause-ok g c = slot_put c.args.slot c.args.gate c.args.root.now _ _ _ _ _ _ _
    (ap (framed body_kind (body_place c.args.slot) 0) c.body_page-body.ensures.page)
    (ap (framed gate_kind (gate_place c.args.slot) 0) c.gate_page.ensures)
    c.in_ok-put.ensures.written.content c.put-2.ensures.written.content

pub returns-clause-long : goal.returns-clause-long
returns-clause-long g c = stored_long_ok _ _ _ _ _ c.put-2.ensures.written.content (stored_long _ _ _ _ _ c.in_ok-put.ensures.written.content c.requires.long)
