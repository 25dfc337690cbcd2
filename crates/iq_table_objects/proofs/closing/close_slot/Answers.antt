use Rattle.iq_table_objects.proofs.ClosingLemmas.{settled_is}
use Rattle.iq_table_objects.proofs.closing.close_slot.Goals as goal

pub returns-clause-settled : goal.returns-clause-settled
returns-clause-settled g c = λ all told.
    settled_is (g.T.Taker.left c.close.new.space) (record { reference = c.in_ok-slot.field-0; object = c.close.new.self }) all c.in_ok-slot.ensures.is_in.few
    (c.in_ok-slot.ensures.closed all told) (c.in_ok-slot.ensures.stands all told)
