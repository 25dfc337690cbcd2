use Rattle.std.proofs.Common.{◌<◌, length, arith}
use Rattle.std.proofs.lemmas.List.{length-map}
use Rattle.iq_numbering.proofs.Numbering.{numbered_to_none, numbered_to_next, numbered_all, keys_least, keys_most}
use Rattle.iq_numbering.proofs.places.number_by.Goals as goal

pub loop-i-init : goal.loop-i-init
loop-i-init g c =
    let none = numbered_to_none _ _ _ c.args.cells.now.values _ _ c.requires.kind c.requires.distinct c.in_ok-codes.ensures.items c.in_ok-keys.ensures in
    let long = length-map c.in_ok-keys.keys.keys g.K.OfBytes.bytes in
    record { numbered = none; least = keys_least _ _ _ _ _ _ _ long none; most = keys_most _ _ _ _ _ _ _ long none }

pub loop-i-preserved : goal.loop-i-preserved
loop-i-preserved g c =
    let within : c.loop-i.i < length c.args.cells.now.values = omega arith in
    let next = numbered_to_next _ _ _ _ _ _ _ _ within c.loop-i.invariant.numbered c.in_ok-code_of.ensures in
    let long = length-map c.code_of.new.keys.keys g.K.OfBytes.bytes in
    record {
      numbered = rw c.in_ok-push.ensures.items next;
      least = keys_least _ _ _ _ _ _ _ long next;
      most = keys_most _ _ _ _ _ _ _ long next;
    }

pub returns-clause-ok : goal.returns-clause-ok
returns-clause-ok g c =
    let long = length-map c.loop-i.keys.keys g.K.OfBytes.bytes in
    numbered_all _ _ _ _ _ _ _ (omega arith) (omega (arith, long, c.len-3.ensures.len, c.len-4.ensures)) c.loop-i.invariant.numbered
