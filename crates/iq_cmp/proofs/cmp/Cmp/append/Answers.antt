use Rattle.std.proofs.Common.{◌≡◌, ◌∙◌, length, arith}
use Rattle.std.proofs.lemmas.List.{length-append}
use Rattle.iq_cmp.specs.Relations.{planes_of}
use Rattle.iq_cmp.proofs.Pairs.{are_planes, planes_append}
use Rattle.iq_cmp.proofs.cmp.Cmp.append.Goals as goal

pub append-requires-clause-planes : goal.append-requires-clause-planes
append-requires-clause-planes g c =
    rw (c.in_ok-less.ensures, c.in_ok-equal.ensures, c.in_ok-greater.ensures, c.len-n.ensures) (are_planes c.args.first.now.values c.args.second.now.values c.requires.long)

pub returns-clause-ok : goal.returns-clause-ok
returns-clause-ok g c = λ vs ws h.
    let more = c.in_ok-append.ensures.ok (planes_of vs ws) h.held in
    let both : length vs ≡ length ws = omega (arith, h.slots, h.second) in
    record {
      slots = length-append vs c.args.first.now.values ∙ (omega (arith, h.slots, c.len-n.ensures));
      second = length-append ws c.args.second.now.values ∙ (omega (arith, h.second, c.len-n.ensures, c.requires.long));
      held = rw (c.in_ok-less.ensures, c.in_ok-equal.ensures, c.in_ok-greater.ensures, planes_append vs ws c.args.first.now.values c.args.second.now.values both) at more;
    }
