use Rattle.std.proofs.Common.{◌∙◌, arith}
use Rattle.std.proofs.lemmas.List.{length-append}
use Rattle.std.proofs.lemmas.List.Elements.{All-append}
use Rattle.iq_planes.specs.Planes.{AppendsRows}
use Rattle.iq_hng.specs.Keys.{bits_of, IsSlice}
use Rattle.iq_hng.specs.Slices.{planes_in, planes_of}
use Rattle.iq_hng.proofs.Rows.{are_planes, planes_append}
use Rattle.iq_hng.proofs.hng.Hng.append.Goals as goal

pub append-requires-clause-planes : goal.append-requires-clause-planes
append-requires-clause-planes g c =
    rw (c.as_slice.ensures.value, c.in_ok-more.ensures.planes, c.len-n.ensures, (are_planes (bits_of c.args.self.now.width) c.args.numbers.now.values).count) (are_planes (bits_of c.args.self.now.width) c.args.numbers.now.values)

pub returns-clause-ok : goal.returns-clause-ok
returns-clause-ok g c = λ values h.
    let bits = bits_of c.args.self.now.width in
    let law : AppendsRows (planes_in c.args.self.now) c.args.self.now.slots c.len-n.result (planes_of bits c.args.numbers.now.values) (g.S.PageSource.told c.args.sink.now c.args.self.now.object) (g.S.PageSource.told c.append.new.sink c.args.self.now.object) =
    rw (c.as_slice.ensures.value, c.in_ok-more.ensures.planes, (are_planes bits c.args.numbers.now.values).count) at c.in_ok-append.ensures.ok in
    record {
      slots = length-append values c.args.numbers.now.values ∙ (omega (arith, h.slots, c.len-n.ensures));
      numbers = All-append (IsSlice bits) values c.args.numbers.now.values h.numbers c.in_ok-more.ensures.slices;
      held = rw (planes_append bits values c.args.numbers.now.values) at (law (planes_of bits values) h.held);
    }
