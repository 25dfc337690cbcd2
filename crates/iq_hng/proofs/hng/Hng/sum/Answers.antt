use Rattle.std.proofs.Common.{◌≡◌, ◌*◌}
use Rattle.iq_hng.specs.Keys.{bits_of, half}
use Rattle.iq_hng.specs.Slices.{Stands}
use Rattle.iq_hng.specs.Sums.{count_on}
use Rattle.iq_hng.proofs.Orders.{some_bits}
use Rattle.iq_hng.proofs.Sums.{all_low, difference_of}
use Rattle.iq_hng.proofs.hng.Hng.sum.Goals as goal

pub returns-clause-sum : goal.returns-clause-sum
returns-clause-sum g c = λ values h.
    let bits = bits_of c.args.self.now.width in
    let mid : Stands c.args.self.now (g.S.PageSource.told c.count_in.new.source) values = record { slots = h.slots; numbers = h.numbers; held = rw (c.count_in.ensures.reads.kept.told c.args.self.now.object) h.held } in
    let up : c.times_power-up.result ≡ count_on bits 0 c.args.found.now values * half bits = rw (c.bits.ensures, c.in_ok-some.ensures.count values h) at c.times_power-up.ensures.value in
    let low = c.in_ok-lifted.ensures.sum values mid in
    difference_of c.in_ok-lifted.lifted c.times_power-up.result (count_on bits 0 c.args.found.now values * half bits) _ _ c.in_ok-lifted.ensures.short c.times_power-up.ensures.most low up (all_low bits c.args.found.now values (some_bits c.args.self.now.width) h.numbers)
