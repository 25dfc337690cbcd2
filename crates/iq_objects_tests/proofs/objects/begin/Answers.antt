use Rattle.std.proofs.Common.{rules, arith, sym, ◌≡◌, ◌∙◌, ◌<◌, ◌^◌, ℕ, length}
use Rattle.iq_objects_tests.proofs.objects.begin.Goals as goal

pub run-requires-clause-stands : goal.run-requires-clause-stands
run-requires-clause-stands g c = λ all told.
    let size : c.in-Ok.blocks ≡ length all = c.in-Ok.ensures.content.told all (sym c.in-Ok.ensures.content.unchanged ∙ told) in
    let small : c.in-Ok.blocks < 2 ^ 32 = search rules in
    let spare = c.if-are_spare.ensures (search rules) (g.D.Device.blocks c.count.new.self)
    (λ blocks is. c.in-Ok.ensures.content.told blocks (sym c.in-Ok.ensures.content.unchanged ∙ is)) in
    c.requires (g.D.Device.blocks c.count.new.self) _ spare all (omega (arith, size, small))
