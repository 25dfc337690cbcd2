use Rattle.std.proofs.Common.{◌≡◌, sym, ap, ◌∙◌, subst, arith}
use Rattle.iq_turnstile.proofs.Keeps.{joins_allowed}
use Rattle.iq_turnstile.proofs.Closing.{last_of, joined_first, joined_more, closes}
use Rattle.iq_turnstile.specs.Passes.{AllAgree}
use Rattle.iq_turnstile.proofs.turnstile.Turnstile.into_state.Goals as goal

pub loop-other-init : goal.loop-other-init
loop-other-init g c = joined_first c.args.self c.args.passes.items c.pop.new.self.items c.in-Some.field-0 c.in-Some.ensures.items c.requires.here

pub join_seat-requires : goal.join_seat-requires
join_seat-requires g c =
    let before = c.loop-other.invariant in
    let one = last_of c.args.self c.args.passes.items c.loop-other.passes.items c.pop-in-loop-other.new.self.items c.in-Some-pop.field-0 c.in-Some-pop.ensures.items before.others in
    let words = c.args.self.words in (
      before.place,
      one.at.place,
      ap (λ m. m.1) one.at.knows,
      omega arith,
      joins_allowed g.S.Shared.agrees g.S.Shared.apart g.S.Shared.both_ways _ _ _ _ _ _ _ _ _ before.knows one.at.knows before.some_part,
    )

pub loop-other-preserved : goal.loop-other-preserved
loop-other-preserved g c = joined_more c.args.self c.args.passes.items _ _ c.in-Some-pop.field-0 c.loop-other.seat c.join_seat.new.seat c.loop-other.invariant c.in-Some-pop.ensures.items c.join_seat.ensures.0 c.join_seat.ensures.2

pub unreachable-requires-in_default-slot : goal.unreachable-requires-in_default-slot
unreachable-requires-in_default-slot g c =
    let got = closes c.args.self c.args.passes.items g.S.Shared.agrees g.S.Shared.apart g.S.Shared.both_ways _ _ c.loop-other.seat _ _ _ c.loop-other.invariant (omega (arith, c.in_default-pop.ensures.cases.0)) (c.requires.whole ∙ sym c.args.self.all) c.close_with-closed.ensures.values.2 c.take-slot.ensures.value in
    c.in_default-slot.not-Some got.0 got.1

pub returns : goal.returns
returns g c =
    let got = closes c.args.self c.args.passes.items g.S.Shared.agrees g.S.Shared.apart g.S.Shared.both_ways _ _ c.loop-other.seat _ _ _ c.loop-other.invariant (omega (arith, c.in_default-pop.ensures.cases.0)) (c.requires.whole ∙ sym c.args.self.all) c.close_with-closed.ensures.values.2 c.take-slot.ensures.value in
    let is = c.in-Some-slot.is in
    let known = got.1 in
    let same : got.0 ≡ c.in-Some-slot.state = cc in
    subst (λ s. AllAgree g.S.Shared.agrees g.S.Shared.apart c.args.passes.items s) same got.2
