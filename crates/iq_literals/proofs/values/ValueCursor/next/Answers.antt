use Rattle.std.proofs.Common.{rules, ◌≡◌, length, ◌<◌, drop, arith, sym, ◌∙◌, drop-drop}
use Rattle.iq_literals.proofs.Firsts.{IsStep, step, done}
use Rattle.iq_literals.proofs.values.ValueCursor.next.Goals as goal

pub returns-then-is_empty : goal.returns-then-is_empty
returns-then-is_empty c =
    let none : length c.self.inside.bytes.now ≡ 0 = search rules in
    sym c.self.view_is ∙ done _ _ c.self.invariant.0 none

pub value_in-value-requires : goal.value_in-value-requires
value_in-value-requires c =
    let some : 0 < length c.self.inside.bytes.now = search rules in
    (step _ _ c.self.invariant.0 some).can

pub size_in-requires : goal.size_in-requires
size_in-requires c =
    let some : 0 < length c.self.inside.bytes.now = search rules in
    (step _ _ c.self.invariant.0 some).can

pub split_at-requires : goal.split_at-requires
split_at-requires c =
    let some : 0 < length c.self.inside.bytes.now = search rules in
    rw c.size_in.ensures (step _ _ c.self.invariant.0 some).can.within

pub invariant_of-self : goal.invariant_of-self
invariant_of-self c =
    let some : 0 < length c.self.inside.bytes.now = search rules in
    let is : IsStep (drop c.self.inside.at c.self.inside.all.value.value) c.self.inside.bytes.now = step _ _ c.self.invariant.0 some in
    (rw (c.split_at.ensures.back, c.size_in.ensures, ← drop-drop 1 c.self.inside.at c.self.inside.all.value.value) is.rest, omega (arith, c.split_at.ensures.back_len, c.size_in.ensures, is.some, is.can.within, c.self.invariant.1))

pub returns : goal.returns
returns c =
    let some : 0 < length c.self.inside.bytes.now = search rules in
    let is : IsStep (drop c.self.inside.at c.self.inside.all.value.value) c.self.inside.bytes.now = step _ _ c.self.invariant.0 some in
    rw (← c.self.view_is, c.value_in-value.ensures, ← drop-drop 1 c.self.inside.at c.self.inside.all.value.value) is.next
